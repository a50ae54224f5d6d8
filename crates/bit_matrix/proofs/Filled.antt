-- Rows that are written by the results of a function.
use Rattle.std.proofs.Common.{◌≡◌, ℕ, ◌+◌, ◌*◌, ◌<◌, ◌≤◌, Bool, false, List, [], ◌∷◌, ◌++◌, get_or, length, map, refl, sym, ◌∙◌, ap, arith}
use Rattle.std.specs.List.{All, range_with_len}
use Rattle.std.proofs.lemmas.List.{ext_get_or, get_or-map, length-map, map-append}
use Rattle.std.proofs.lemmas.List.FromFn.{length-range_with_len, get_or-range_with_len}
use Rattle.bit_addressing.proofs.lists.Shown.{get_or-run, length-run}
use Rattle.bit_slice.proofs.Places.{ranges_joined}
use Rattle.bit_slice.specs.Closures.{CallableFrom, ResultsFrom}
use Rattle.bit_matrix.specs.Matrix.{Grid, item, row_bits}
use Rattle.bit_matrix.specs.Making.{CallableAtRows, RowsFrom}
use Rattle.bit_matrix.proofs.Grids.{row_inside}
use Rattle.bit_matrix.proofs.Rowed.{same_maps}

-- a row is as long as there are columns
pub length-row : (m : Grid) (i : ℕ) → i < m.rows → length m.bits ≡ m.rows * m.columns → length (row_bits m i) ≡ m.columns
length-row m i tall size = let up = row_inside m.rows m.columns i tall in length-run m.bits (i * m.columns) m.columns (omega arith)

get_or-row : (m : Grid) (i j : ℕ) → j < m.columns → get_or (row_bits m i) j false ≡ item m i j
get_or-row m i j low = get_or-run m.bits (i * m.columns) m.columns j low

-- a row with these bits is their list
pub row_written : (m : Grid) (i : ℕ) (bits : List Bool) → i < m.rows → length m.bits ≡ m.rows * m.columns → length bits ≡ m.columns → ((j : ℕ) → j < m.columns → item m i j ≡ get_or bits j false) → row_bits m i ≡ bits
row_written m i bits tall size long same =
    let row = length-row m i tall size in
    ext_get_or false (row_bits m i) bits (row ∙ sym long) (λ j h. let low : j < m.columns = omega arith in get_or-row m i j low ∙ same j low)

-- a row whose bits stay stays
pub row_kept : (m new : Grid) (i : ℕ) → i < m.rows → new.rows ≡ m.rows → new.columns ≡ m.columns → length m.bits ≡ m.rows * m.columns → length new.bits ≡ new.rows * new.columns → ((j : ℕ) → j < m.columns → item new i j ≡ item m i j) → row_bits new i ≡ row_bits m i
row_kept m new i tall rows columns size new_size same =
    row_written new i (row_bits m i) (omega arith) new_size (length-row m i tall size ∙ sym columns) (λ j h. let low : j < m.columns = omega arith in same j low ∙ sym (get_or-row m i j low))

-- rows that stay
pub rows_kept : (m new : Grid) (n : ℕ) → ((i : ℕ) → i < n → row_bits new i ≡ row_bits m i) → map (row_bits new) (range_with_len 0 n) ≡ map (row_bits m) (range_with_len 0 n)
rows_kept m new n same =
    let size : length (range_with_len 0 n) ≡ n = length-range_with_len 0 n in
    ap (λ k. map (row_bits new) (range_with_len 0 k)) (sym size)
    ∙ same_maps (row_bits new) (row_bits m) (range_with_len 0 n) 0 (λ k d h. (let low : k < n = omega arith in let at : 0 + k ≡ k = omega arith in ap (row_bits new) at ∙ same k low ∙ ap (row_bits m) (sym (get_or-range_with_len 0 n k d low ∙ at))))

-- one row more
pub rows_more : (m : Grid) (n : ℕ) → map (row_bits m) (range_with_len 0 (n + 1)) ≡ map (row_bits m) (range_with_len 0 n) ++ row_bits m n ∷ []
rows_more m n =
    let z : 0 + n ≡ n = omega arith in
    ap (map (row_bits m)) (ranges_joined 0 n 1) ∙ map-append (row_bits m) (range_with_len 0 n) (range_with_len (0 + n) 1)
    ∙ ap (λ k. map (row_bits m) (range_with_len 0 n) ++ row_bits m k ∷ []) z

-- n rows of a grid are n
pub rows_count : (m : Grid) (n : ℕ) → length (map (row_bits m) (range_with_len 0 n)) ≡ n
rows_count m n = length-map (range_with_len 0 n) (row_bits m) ∙ length-range_with_len 0 n

-- each row of a grid has as many bits as it has columns
pub rows_long : (m : Grid) (n : ℕ) → n ≤ m.rows → length m.bits ≡ m.rows * m.columns → All (λ bits. length bits ≡ m.columns) (map (row_bits m) (range_with_len 0 n))
rows_long m n tall size k d h =
    let low : k < n = omega (arith, rows_count m n) in
    let at : get_or (range_with_len 0 n) k 0 ≡ k = get_or-range_with_len 0 n k 0 low ∙ omega arith in
    ap length (get_or-map (row_bits m) (range_with_len 0 n) k 0 d (omega (arith, length-range_with_len 0 n)) ∙ ap (row_bits m) at) ∙ length-row m k (omega arith) size

-- a row more that the function gave
module _ {F : Type 0} (step : F → ℕ → ℕ → Bool → F → Type 0) where
  -- a row made after the others is made from the next calls
  pub rows_then : (f : F) (i : ℕ) (done : List (List Bool)) (s : F) (j : ℕ) (bits : List Bool) (t : F) → RowsFrom step f i done s → ResultsFrom (λ p k given q. step p j k given q) s 0 bits t → j ≡ i + length done → RowsFrom step f i (done ++ bits ∷ []) t
  rows_then f i [] s j bits t run more at =
      let same : j ≡ i = omega arith in
      (t, rw (run, ← same) more, refl)
  rows_then f i (row ∷ done) s j bits t run more at = (run.0, run.1, rows_then run.0 (i + 1) done s j bits t run.2 more (omega arith))

-- it may be called in the next row
pub callable_row : {F : Type 0} (pre : F → ℕ → ℕ → Type 0) (step : F → ℕ → ℕ → Bool → F → Type 0) (f : F) (rows columns : ℕ) (done : List (List Bool)) (s : F) (i : ℕ) → CallableAtRows pre step f rows columns → RowsFrom step f 0 done s → All (λ bits. length bits ≡ columns) done → i ≡ length done → i < rows → CallableFrom (λ p j. pre p i j) (λ p j given q. step p i j given q) s 0 columns
callable_row pre step f rows columns done s i callable run long at tall = record {
  at = λ results state j is below called. callable.at done results s state i j at tall (omega arith) below long run called;
}
