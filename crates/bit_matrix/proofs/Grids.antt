-- Where the bits of a matrix lie, and what becomes of them.
use Rattle.std.proofs.Common.{◌≡◌, ◌≢◌, ℕ, ◌+◌, ◌-◌, ◌*◌, ◌<◌, ◌≤◌, Bool, true, false, ◌||◌, List, [], ◌∷◌, ◌++◌, Some, length, map, get_or, slice_get, slice_range, refl, sym, ◌∙◌, ap, subst, inl, inr, arith, zero, suc, ◌^◌, not, nat_eq}
use Rattle.std.specs.Prelude.{◌⊎◌, ◌↔◌}
use Rattle.std.proofs.lemmas.Bool.{cases_lt, cases_eq, true≢false}
use Rattle.std.proofs.lemmas.Bool.Decides.{nat_tests}
use Rattle.std.proofs.lemmas.List.{map-append}
use Rattle.std.proofs.Math.Nat.{mul-le-mul_right}
use Rattle.std.proofs.lemmas.Option.{slice_get-get_or}
use Rattle.bit_addressing.specs.Bits.{has_bit}
use Rattle.bit_addressing.specs.Row.{moved, number_of, put, row_of, source_of}
use Rattle.bit_addressing.specs.Text.{digit_of}
use Rattle.bit_addressing.proofs.Chunks.{has_number}
use Rattle.bit_addressing.proofs.Rows.{get_or-row_one}
use Rattle.bit_addressing.proofs.lists.Moved.{get_or-moved}
use Rattle.bit_addressing.proofs.lists.Put.{put_before, put_after, put_inside}
use Rattle.bit_addressing.proofs.lists.Shown.{get_or-run, length-run}
use Rattle.bit_containers.proofs.Removing.{run_back}
use Rattle.bit_matrix.specs.Matrix.{Grid, AreAlike, IsPath, IsSet, item}
use Rattle.bit_matrix.proofs.Paths.{ArePathsOver, all_paths}

-- a row ends before the next one begins
row_ends : (i a columns : ℕ) → i < a → i * columns + columns ≤ a * columns
row_ends i a columns less =
    let up : (i + 1) * columns ≤ a * columns = mul-le-mul_right columns (let h : i + 1 ≤ a = omega arith in h) in
    omega arith

-- the bit in row i and column j lies in the list
pub place_inside : (rows columns i j : ℕ) → i < rows → j < columns → i * columns + j < rows * columns
place_inside rows columns i j row column =
    let up = row_ends i rows columns row in
    omega arith

-- a row lies inside the grid
pub row_inside : (rows columns i : ℕ) → i < rows → i * columns + columns ≤ rows * columns
row_inside rows columns i row = row_ends i rows columns row

-- two rows lie apart
rows_apart : (i a columns : ℕ) → i ≢ a → (i * columns + columns ≤ a * columns) ⊎ (a * columns + columns ≤ i * columns)
rows_apart i a columns differ = elim (cases_lt i a) [
  | inl less ↦ inl (row_ends i a columns less)
  | inr up ↦ inr (row_ends a i columns (omega arith))
]

-- another row or another column is another index
pub other_place : (i j a b columns : ℕ) → j < columns → b < columns → (i ≢ a) ⊎ (j ≢ b) → i * columns + j ≢ a * columns + b
other_place i j a b columns inside within differ same = elim (cases_lt i a) [
  | inl less ↦ (let up = row_ends i a columns less in absurd (omega arith))
  | inr l ↦ elim (cases_lt a i) [
    | inl less ↦ (let up = row_ends a i columns less in absurd (omega arith))
    | inr m ↦
        let is : i ≡ a = omega arith in
        let line : i * columns ≡ a * columns = ap (λ k. k * columns) is in
        elim differ [ inl apart ↦ apart is | inr apart ↦ apart (omega arith) ]
  ]
]

source_out : (s d n j : ℕ) → (j < d) ⊎ (d + n ≤ j) → source_of s d n j ≡ j
source_out s d n j out = grind (arith, nat_tests)

-- a bit outside a run that was moved
pub bit_left : (xs : List Bool) (s d n j : ℕ) → j < length xs → (j < d) ⊎ (d + n ≤ j) → get_or (moved xs s d n) j false ≡ get_or xs j false
bit_left xs s d n j inside out = get_or-moved xs s d n j inside ∙ ap (λ k. get_or xs k false) (source_out s d n j out)

-- an index in another row is before or after a row
pub place_apart : (i j a columns : ℕ) → j < columns → i ≢ a → (i * columns + j < a * columns) ⊎ (a * columns + columns ≤ i * columns + j)
place_apart i j a columns inside differ = elim (rows_apart i a columns differ) [ inl low ↦ inl (omega arith) | inr high ↦ inr (omega arith) ]

either : (a b : Bool) → (a || b) ≡ true → (a ≡ true) ⊎ (b ≡ true)
either true b is = inl refl
either false b is = inr is

second : (a b : Bool) → b ≡ true → (a || b) ≡ true
second true b is = refl
second false b is = is

-- the bits that are set where a row is or-ed into another
pub row_sets : (old new : Grid) (into from : ℕ) → into < old.rows → from < old.rows → AreAlike new old → ((j : ℕ) → j < old.columns → item new into j ≡ (item old into j || item old from j)) → ((i j : ℕ) → i < old.rows → j < old.columns → i ≢ into → item new i j ≡ item old i j)
    → (i j : ℕ) → IsSet new i j ↔ (IsSet old i j ⊎ ((i ≡ into) × IsSet old from j))
row_sets old new into from inside within alike row others i j =
    let here : i ≡ into → (k : ℕ) → item old i k ≡ item old into k = (λ e k. ap (λ r. item old r k) e) in
    let now : i ≡ into → j < old.columns → item new i j ≡ (item old into j || item old from j) = (λ e h. ap (λ r. item new r j) e ∙ row j h) in
    let tall : i < new.rows → i < old.rows = subst (λ n. i < n) alike.0 in
    let wide : j < new.columns → j < old.columns = subst (λ n. j < n) alike.1 in
    let higher : i < old.rows → i < new.rows = subst (λ n. i < n) (sym alike.0) in
    let wider : j < old.columns → j < new.columns = subst (λ n. j < n) (sym alike.1) in (
      λ s. elim (cases_eq i into) [
        | inl e ↦ elim (either (item old into j) (item old from j) (sym (now e (wide s.1)) ∙ s.2)) [
          | inl a ↦ inl (tall s.0, wide s.1, here e j ∙ a)
          | inr b ↦ inr (e, (within, wide s.1, b))
        ]
        | inr n ↦ inl (tall s.0, wide s.1, sym (others i j (tall s.0) (wide s.1) n) ∙ s.2)
      ],
      λ w. elim w [
        | inl o ↦ elim (cases_eq i into) [
          | inl e ↦ (higher o.0, wider o.1, now e o.1 ∙ ap (λ b. b || item old from j) (sym (here e j) ∙ o.2))
          | inr n ↦ (higher o.0, wider o.1, others i j o.0 o.1 n ∙ o.2)
        ]
        | inr t ↦ (higher (subst (λ k. k < old.rows) (sym t.0) inside), wider t.1.1, now t.0 t.1.1 ∙ second (item old into j) (item old from j) t.1.2)
      ],
    )

-- a row that has an edge to a node, and to which the edges from there were added, and a row that has none
pub row_leads : (old new : Grid) (row k : ℕ) → row < old.rows → k < old.rows → IsSet old row k → AreAlike new old → ((j : ℕ) → j < old.columns → item new row j ≡ (item old row j || item old k j)) → ((i j : ℕ) → i < old.rows → j < old.columns → i ≢ row → item new i j ≡ item old i j)
    → (i j : ℕ) → IsSet new i j ↔ (IsSet old i j ⊎ ((i ≡ row) × IsSet old row k × IsSet old k j))
row_leads old new row k inside node leads alike ored others i j =
    let sets = row_sets old new row k inside node alike ored others i j in
    (λ s. elim (sets.0 s) [ inl o ↦ inl o | inr t ↦ inr (t.0, leads, t.1) ], λ w. sets.1 (elim w [ inl o ↦ inl o | inr t ↦ inr (t.0, t.2) ]))

-- a row without the bit leads nowhere by it
pub row_leads_not : (old : Grid) (row k : ℕ) → item old row k ≡ false → (i j : ℕ) → IsSet old i j ↔ (IsSet old i j ⊎ ((i ≡ row) × IsSet old row k × IsSet old k j))
row_leads_not old row k none i j = (λ s. inl s, λ w. elim w [ inl o ↦ o | inr t ↦ absurd (true≢false (sym t.1.2 ∙ none)) ])

-- a graph whose edges are the paths over all nodes of another is its transitive closure
pub closed : (old now : Grid) (n : ℕ) → old.rows ≤ n → ArePathsOver (IsSet old) (IsSet now) 0 n → (i j : ℕ) → IsSet now i j ↔ IsPath (IsSet old) i j
closed old now n past are = all_paths (IsSet old) (IsSet now) n (λ x y e. (let h = e.0 in omega arith)) are

-- ---- a part of a row in whose place other bits were put

module _ (xs ys : List Bool) (rows columns row column count start : ℕ) (size : length xs ≡ rows * columns) (inside : row < rows) (within : column + count ≤ columns) (many : length ys ≡ count) (at : start ≡ row * columns + column) where
  -- inside the written part of a row the bits are those written
  pub part_put : (j : ℕ) → j < count → get_or (put xs start ys) (row * columns + (column + j)) false ≡ get_or ys j false
  part_put j below =
      let up = row_ends row rows columns inside in
      let back : row * columns + (column + j) - start ≡ j = omega arith in
      put_inside xs ys start (row * columns + (column + j)) false (omega arith) (omega arith) (omega arith) ∙ ap (λ k. get_or ys k false) back

  out : (i j : ℕ) → j < columns → (i ≢ row) ⊎ ((j < column) ⊎ (column + count ≤ j)) → (i * columns + j < start) ⊎ (start + count ≤ i * columns + j)
  out i j below apart = elim (cases_eq i row) [
    | inl same ↦
        let line : i * columns ≡ row * columns = ap (λ k. k * columns) same in
        elim apart [
          | inl other ↦ absurd (other same)
          | inr beside ↦ elim beside [ inl low ↦ inl (omega arith) | inr high ↦ inr (omega arith) ]
        ]
    | inr other ↦ elim (place_apart i j row columns below other) [ inl low ↦ inl (omega arith) | inr high ↦ inr (omega arith) ]
  ]

  -- outside the written part of a row the bits stay
  pub part_kept : (i j : ℕ) → j < columns → (i ≢ row) ⊎ ((j < column) ⊎ (column + count ≤ j)) → get_or (put xs start ys) (i * columns + j) false ≡ get_or xs (i * columns + j) false
  part_kept i j below apart =
      let up = row_ends row rows columns inside in
      elim (out i j below apart) [
        | inl low ↦ put_before xs ys start (i * columns + j) false (omega arith) low
        | inr high ↦ put_after xs ys start (i * columns + j) false (omega arith) (omega arith)
      ]

-- the first bits of a word
pub get_or-first_bits : (number count j : ℕ) → j < count → count ≤ 64 → get_or (slice_range (row_of (λ w i. i) 64 (number ∷ [])) 0 count) j false ≡ has_bit number j
get_or-first_bits number count j below few =
    let at : 0 + j ≡ j = omega arith in
    let upto : 0 + count ≡ count = omega arith in
    ap (λ k. get_or (slice_range (row_of (λ w i. i) 64 (number ∷ [])) 0 k) j false) (sym upto)
    ∙ get_or-run (row_of (λ w i. i) 64 (number ∷ [])) 0 count j below
    ∙ ap (λ k. get_or (row_of (λ w i. i) 64 (number ∷ [])) k false) at
    ∙ get_or-row_one (λ w i. i) 64 number j (omega arith) (omega arith)

-- a bit of a row is the one at its column in the row's part of the list
pub row_item : (xs : List Bool) (start columns end j : ℕ) → end ≡ start + columns → j < columns → get_or (slice_range xs start end) j false ≡ get_or xs (start + j) false
row_item xs start columns end j ends inside = ap (λ e. get_or (slice_range xs start e) j false) ends ∙ get_or-run xs start columns j inside

-- a number of one bit says the bit that it was read from
pub bit_loaded : (xs : List Bool) (at x : ℕ) → x ≡ number_of (slice_range xs at (at + 1)) → x < 2 ^ 1 → not (nat_eq x 0) ≡ get_or xs at false
bit_loaded xs at x is small =
    let same : at + 0 ≡ at = omega arith in
    one x small ∙ ap (λ v. has_bit v 0) is ∙ has_number (slice_range xs at (at + 1)) 0 ∙ row_item xs at 1 (at + 1) 0 refl (omega arith) ∙ ap (λ i. get_or xs i false) same
  where
    one : (x : ℕ) → x < 2 ^ 1 → not (nat_eq x 0) ≡ has_bit x 0
    one zero small = refl
    one (suc zero) small = refl
    one (suc (suc x)) small = absurd (omega arith)

-- a bit of a row's view is that of the grid
pub row_some : (xs : List Bool) (start columns end j : ℕ) → end ≡ start + columns → start + columns ≤ length xs → j < columns → slice_get (slice_range xs start end) j ≡ Some (get_or xs (start + j) false)
row_some xs start columns end j ends room inside =
    let long : length (slice_range xs start end) ≡ columns = ap (λ e. length (slice_range xs start e)) ends ∙ length-run xs start columns room in
    slice_get-get_or (slice_range xs start end) j false (omega arith) ∙ ap Some (row_item xs start columns end j ends inside)

-- one digit more of a row
pub digit_more : (xs : List Bool) (start n : ℕ) (written : List ℕ) → start + n < length xs → written ≡ digit_of (get_or xs (start + n) false) ∷ [] → map digit_of (slice_range xs start (start + n)) ++ written ≡ map digit_of (slice_range xs start (start + (n + 1)))
digit_more xs start n written inside is =
    let last : start + (n + 1) - 1 ≡ start + n = omega arith in
    ap (λ l. map digit_of (slice_range xs start (start + n)) ++ l) is ∙ sym (map-append digit_of (slice_range xs start (start + n)) (get_or xs (start + n) false ∷ []))
    ∙ ap (map digit_of) (sym (run_back xs start (start + (n + 1)) (omega arith) (omega arith) ∙ ap (λ k. slice_range xs start k ++ get_or xs k false ∷ []) last))
