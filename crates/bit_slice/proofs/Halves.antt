-- A run of one half of a row, combined with a run of the other half.
use Rattle.std.proofs.Common.{◌≡◌, ℕ, ◌+◌, ◌*◌, ◌/◌, ◌%◌, ◌<◌, ◌≤◌, Bool, List, ◌++◌, map, length, slice_range, sym, ◌∙◌, ap, arith, rules, mul_comm}
use Rattle.std.specs.Simd.Lanes.{zip2}
use Rattle.std.proofs.lemmas.List.{length-append, map-append, places, same_lists}
use Rattle.std.proofs.lemmas.Nat.{div-add-mod'}
use Rattle.bit_addressing.specs.declared.store.BitStore as store
use Rattle.bit_addressing.specs.declared.order.BitOrder as order
use Rattle.bit_addressing.specs.Row.{put, row_of}
use Rattle.bit_addressing.specs.Typed.{row}
use Rattle.bit_addressing.proofs.Rows.{row_append}
use Rattle.bit_addressing.proofs.lists.Shown.{length-run}
use Rattle.bit_slice.specs.Operators.{combined}
use Rattle.bit_slice.proofs.Combining.{length-combined, zipped}
use Rattle.bit_slice.proofs.Parts.{row_size}

module _ {X Y : Type 0} (W : store.Ghosts X) (P : order.Ghosts Y) (positive : 0 < W.BITS) where
  -- the row of two halves
  pub row_halves : (xs ys : List X) → row W P (xs ++ ys) ≡ row W P xs ++ row W P ys
  row_halves xs ys = ap (row_of P.place W.BITS) (map-append W.value xs ys) ∙ row_append P.place W.BITS (map W.value xs) (map W.value ys) positive

  -- words that are cut where the word of bit `at` begins
  pub record IsCut (ws xs ys : List X) (at skip : ℕ) : Type 0 where
    pub halves : row W P ws ≡ row W P xs ++ row W P ys
    pub front : length (row W P xs) ≡ at / W.BITS * W.BITS
    pub begins : at ≡ length (row W P xs) + skip
    pub all : length (row W P xs) + length (row W P ys) ≡ W.BITS * length ws

  -- words cut at a place's word are a list cut there
  pub cut : (ws xs ys : List X) (at w : ℕ) → w ≡ W.BITS → ws ≡ xs ++ ys → length xs ≡ at / w → IsCut ws xs ys at (at % w)
  cut ws xs ys at w width is few =
      let rows : row W P ws ≡ row W P xs ++ row W P ys = ap (row W P) is ∙ row_halves xs ys in
      let size : length (row W P xs) ≡ at / W.BITS * W.BITS = row_size W P xs ∙ ap (λ k. W.BITS * k) (few ∙ ap (λ k. at / k) width) ∙ mul_comm W.BITS (at / W.BITS) in
      let skip : at % w ≡ at % W.BITS = ap (λ k. at % k) width in
      record { halves = rows; front = size; begins = omega (arith, size, skip, div-add-mod' at W.BITS); all = sym (length-append (row W P xs) (row W P ys)) ∙ ap length (sym rows) ∙ row_size W P ws }

-- a run of the front, and a run of the back
pub run_of_front : (xs ys : List Bool) (a b : ℕ) → b ≤ length xs → slice_range (xs ++ ys) a b ≡ slice_range xs a b
run_of_front xs ys a b h = same_lists _ _ (search (rules, places)) (λ i d below. grind (arith, places))

-- a run of the second list, read from both lists
pub run_of_back : (xs ys : List Bool) (a n : ℕ) → slice_range (xs ++ ys) (length xs + a) (length xs + a + n) ≡ slice_range ys a (a + n)
run_of_back xs ys a n = same_lists _ _ (search (rules, places)) (λ i d below. grind (arith, places))

-- a part put into the first list is put into both
pub put_front : (xs ys zs : List Bool) (d : ℕ) → d + length zs ≤ length xs → put xs d zs ++ ys ≡ put (xs ++ ys) d zs
unfolding put
put_front xs ys zs d h = same_lists _ _ (search (rules, places)) (λ i e below. grind (arith, places))

-- a part put into the second list is put into both, after the first
pub put_back : (xs ys zs : List Bool) (d : ℕ) → d + length zs ≤ length ys → xs ++ put ys d zs ≡ put (xs ++ ys) (length xs + d) zs
unfolding put
put_back xs ys zs d h = same_lists _ _ (search (rules, places)) (λ i e below. grind (arith, places))

module _ (f : Bool → Bool → Bool) (whole xs ys : List Bool) (from at n : ℕ) (is : whole ≡ xs ++ ys) where
  abbrev after : List Bool
  after = put whole at (combined f (slice_range whole at (at + n)) (slice_range whole from (from + n)))

  -- the same of the two runs, where they have one length
  made : (a b : List Bool) → slice_range whole at (at + n) ≡ a → slice_range whole from (from + n) ≡ b → length a ≡ n → length b ≡ n → put (xs ++ ys) at (zip2 f a b) ≡ after
  made a b old new la lb = ap (λ l. put l at (zip2 f a b)) (sym is) ∙ ap (put whole at) (sym (zipped f a b (la ∙ sym lb)) ∙ ap (λ l. combined f l b) (sym old) ∙ ap (combined f (slice_range whole at (at + n))) (sym new))

  size : (a b : List Bool) → length a ≡ n → length b ≡ n → length (zip2 f a b) ≡ n
  size a b la lb = ap length (sym (zipped f a b (la ∙ sym lb))) ∙ length-combined f a b ∙ la

  -- the back is written
  pub combined_back : (d : ℕ) (new : List Bool) → at ≡ length xs + d → from + n ≤ length xs → d + n ≤ length ys
      → new ≡ put ys d (zip2 f (slice_range ys d (d + n)) (slice_range xs from (from + n))) → xs ++ new ≡ after
  combined_back d new begins source target made_of =
      let a = slice_range ys d (d + n) in
      let b = slice_range xs from (from + n) in
      let la = length-run ys d n target in
      let lb = length-run xs from n source in
      ap (λ l. xs ++ l) made_of ∙ put_back xs ys (zip2 f a b) d (omega (arith, size a b la lb)) ∙ ap (λ k. put (xs ++ ys) k (zip2 f a b)) (sym begins)
      ∙ made a b (ap (λ l. slice_range l at (at + n)) is ∙ ap (λ k. slice_range (xs ++ ys) k (k + n)) begins ∙ run_of_back xs ys d n) (ap (λ l. slice_range l from (from + n)) is ∙ run_of_front xs ys from (from + n) source) la lb

  -- the front is written
  pub combined_front : (d : ℕ) (new : List Bool) → from ≡ length xs + d → at + n ≤ length xs → d + n ≤ length ys
      → new ≡ put xs at (zip2 f (slice_range xs at (at + n)) (slice_range ys d (d + n))) → new ++ ys ≡ after
  combined_front d new begins target source made_of =
      let a = slice_range xs at (at + n) in
      let b = slice_range ys d (d + n) in
      let la = length-run xs at n target in
      let lb = length-run ys d n source in
      ap (λ l. l ++ ys) made_of ∙ put_front xs ys (zip2 f a b) at (omega (arith, size a b la lb))
      ∙ made a b (ap (λ l. slice_range l at (at + n)) is ∙ run_of_front xs ys at (at + n) target) (ap (λ l. slice_range l from (from + n)) is ∙ ap (λ k. slice_range (xs ++ ys) k (k + n)) begins ∙ run_of_back xs ys d n) la lb
