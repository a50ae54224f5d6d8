-- What stands in a list after a run was put into it, read by index.
use Rattle.std.proofs.Common.{◌≡◌, ℕ, ◌+◌, ◌-◌, ◌<◌, ◌≤◌, Bool, false, List, length, get_or, replicate, Some, slice_get, sym, ◌∙◌, ap, inl, inr, arith}
use Rattle.std.proofs.lemmas.Bool.{cases_lt}
use Rattle.std.proofs.lemmas.List.{get_or-replicate, length-replicate}
use Rattle.std.proofs.lemmas.Option.{slice_get-get_or, slice_get_past}
use Rattle.std.proofs.Common.{◌≢◌, true, not, ◌&&◌, zero, suc, [], ◌∷◌, refl}
use Rattle.bit_slice.specs.Operators.{and_not_of, combined}
use Rattle.bit_slice.proofs.Combining.{length-combined}
use Rattle.std.proofs.lemmas.Option.{get_or_from_slice_get}
use Rattle.std.proofs.Common.{map, slice_range, w64}
use Rattle.std.specs.Int.{bit_not}
use Rattle.std.specs.List.{range_with_len}
use Rattle.std.specs.Option.{option_map}
use Rattle.std.proofs.lemmas.List.{get_or-map, length-map, map-append, ext_get_or}
use Rattle.std.proofs.lemmas.List.FromFn.{length-map-range_with_len, get_or-map-range_with_len}
use Rattle.bit_addressing.specs.Bits.{has_bit}
use Rattle.bit_addressing.proofs.Words.{has_not}
use Rattle.bit_addressing.proofs.Chunks.{has_number, number-lt}
use Rattle.bit_addressing.proofs.lists.Shown.{length-run, length-between, get_or-run}
use Rattle.bit_slice.proofs.Shown.{run_none}
use Rattle.bit_addressing.proofs.Runs.{slices_joined}
use Rattle.bit_addressing.specs.Row.{put, number_bits, number_of}
use Rattle.bit_addressing.proofs.lists.Put.{length-put, put_before, put_inside, put_after, put_joined, put_none}

-- lists of one length with the same item
same_read : (xs ys : List Bool) (j : ℕ) → length xs ≡ length ys → get_or xs j false ≡ get_or ys j false → slice_get xs j ≡ slice_get ys j
same_read xs ys j size is = elim (cases_lt j (length xs)) [
  | inl l ↦ slice_get-get_or xs j false l ∙ ap Some is ∙ sym (slice_get-get_or ys j false (omega arith))
  | inr l ↦ slice_get_past xs j l ∙ sym (slice_get_past ys j (omega arith))
]

module _ (xs ys : List Bool) (d n : ℕ) (size : length ys ≡ n) (fits : d + n ≤ length xs) where
  -- an index before the written part keeps its bit
  pub read_before : (j : ℕ) → j < d → slice_get (put xs d ys) j ≡ slice_get xs j
  read_before j h = same_read (put xs d ys) xs j (length-put xs ys d (omega arith)) (put_before xs ys d j false (omega arith) h)

  -- an index after the written part keeps its bit
  pub read_after : (j : ℕ) → d + n ≤ j → slice_get (put xs d ys) j ≡ slice_get xs j
  read_after j h = same_read (put xs d ys) xs j (length-put xs ys d (omega arith)) (put_after xs ys d j false (omega arith) (omega arith))

  -- an index of the written part has the bit written there
  pub read_within : (j : ℕ) → d ≤ j → j < d + n → slice_get (put xs d ys) j ≡ Some (get_or ys (j - d) false)
  read_within j a b =
      let long : length (put xs d ys) ≡ length xs = length-put xs ys d (omega arith) in
      slice_get-get_or (put xs d ys) j false (omega arith) ∙ ap Some (put_inside xs ys d j false (omega arith) a (omega arith))

-- an index of a filled part has the bit
pub read_filled : (xs : List Bool) (d n : ℕ) (b : Bool) → d + n ≤ length xs → (j : ℕ) → d ≤ j → j < d + n → slice_get (put xs d (replicate n b)) j ≡ Some b
read_filled xs d n b fits j l h = read_within xs (replicate n b) d n (length-replicate n b) fits j l h ∙ ap Some (get_or-replicate n (j - d) b false (omega arith))

-- an index of a copied part has the source's bit
pub read_copied : (xs ys : List Bool) (d : ℕ) → d + length ys ≤ length xs → (k : ℕ) → k < length ys → slice_get (put xs d ys) (d + k) ≡ slice_get ys k
read_copied xs ys d fits k h =
    let e : d + k - d ≡ k = omega arith in
    read_within xs ys d (length ys) refl fits (d + k) (omega arith) (omega arith) ∙ ap (λ i. Some (get_or ys i false)) e ∙ sym (slice_get-get_or ys k false h)

-- ---- what the left has alone

-- and-not with false changes nothing
pub and_not_keeps : (x : Bool) → (x && not false) ≡ x
and_not_keeps true = refl
and_not_keeps false = refl

never : (x : Bool) → (x && not true) ≡ false
never true = refl
never false = refl

-- each item of a combination is the function of both items
pub item_combined : (f : Bool → Bool → Bool) (xs ys : List Bool) (j : ℕ) → j < length xs → get_or (combined f xs ys) j false ≡ f (get_or xs j false) (get_or ys j false)
item_combined f [] ys j h = absurd (omega arith)
item_combined f (x ∷ xs) [] zero h = refl
item_combined f (x ∷ xs) [] (suc j) h = item_combined f xs [] j (omega arith)
item_combined f (x ∷ xs) (y ∷ ys) zero h = refl
item_combined f (x ∷ xs) (y ∷ ys) (suc j) h = item_combined f xs ys j (omega arith)

-- a part of a combination is the combination of the parts
pub part_combined : (f : Bool → Bool → Bool) (xs ys : List Bool) (lo n : ℕ) → lo + n ≤ length xs → combined f (slice_range xs lo (lo + n)) (slice_range ys lo (lo + n)) ≡ slice_range (combined f xs ys) lo (lo + n)
part_combined f xs ys lo n inside =
    let whole = length-combined f xs ys in
    let left : length (slice_range xs lo (lo + n)) ≡ n = length-run xs lo n inside in
    let made = length-combined f (slice_range xs lo (lo + n)) (slice_range ys lo (lo + n)) in
    let part : length (slice_range (combined f xs ys) lo (lo + n)) ≡ n = length-run (combined f xs ys) lo n (omega arith) in
    ext_get_or false _ _ (made ∙ left ∙ sym part) (λ i h.
    let below : i < n = omega arith in
    item_combined f (slice_range xs lo (lo + n)) (slice_range ys lo (lo + n)) i (omega arith)
    ∙ ap (λ x. f x (get_or (slice_range ys lo (lo + n)) i false)) (get_or-run xs lo n i below) ∙ ap (f (get_or xs (lo + i) false)) (get_or-run ys lo n i below)
    ∙ sym (item_combined f xs ys (lo + i) (omega arith)) ∙ sym (get_or-run (combined f xs ys) lo n i below))

-- and-not clears where the other list has a one
pub cleared_where : (xs ys : List Bool) (j : ℕ) → slice_get ys j ≡ Some true → j < length xs → slice_get (and_not_of xs ys) j ≡ Some false
cleared_where xs ys j set h =
    let size = length-combined (λ x y. x && not y) xs ys in
    slice_get-get_or (and_not_of xs ys) j false (omega (arith, size))
    ∙ ap Some (item_combined (λ x y. x && not y) xs ys j h ∙ ap (λ y. get_or xs j false && not y) (get_or_from_slice_get ys j true false set) ∙ never (get_or xs j false))

unset : (ys : List Bool) (j : ℕ) → slice_get ys j ≢ Some true → get_or ys j false ≡ false
unset [] zero h = refl
unset [] (suc j) h = refl
unset (true ∷ ys) zero h = absurd (h refl)
unset (false ∷ ys) zero h = refl
unset (y ∷ ys) (suc j) h = unset ys j h

-- and-not keeps where the other list has no one
pub kept_where : (xs ys : List Bool) (j : ℕ) → slice_get ys j ≢ Some true → slice_get (and_not_of xs ys) j ≡ slice_get xs j
kept_where xs ys j h =
    let size = length-combined (λ x y. x && not y) xs ys in
    elim (cases_lt j (length xs)) [
      | inl l ↦ same_read (and_not_of xs ys) xs j size (item_combined (λ x y. x && not y) xs ys j l ∙ ap (λ y. get_or xs j false && not y) (unset ys j h) ∙ and_not_keeps (get_or xs j false))
      | inr l ↦ slice_get_past (and_not_of xs ys) j (omega (arith, size)) ∙ sym (slice_get_past xs j l)
    ]

-- ---- runs flipped one after another

-- the complement of a chunk's number is the chunk flipped
pub flipped_number : (ms : List Bool) (n : ℕ) → length ms ≡ n → n ≤ 64 → number_bits (bit_not w64 (number_of ms)) n ≡ map not ms
unfolding number_bits
flipped_number ms n size few =
    let x : ℕ = bit_not w64 (number_of ms) in
    let long : length (map (has_bit x) (range_with_len 0 n)) ≡ n = length-map-range_with_len (has_bit x) 0 n in
    let other : length (map not ms) ≡ length ms = length-map ms not in
    ext_get_or false (map (has_bit x) (range_with_len 0 n)) (map not ms) (omega arith)
    (λ i h. get_or-map-range_with_len (has_bit x) 0 n i i false (omega arith) (omega arith)
    ∙ has_not w64 (number_of ms) i (number-lt ms (omega arith)) (omega arith)
    ∙ ap not (has_number ms i) ∙ sym (get_or-map not ms i false false (omega arith)))

module _ (xs : List Bool) (from at n : ℕ) (ordered : from ≤ at) (room : at + n ≤ length xs) where
  size_before : length (map not (slice_range xs from at)) ≡ at - from
  size_before = length-map (slice_range xs from at) not ∙ length-between xs from at (omega arith)

  -- what stands after the flipped ones is as it was
  pub rest_of_flipped : slice_range (put xs from (map not (slice_range xs from at))) at (at + n) ≡ slice_range xs at (at + n)
  rest_of_flipped =
      let s = size_before in
      let ys : List Bool = put xs from (map not (slice_range xs from at)) in
      let long : length ys ≡ length xs = length-put xs (map not (slice_range xs from at)) from (omega arith) in
      let a : length (slice_range ys at (at + n)) ≡ n = length-run ys at n (omega arith) in
      let b : length (slice_range xs at (at + n)) ≡ n = length-run xs at n room in
      ext_get_or false (slice_range ys at (at + n)) (slice_range xs at (at + n)) (omega arith)
      (λ i h. get_or-run ys at n i (omega arith) ∙ put_after xs (map not (slice_range xs from at)) from (at + i) false (omega arith) (omega arith) ∙ sym (get_or-run xs at n i (omega arith)))

  -- one chunk more is flipped
  pub flipped_more : put (put xs from (map not (slice_range xs from at))) at (map not (slice_range xs at (at + n))) ≡ put xs from (map not (slice_range xs from (at + n)))
  flipped_more =
      let s = size_before in
      let t : length (map not (slice_range xs at (at + n))) ≡ n = length-map (slice_range xs at (at + n)) not ∙ length-run xs at n room in
      put_joined xs (map not (slice_range xs from at)) (map not (slice_range xs at (at + n))) from at (omega arith) (omega arith)
      ∙ ap (put xs from) (sym (map-append not (slice_range xs from at) (slice_range xs at (at + n))) ∙ ap (map not) (slices_joined xs from at (at + n) ordered (omega arith) room))

-- before the first chunk nothing is flipped
pub flipped_none : (xs : List Bool) (from : ℕ) → xs ≡ put xs from (map not (slice_range xs from from))
flipped_none xs from = sym (ap (λ l. put xs from (map not l)) (run_none xs from from (omega arith)) ∙ put_none xs from)

-- one of them, by index
pub read_flipped : (xs : List Bool) (from upto j : ℕ) → upto ≤ length xs → from ≤ j → j < upto → slice_get (put xs from (map not (slice_range xs from upto))) j ≡ option_map not (slice_get xs j)
read_flipped xs from upto j room a b =
    let size : length (slice_range xs from upto) ≡ upto - from = length-between xs from upto room in
    let n : length (map not (slice_range xs from upto)) ≡ upto - from = length-map (slice_range xs from upto) not ∙ size in
    let e : from + (upto - from) ≡ upto = omega arith in
    let k : from + (j - from) ≡ j = omega arith in
    read_within xs (map not (slice_range xs from upto)) from (upto - from) n (omega arith) j a (omega arith)
    ∙ ap Some (get_or-map not (slice_range xs from upto) (j - from) false false (omega arith) ∙ ap not (ap (λ u. get_or (slice_range xs from u) (j - from) false) (sym e) ∙ get_or-run xs from (upto - from) (j - from) (omega arith) ∙ ap (λ i. get_or xs i false) k))
    ∙ sym (ap (option_map not) (slice_get-get_or xs j false (omega arith)))
