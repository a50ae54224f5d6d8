-- How many bits of a kind are before an index, and the index of the k-th of them.
use Rattle.std.proofs.Common.{◌≡◌, ◌↔◌, ℕ, suc, ◌+◌, ◌-◌, ◌/◌, ◌%◌, ◌^◌, ◌<◌, ◌≤◌, Bool, true, false, not, cond, List, ◌∷◌, ◌++◌, map, length, take, get_or, count_by, slice_get, slice_range, Some, None, Option, IfSome, IfNone, IsNone, refl, sym, ◌∙◌, ap, subst, inl, inr, arith, rules}
use Rattle.std.specs.Prelude.{count_ones, bit_and}
use Rattle.std.specs.List.{filter, range_with_len}
use Rattle.std.proofs.lemmas.Bool.{cases_lt}
use Rattle.std.proofs.lemmas.List.{length-take, length-append, length-map, take_all, take-map, get_or-append-add, get_or-map, get_or-take, get_or_past}
use Rattle.std.proofs.lemmas.List.Elements.{filter-append}
use Rattle.std.proofs.lemmas.List.Sums.{sum_by-append, count_by-le-length, count_by_more_yes}
use Rattle.std.proofs.lemmas.Simd.{ones-mask_l}
use Rattle.std.proofs.Common.{w64}
use Rattle.std.specs.Int.{bit_not}
use Rattle.std.proofs.lemmas.Nat.Bits.{ones_shr}
use Rattle.std.proofs.Math.Nat.{mod-le}
use Rattle.std.proofs.Math.Pow.{pow_mono}
use Rattle.std.proofs.lemmas.Nat.{mod_below, pow_pos, and_mask}
use Rattle.std.proofs.lemmas.Option.{slice_get-get_or, slice_get_past, slice_get_within, get_or_from_slice_get}
use Rattle.bit_addressing.specs.Bits.{has_bit}
use Rattle.bit_addressing.specs.Row.{number_of}
use Rattle.bit_addressing.proofs.Words.{has_low, has_above, has_not}
use Rattle.bit_addressing.proofs.Chunks.{has_number, number_from_bits, number-lt}
use Rattle.bit_addressing.proofs.Runs.{slices_joined}
use Rattle.bit_slice.proofs.Places.{places_count, ranges_joined}
use Rattle.bit_slice.proofs.Found.{item_is, item_of_part}
use Rattle.bit_addressing.proofs.lists.Shown.{length-between, shows_fewer}
use Rattle.bit_slice.specs.Numbered.{is_bit, count_before, IsNumbered}

module _ (p : Bool → Bool) where
  -- the items before an index and from it up to a later one
  pub parted : (xs : List Bool) (a b : ℕ) → a ≤ b → b ≤ length xs → count_by p (take b xs) ≡ count_by p (take a xs) + count_by p (slice_range xs a b)
  parted xs a b h k =
      let za : a - 0 ≡ a = omega arith in
      let zb : b ≡ b - 0 = omega arith in
      ap (λ n. count_by p (take n xs)) zb ∙ ap (count_by p) (sym (slices_joined xs 0 a b (omega arith) h k))
      ∙ sum_by-append (λ x. cond (p x) 1 0) (slice_range xs 0 a) (slice_range xs a b)
      ∙ ap (λ n. count_by p (take n xs) + count_by p (slice_range xs a b)) za

  -- before an index at most as many items pass
  pub at_most_index : (xs : List Bool) (i : ℕ) → count_by p (take i xs) ≤ i
  at_most_index xs i = omega (arith, count_by-le-length p (take i xs), length-take i xs)

  -- before a later index no fewer items pass
  pub more_before : (xs : List Bool) (a b : ℕ) → a ≤ b → b ≤ length xs → count_by p (take a xs) ≤ count_by p (take b xs)
  more_before xs a b h k = omega (arith, parted xs a b h k)

  -- before the end all that pass have passed
  pub before_end : (xs : List Bool) (n : ℕ) → n ≡ length xs → count_by p (take n xs) ≡ count_by p xs
  before_end xs n is = ap (count_by p) (take_all n xs (omega arith))

  -- an item that passes is one more
  pub one_more : (xs : List Bool) (i : ℕ) → i < length xs → p (get_or xs i false) ≡ true → count_by p (take (i + 1) xs) ≡ count_by p (take i xs) + 1
  one_more xs i h is = count_by_more_yes p xs i false h is

  -- an item that passes is not past all
  pub not_all : (xs : List Bool) (i : ℕ) → i < length xs → p (get_or xs i false) ≡ true → count_by p (take i xs) < count_by p xs
  not_all xs i h is =
      let e = before_end xs (length xs) refl in
      omega (arith, one_more xs i h is, more_before xs (i + 1) (length xs) (omega arith) (omega arith))

  not_sooner : (xs : List Bool) (i j : ℕ) → j < length xs → p (get_or xs i false) ≡ true → i < j → count_by p (take i xs) < count_by p (take j xs)
  not_sooner xs i j h is l = omega (arith, one_more xs i (omega arith) is, more_before xs (i + 1) j (omega arith) (omega arith))

  -- items that pass after as many are the same
  pub same_index : (xs : List Bool) (i j : ℕ) → i < length xs → j < length xs → p (get_or xs i false) ≡ true → p (get_or xs j false) ≡ true → count_by p (take i xs) ≡ count_by p (take j xs) → i ≡ j
  same_index xs i j hi hj is js same = elim (cases_lt i j) [
    | inl l ↦ absurd (omega (arith, not_sooner xs i j hj is l))
    | inr m ↦ elim (cases_lt j i) [
      | inl l ↦ absurd (omega (arith, not_sooner xs j i hi js l))
      | inr n ↦ omega arith
    ]
  ]

  abbrev passing : List Bool → List ℕ → List ℕ
  passing xs = filter (λ j. p (get_or xs j false))

  -- the indices of all items that pass: those before an item that does, its own, and those after it
  pub around : (xs : List Bool) (i : ℕ) → i < length xs → p (get_or xs i false) ≡ true → passing xs (range_with_len 0 (length xs)) ≡ passing xs (range_with_len 0 i) ++ i ∷ passing xs (range_with_len (i + 1) (length xs - (i + 1)))
  around xs i h is =
      let whole : length xs ≡ i + suc (length xs - (i + 1)) = omega arith in
      let test : ℕ → Bool = λ j. p (get_or xs j false) in
      ap (λ n. passing xs (range_with_len 0 n)) whole ∙ ap (passing xs) (ranges_joined 0 i (suc (length xs - (i + 1))))
      ∙ filter-append test (range_with_len 0 i) (range_with_len (0 + i) (suc (length xs - (i + 1))))
      ∙ ap (λ k. passing xs (range_with_len 0 i) ++ passing xs (range_with_len k (suc (length xs - (i + 1))))) (let z : 0 + i ≡ i = omega arith in z)
      ∙ ap (λ b. passing xs (range_with_len 0 i) ++ cond b (i ∷ passing xs (range_with_len (i + 1) (length xs - (i + 1)))) (passing xs (range_with_len (i + 1) (length xs - (i + 1))))) is

  -- the passing indices below i are as many as the passing items before i
  pub as_many : (xs : List Bool) (i : ℕ) → i ≤ length xs → length (passing xs (range_with_len 0 i)) ≡ count_by p (take i xs)
  as_many xs i h =
      let z : i ≡ i - 0 = omega arith in
      let y : i - 0 ≡ i = omega arith in
      ap (λ n. length (passing xs (range_with_len 0 n))) z ∙ places_count p xs 0 i (omega arith) h ∙ ap (λ n. count_by p (take n xs)) y

  -- the index of the item that passes after k that do is number k of the indices
  pub index_numbered : (xs : List Bool) (i k : ℕ) → i < length xs → p (get_or xs i false) ≡ true → count_by p (take i xs) ≡ k → Some i ≡ slice_get (passing xs (range_with_len 0 (length xs))) k
  index_numbered xs i k h is before =
      let left : List ℕ = passing xs (range_with_len 0 i) in
      let right : List ℕ = i ∷ passing xs (range_with_len (i + 1) (length xs - (i + 1))) in
      let size : length left ≡ k = as_many xs i (omega arith) ∙ before in
      let all = around xs i h is in
      let here : get_or (left ++ right) k 0 ≡ i = ap (λ n. get_or (left ++ right) n 0) (let e : k ≡ length left + 0 = omega arith in e) ∙ get_or-append-add left right 0 0 in
      let long : k < length (left ++ right) = omega (arith, length-append left right) in
      sym (ap (λ l. slice_get l k) all ∙ slice_get-get_or (left ++ right) k 0 long ∙ ap Some here)

  -- where at most k items pass, no index has number k
  pub none_numbered : (xs : List Bool) (k : ℕ) → count_by p xs ≤ k → None ≡ slice_get (passing xs (range_with_len 0 (length xs))) k
  none_numbered xs k few =
      let size = as_many xs (length xs) (omega arith) ∙ before_end xs (length xs) refl in
      sym (slice_get_past (passing xs (range_with_len 0 (length xs))) k (omega arith))

-- the item at an index is this bit exactly where it passes
pub passes_here : (bit b : Bool) → b ≡ bit → is_bit bit b ≡ true
passes_here true b e = e
passes_here false b e = ap not e

-- an item that is the asked bit is that bit
pub is_here : (bit b : Bool) → is_bit bit b ≡ true → b ≡ bit
is_here true b e = e
is_here false true e = sym e
is_here false false e = refl

-- ---- words

-- the lowest bits of the number of a list
pub low_number : (ms : List Bool) (r : ℕ) → length ms ≤ 64 → r ≤ length ms → number_of ms % 2 ^ r ≡ number_of (take r ms)
low_number ms r few h =
    number_from_bits (number_of ms % 2 ^ r) (take r ms)
    (let whole = number-lt ms few in let part = mod-le (number_of ms) (2 ^ r) in omega arith)
    (omega (arith, length-take r ms))
    (λ i below. elim (cases_lt i r) [
      | inl l ↦ has_low (number_of ms) r i l ∙ has_number ms i ∙ sym (get_or-take r ms i false l)
      | inr l ↦ has_above (number_of ms % 2 ^ r) r i (mod_below (number_of ms) (2 ^ r) (pow_pos r)) l ∙ sym (get_or_past (take r ms) i false (omega (arith, length-take r ms)))
    ])

-- as many bits of a number are set as items of its list pass
pub ones_number : (p : Bool → Bool) (ms : List Bool) → count_ones (number_of (map p ms)) ≡ count_by p ms
unfolding number_of
ones_number p ms = ones-mask_l p ms

-- a number under a mask, whose lowest bits are those of a list
pub masked : (zs : List Bool) (n y : ℕ) → length zs ≡ n → 0 < n → n ≤ 64 → ((i : ℕ) → i < n → has_bit y i ≡ get_or zs i false) → bit_and y ((2 ^ 64 - 1) / 2 ^ (64 - n)) ≡ number_of zs
masked zs n y size some few same =
    let back : 64 - (64 - n) ≡ n = omega arith in
    let mask : (2 ^ 64 - 1) / 2 ^ (64 - n) ≡ 2 ^ n - 1 = ones_shr 64 (64 - n) (omega arith) ∙ ap (λ k. 2 ^ k - 1) back in
    ap (bit_and y) mask ∙ and_mask y n
    ∙ number_from_bits (y % 2 ^ n) zs
    (let part = mod_below y (2 ^ n) (pow_pos n) in let most : 2 ^ n ≤ 2 ^ 64 = pow_mono few in omega arith)
    (omega arith)
    (λ i below. elim (cases_lt i n) [
      | inl l ↦ has_low y n i l ∙ same i l
      | inr l ↦ has_above (y % 2 ^ n) n i (mod_below y (2 ^ n) (pow_pos n)) l ∙ sym (get_or_past zs i false (omega arith))
    ])

-- the flipped bits of a number under a mask
pub flipped : (ms : List Bool) (n x : ℕ) → length ms ≡ n → 0 < n → n ≤ 64 → x ≡ number_of ms → bit_and (bit_not w64 x) ((2 ^ 64 - 1) / 2 ^ (64 - n)) ≡ number_of (map not ms)
flipped ms n x size some few is =
    let long : length (map not ms) ≡ length ms = length-map ms not in
    masked (map not ms) n (bit_not w64 x) (omega arith) some few
    (λ i l.
    has_not w64 x i (let low = number-lt ms (omega arith) in omega arith) (omega arith)
    ∙ ap (λ m. not (has_bit m i)) is ∙ ap not (has_number ms i) ∙ sym (get_or-map not ms i false false (omega arith)))

-- what was counted up to a word, and in it
pub counted_more : (bit : Bool) (xs : List Bool) (from upto left k word : ℕ) → from ≤ upto → upto ≤ length xs → word ≡ number_of (map (is_bit bit) (slice_range xs from upto)) → count_before bit xs from + left ≡ k → count_ones word ≤ left → count_before bit xs upto + (left - count_ones word) ≡ k
counted_more bit xs from upto left k word h l is before few =
    let here = ap count_ones is ∙ ones_number (is_bit bit) (slice_range xs from upto) in
    omega (arith, parted (is_bit bit) xs from upto h l)

-- the bit that was found in a word
pub found_numbered : (bit : Bool) (xs : List Bool) (from upto left k word r : ℕ) → from ≤ upto → upto ≤ length xs → upto - from ≤ 64 → word ≡ number_of (map (is_bit bit) (slice_range xs from upto)) → count_before bit xs from + left ≡ k → has_bit word r ≡ true → count_ones (word % 2 ^ r) ≡ left → IsNumbered bit xs k (from + r)
found_numbered bit xs from upto left k word r h l few is before set ones =
    let ms : List Bool = slice_range xs from upto in
    let zs : List Bool = map (is_bit bit) ms in
    let size : length ms ≡ upto - from = length-between xs from upto l in
    let long : length zs ≡ length ms = length-map ms (is_bit bit) in
    let item : get_or zs r false ≡ true = sym (has_number zs r) ∙ ap (λ w. has_bit w r) (sym is) ∙ set in
    let inside : r < length zs = elim (cases_lt r (length zs)) [
      | inl m ↦ m
      | inr m ↦ absurd (let past = get_or_past zs r false m in (cc))
    ] in
    let end : from + (upto - from) ≡ upto = omega arith in
    let here : is_bit bit (get_or ms r false) ≡ true = sym (get_or-map (is_bit bit) ms r false false (omega arith)) ∙ item in
    let at : get_or ms r false ≡ get_or xs (from + r) false = item_of_part xs from upto r (omega arith) in
    let part : slice_range xs from (from + r) ≡ take r ms = shows_fewer xs from r (upto - from) (omega arith) (omega arith) ∙ ap (λ e. take r (slice_range xs from e)) end in
    let low : count_by (is_bit bit) (slice_range xs from (from + r)) ≡ left =
    ap (count_by (is_bit bit)) part ∙ sym (ones_number (is_bit bit) (take r ms))
    ∙ ap (λ m. count_ones (number_of m)) (sym (take-map (is_bit bit) r ms)) ∙ ap count_ones (sym (low_number zs r (omega arith) (omega arith)))
    ∙ ap (λ w. count_ones (w % 2 ^ r)) (sym is) ∙ ones in
    record {
      inside = omega arith;
      here = sym at ∙ is_here bit (get_or ms r false) here;
      before = parted (is_bit bit) xs from (from + r) (omega arith) (omega arith) ∙ ap (λ n. count_before bit xs from + n) low ∙ before;
    }

-- ---- what a search gave

module _ (bit : Bool) (xs : List Bool) (k : ℕ) where
  -- a search by number returns item k of the indices with the bit
  pub given_value : (r : Option ℕ) → IfSome r (λ i. IsNumbered bit xs k i) → IfNone r (count_by (is_bit bit) xs ≤ k) → r ≡ slice_get (filter (λ j. is_bit bit (get_or xs j false)) (range_with_len 0 (length xs))) k
  given_value None some none = none_numbered (is_bit bit) xs k none
  given_value (Some i) some none = index_numbered (is_bit bit) xs i k some.inside (passes_here bit (get_or xs i false) some.here) some.before

  -- what it returns has the bit
  pub given_found : (r : Option ℕ) → IfSome r (λ i. IsNumbered bit xs k i) → IfSome r (λ i. slice_get xs i ≡ Some bit)
  given_found None some = tt
  given_found (Some i) some = item_is xs i bit some.inside some.here

  -- an index with the bit and k such bits before it is the one returned
  pub given_only : (r : Option ℕ) → IfSome r (λ i. IsNumbered bit xs k i) → IfNone r (count_by (is_bit bit) xs ≤ k) → (i : ℕ) → slice_get xs i ≡ Some bit → count_before bit xs i ≡ k → r ≡ Some i
  given_only None some none i here before =
      let inside = slice_get_within xs i bit here in
      let passes = passes_here bit (get_or xs i false) (get_or_from_slice_get xs i bit false here) in
      absurd (omega (arith, not_all (is_bit bit) xs i inside passes))
  given_only (Some j) some none i here before =
      let inside = slice_get_within xs i bit here in
      let passes = passes_here bit (get_or xs i false) (get_or_from_slice_get xs i bit false here) in
      ap Some (same_index (is_bit bit) xs j i some.inside inside (passes_here bit (get_or xs j false) some.here) passes (some.before ∙ sym before))

  -- before what it returns are k such bits
  pub given_before : (r : Option ℕ) → IfSome r (λ i. IsNumbered bit xs k i) → IfSome r (λ i. count_before bit xs i ≡ k)
  given_before None some = tt
  given_before (Some i) some = some.before

  -- it returns None exactly where there are not more than k
  pub given_none : (r : Option ℕ) → IfSome r (λ i. IsNumbered bit xs k i) → IfNone r (count_by (is_bit bit) xs ≤ k) → IsNone r ↔ (count_by (is_bit bit) xs ≤ k)
  given_none None some none = (λ t. none, λ l. refl)
  given_none (Some i) some none = (λ t. absurd (search rules), λ l. absurd (omega (arith, l, some.before, not_all (is_bit bit) xs i some.inside (passes_here bit (get_or xs i false) some.here))))

-- from the front on
module _ (bit : Bool) (xs : List Bool) (k : ℕ) (r : Option ℕ) (some : IfSome r (λ i. IsNumbered bit xs (count_before bit xs 0 + k) i)) (none : IfNone r (count_by (is_bit bit) xs ≤ count_before bit xs 0 + k)) where
  starts : count_before bit xs 0 + k ≡ k
  starts = omega (arith, at_most_index (is_bit bit) xs 0)

  some_there : IfSome r (λ i. IsNumbered bit xs k i)
  some_there = subst (λ n. IfSome r (λ i. IsNumbered bit xs n i)) starts some

  none_there : IfNone r (count_by (is_bit bit) xs ≤ k)
  none_there = subst (λ n. IfNone r (count_by (is_bit bit) xs ≤ n)) starts none

  -- the same of the call on lists: item k of the indices with the bit
  pub nth_value : r ≡ slice_get (filter (λ j. is_bit bit (get_or xs j false)) (range_with_len 0 (length xs))) k
  nth_value = given_value bit xs k r some_there none_there

  -- what the call returns has the bit
  pub nth_found : IfSome r (λ i. slice_get xs i ≡ Some bit)
  nth_found = given_found bit xs k r some_there

  -- before what the call returns are k such bits
  pub nth_before : IfSome r (λ i. count_before bit xs i ≡ k)
  nth_before = given_before bit xs k r some_there

  -- an index with k such bits before it is the one that the call returns
  pub nth_only : (i : ℕ) → slice_get xs i ≡ Some bit → count_before bit xs i ≡ k → r ≡ Some i
  nth_only = given_only bit xs k r some_there none_there

  -- the call returns None exactly where there are not more than k
  pub nth_none : IsNone r ↔ (count_by (is_bit bit) xs ≤ k)
  nth_none = given_none bit xs k r some_there none_there
