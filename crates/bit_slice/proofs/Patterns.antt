-- Where the first bits of a pattern may begin in a list.
use Rattle.std.specs.Prelude.{Option, Some, None, IfSome, IfNone}
use Rattle.std.proofs.Common.{◌≡◌, ◌≢◌, ℕ, ◌+◌, ◌-◌, ◌<◌, ◌≤◌, zero, suc, Bool, false, true, not, if◌then◌else◌, ◌||◌, List, [], ◌∷◌, length, get_or, take, drop, slice_range, rules, refl, sym, ◌∙◌, ap, inl, inr, arith}
use Rattle.std.proofs.Math.Bool.{or-false}
use Rattle.std.proofs.lemmas.Bool.{cases_Bool, cases_lt, lt-ltb, le-ltb}
use Rattle.std.proofs.lemmas.List.{drop-drop, get_or-take, get_or-drop, length-drop, length-take, places, same_lists, take-take, take_all}
use Rattle.bit_addressing.specs.Bits.{has_bit}
use Rattle.bit_addressing.specs.Row.{number_bits, number_of}
use Rattle.bit_addressing.proofs.Chunks.{has_number}
use Rattle.bit_addressing.proofs.lists.Shown.{get_or-run, length-run}
use Rattle.bit_rows.proofs.Binary.{get_or-number_bits}
use Rattle.bit_slice.specs.Patterns.{begins_at_each, begins_with}
use Rattle.bit_slice.specs.Pieces.{part}
use Rattle.bit_slice.specs.Places.{bit_of_two, HasAt, IsAbsent}
use Rattle.bit_slice.proofs.Writing.{bits_of_number}

-- ---- two numbers

-- a bit below 64 of two words is the first one's
pub of_first : (low high q : ℕ) → q < 64 → bit_of_two low high q ≡ has_bit low q
of_first low high q h = rw (lt-ltb q 64 h) refl

-- a bit from 64 on of two words is the second one's
pub of_second : (low high q : ℕ) → 64 ≤ q → bit_of_two low high q ≡ has_bit high (q - 64)
of_second low high q h = rw (le-ltb q 64 h) refl

-- `or` with false on the right changes nothing
pub or_none : (a b : Bool) → b ≡ false → (a || b) ≡ a
or_none a b none = rw none (or-false a)

-- `or` with false on the left changes nothing
pub none_or : (a b : Bool) → a ≡ false → (a || b) ≡ b
none_or a b none = rw none refl

-- true and false differ
pub xor_none : (a b : Bool) → a ≡ true → b ≡ false → (if a then not b else b) ≡ true
xor_none a b whole none = rw whole (ap not none)

-- false and true differ
pub xor_all : (a b : Bool) → a ≡ false → b ≡ true → (if a then not b else b) ≡ true
xor_all a b none whole = rw none whole

-- a number of n items has them
pub item_of_chunk : (xs : List Bool) (at n q number : ℕ) → q < n → number ≡ number_of (slice_range xs at (at + n)) → has_bit number q ≡ get_or xs (at + q) false
item_of_chunk xs at n q number below is = ap (λ x. has_bit x q) is ∙ has_number (slice_range xs at (at + n)) q ∙ get_or-run xs at n q below

-- two numbers of 64 items each have the 128 from an index on
pub items_of_two : (xs : List Bool) (at low high : ℕ) → low ≡ number_of (slice_range xs at (at + 64)) → high ≡ number_of (slice_range xs (at + 64) (at + 64 + 64)) → (q : ℕ) → q < 128 → bit_of_two low high q ≡ get_or xs (at + q) false
items_of_two xs at low high first second q inside = elim (cases_lt q 64) [
  | inl l ↦ of_first low high q l ∙ item_of_chunk xs at 64 q low l first
  | inr l ↦
      let place : at + 64 + (q - 64) ≡ at + q = omega arith in
      of_second low high q l ∙ item_of_chunk xs (at + 64) 64 (q - 64) high (omega arith) second ∙ ap (λ i. get_or xs i false) place
]

-- ---- patterns

-- two numbers of the items from an index on have the pattern where the list has it
pub has_at : (xs : List Bool) (at j m pattern low high : ℕ) → m ≤ 64 → j < 64 → at + j + m ≤ length xs → ((q : ℕ) → q < 128 → at + q < length xs → bit_of_two low high q ≡ get_or xs (at + q) false) → part m xs (at + j) ≡ number_bits pattern m → HasAt low high pattern m j
has_at xs at j m pattern low high few below room read same q inside =
    let place : at + (j + q) ≡ at + j + q = omega arith in
    read (j + q) (omega arith) (omega arith)
    ∙ ap (λ i. get_or xs i false) place
    ∙ sym (get_or-take m (drop (at + j) xs) q false inside ∙ get_or-drop (at + j) xs q false)
    ∙ ap (λ l. get_or l q false) same
    ∙ get_or-number_bits pattern m q inside

-- where all of the pattern begins its first bits do
pub first_bits : (xs ys : List Bool) (n m j pattern : ℕ) → m ≤ n → m ≤ length ys → pattern ≡ number_of (slice_range ys 0 (0 + m)) → part n xs j ≡ ys → part m xs j ≡ number_bits pattern m
first_bits xs ys n m j pattern few room is same =
    let all : 0 + m - 0 ≡ m = omega arith in
    sym (take-take m n (drop j xs) few)
    ∙ ap (take m) same
    ∙ ap (λ k. take k ys) (sym all)
    ∙ sym (bits_of_number (slice_range ys 0 (0 + m)) m (length-run ys 0 m (omega (arith, room))))
    ∙ ap (λ x. number_bits x m) (sym is)

-- it begins nowhere up to an index, if its first bits begin nowhere from another on
pub none_to : (xs ys : List Bool) (len n m at to pattern : ℕ) → m ≤ n → m ≤ length ys → pattern ≡ number_of (slice_range ys 0 (0 + m)) → ((j : ℕ) → j < at → j + n ≤ len → part n xs j ≢ ys) → ((j : ℕ) → at ≤ j → j < to → j + m ≤ len → part m xs j ≢ number_bits pattern m) → (j : ℕ) → j < to → j + n ≤ len → part n xs j ≢ ys
none_to xs ys len n m at to pattern few room is before none j below fits same = elim (cases_lt j at) [
  | inl l ↦ before j l fits same
  | inr l ↦ none j l below (omega (arith, few, fits)) (first_bits xs ys n m j pattern few room is same)
]

-- the same with the indices counted from the other on
pub none_up_to : (xs ys : List Bool) (len n m at skip pattern : ℕ) → m ≤ n → m ≤ length ys → pattern ≡ number_of (slice_range ys 0 (0 + m)) → ((j : ℕ) → j < at → j + n ≤ len → part n xs j ≢ ys) → ((j : ℕ) → j < skip → at + j + m ≤ len → part m xs (at + j) ≢ number_bits pattern m) → (j : ℕ) → j < at + skip → j + n ≤ len → part n xs j ≢ ys
none_up_to xs ys len n m at skip pattern few room is before none =
    none_to xs ys len n m at (at + skip) pattern few room is before (λ j from below fits same. let place : at + (j - at) ≡ j = omega arith in none (j - at) (omega arith) (omega arith) (ap (part m xs) place ∙ same))

-- ---- from an index on

-- where a pattern begins in the items from an index on
pub part_later : (xs : List Bool) (n from len i : ℕ) → length xs ≡ len → part n (slice_range xs from len) i ≡ part n xs (from + i)
part_later xs n from len i size =
    ap (λ l. take n (drop i l)) (take_all (len - from) (drop from xs) (omega (arith, length-drop from xs)))
    ∙ ap (take n) (drop-drop i from xs)

-- no place in the rest means none at these places of the list
pub none_later : (xs ys : List Bool) (n from len upto : ℕ) → length xs ≡ len → ((i : ℕ) → i < upto → part n (slice_range xs from len) i ≢ ys) → (j : ℕ) → from ≤ j → j < from + upto → part n xs j ≢ ys
none_later xs ys n from len upto size none j a b same =
    let e : from + (j - from) ≡ j = omega arith in
    none (j - from) (omega arith) (part_later xs n from len (j - from) size ∙ ap (part n xs) e ∙ same)

-- no place in the whole rest means none from there on
pub none_there : (xs ys : List Bool) (n from len : ℕ) → length xs ≡ len → ((i : ℕ) → i + n ≤ len - from → part n (slice_range xs from len) i ≢ ys) → (j : ℕ) → from ≤ j → j + n ≤ len → part n xs j ≢ ys
none_there xs ys n from len size none j a b same =
    let e : from + (j - from) ≡ j = omega arith in
    none (j - from) (omega arith) (part_later xs n from len (j - from) size ∙ ap (part n xs) e ∙ same)

-- ---- inside a part

-- where a pattern begins in a part in which it has room
pub part_within : (xs : List Bool) (n from upto i : ℕ) → upto ≤ length xs → from + i + n ≤ upto → part n (slice_range xs from upto) i ≡ part n xs (from + i)
part_within xs n from upto i room inside = same_lists _ _ (search (rules, places)) (λ j d below. grind (arith, places))

-- no place in a part of the rest means none between these indices
pub none_within : (xs ys : List Bool) (n from upto stop : ℕ) → upto ≤ length xs → stop + n ≤ upto + 1 → ((i : ℕ) → i + n ≤ upto - from → i < stop - from → part n (slice_range xs from upto) i ≢ ys) → (j : ℕ) → from ≤ j → j < stop → part n xs j ≢ ys
none_within xs ys n from upto stop room last none j a b same =
    let e : from + (j - from) ≡ j = omega arith in
    none (j - from) (omega arith) (omega arith) (part_within xs n from upto (j - from) room (omega arith) ∙ ap (part n xs) e ∙ same)

-- ---- the last index

module _ (xs ys : List Bool) (n at upto : ℕ) (none : (j : ℕ) → at ≤ j → j < upto → part n xs j ≢ ys) where
  -- none from an index on, so what was the last before it is the last
  pub still_last : (last : Option ℕ) → IfSome last (λ i. (j : ℕ) → i < j → j < at → part n xs j ≢ ys) → IfSome last (λ i. (j : ℕ) → i < j → j < upto → part n xs j ≢ ys)
  still_last None h = tt
  still_last (Some i) h = λ j a b. elim (cases_lt j at) [
    | inl l ↦ h j a l
    | inr l ↦ none j l b
  ]

  -- a last place found so far is still the last of a longer stretch without one
  pub still_none : (from : ℕ) (last : Option ℕ) → IfNone last ((j : ℕ) → from ≤ j → j < at → part n xs j ≢ ys) → IfNone last ((j : ℕ) → from ≤ j → j < upto → part n xs j ≢ ys)
  still_none from None h = λ j a b. elim (cases_lt j at) [
    | inl l ↦ h j a l
    | inr l ↦ none j l b
  ]
  still_none from (Some i) h = tt

-- ---- each index

-- a list begins with a pattern, or not
pub begins_here : (ys xs : List Bool) → take (length ys) xs ≡ ys → begins_with ys xs ≡ true
begins_here [] xs same = refl
begins_here (y ∷ ys) [] same = absurd (let e = ap length same in omega arith)
begins_here (true ∷ ys) (x ∷ xs) same = rw (ap (λ l. get_or l 0 false) same) (begins_here ys xs (ap (drop 1) same))
begins_here (false ∷ ys) (x ∷ xs) same = rw (ap (λ l. get_or l 0 false) same) (begins_here ys xs (ap (drop 1) same))

told_here : (ys xs : List Bool) → begins_with ys xs ≡ true → take (length ys) xs ≡ ys
told_here [] xs is = refl
told_here (y ∷ ys) [] is = cc
told_here (true ∷ ys) (true ∷ xs) is = ap (λ l. true ∷ l) (told_here ys xs is)
told_here (true ∷ ys) (false ∷ xs) is = cc
told_here (false ∷ ys) (true ∷ xs) is = cc
told_here (false ∷ ys) (false ∷ xs) is = ap (λ l. false ∷ l) (told_here ys xs is)

-- a list whose first items differ from a pattern does not begin with it
pub begins_not : (ys xs : List Bool) → take (length ys) xs ≢ ys → begins_with ys xs ≡ false
begins_not ys xs not_same = elim (cases_Bool (begins_with ys xs)) [
  | inl same ↦ absurd (not_same (told_here ys xs same))
  | inr not_told ↦ not_told
]

-- a pattern is tried at each index and at the end
pub length-begins : (ys xs : List Bool) → length (begins_at_each ys xs) ≡ length xs + 1
length-begins ys [] = refl
length-begins ys (x ∷ xs) = let e = length-begins ys xs in omega arith

item_begins : (ys xs : List Bool) (i : ℕ) → i ≤ length xs → get_or (begins_at_each ys xs) i false ≡ begins_with ys (drop i xs)
item_begins ys [] zero h = refl
item_begins ys [] (suc i) h = absurd (omega arith)
item_begins ys (x ∷ xs) zero h = refl
item_begins ys (x ∷ xs) (suc i) h = item_begins ys xs i (omega arith)

module _ (ys xs : List Bool) (n : ℕ) (size : length ys ≡ n) where
  -- a pattern begins at an index
  pub begins_at : (i : ℕ) → i ≤ length xs → part n xs i ≡ ys → get_or (begins_at_each ys xs) i false ≡ true
  begins_at i h same = item_begins ys xs i h ∙ begins_here ys (drop i xs) (ap (λ k. take k (drop i xs)) size ∙ same)

  -- and at none of these
  pub begins_nowhere : (from upto : ℕ) → upto ≤ length xs + 1 → ((j : ℕ) → from ≤ j → j < upto → j + n ≤ length xs → part n xs j ≢ ys) → IsAbsent true (begins_at_each ys xs) from upto
  begins_nowhere from upto inside none = record {
    each = λ j a b. item_begins ys xs j (omega arith) ∙ begins_not ys (drop j xs) (λ same. elim (cases_lt (length xs) (j + n)) [
      | inl short ↦
          let e = ap length same in
          let most = length-take (length ys) (drop j xs) in
          let rest = length-drop j xs in
          absurd (omega (arith, short, e, most, rest, size, b, inside))
      | inr room ↦ none j a b room (ap (λ k. take k (drop j xs)) (sym size) ∙ same)
    ]);
  }
