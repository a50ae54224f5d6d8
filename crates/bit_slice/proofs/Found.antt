-- What is found in a part of a row, said of the list of a view.
use Rattle.std.proofs.Common.{[], ◌∷◌, ◌≡◌, ℕ, zero, suc, ◌+◌, ◌-◌, ◌<◌, ◌≤◌, Bool, true, false, not, List, length, get_or, drop, replicate, slice_range, slice_get, Some, None, Option, refl, sym, ◌∙◌, ap, subst, arith, rules}
use Rattle.std.specs.Prelude.{MatchOption, IfSome, IfNone, EachIndex, SomeIndex, IsTrue, ◌↔◌}
use Rattle.std.specs.List.{list_all, position, position_or_len, prefix_len, suffix_len}
use Rattle.bit_slice.proofs.Counting.{told_false, told_true}
use Rattle.std.proofs.lemmas.Option.{get_or_from_slice_get}
use Rattle.std.proofs.lemmas.List.Sums.{position_or_len_is, prefix_len_is, suffix_len_is}
use Rattle.std.proofs.lemmas.Option.{slice_get-get_or}
use Rattle.std.proofs.lemmas.List.{get_or-take, get_or-drop, get_or-replicate}
use Rattle.bit_addressing.proofs.lists.Shown.{length-between}
use Rattle.bit_addressing.specs.Row.{IsFirst}
use Rattle.std.proofs.Common.{◌≢◌, ◌*◌, ◌/◌, ◌%◌, ◌^◌, if◌then◌else◌, eqb, bit_xor, inl, inr}
use Rattle.std.specs.Int.Count.{count_leading_zeros}
use Rattle.std.proofs.lemmas.Bool.{cases_lt, true≢false}
use Rattle.std.proofs.lemmas.List.{get_or_past}
use Rattle.std.proofs.lemmas.Nat.{leading_top, div-add-mod'}
use Rattle.std.proofs.lemmas.Nat.Bits.{bit_at_ones, bit_at_ones_above}
use Rattle.std.proofs.Math.Nat.{mul-le-mul_left}
use Rattle.bit_addressing.specs.Bits.{has_bit}
use Rattle.bit_addressing.specs.Row.{number_of}
use Rattle.bit_addressing.proofs.Words.{has_none, has_xor, has_above}
use Rattle.bit_addressing.proofs.Chunks.{has_number}
use Rattle.bit_slice.specs.Places.{IsAbsent, IsNext, IsLast}

-- t is the last of the first n indices with this bit
pub record IsTop (ms : List Bool) (bit : Bool) (n t : ℕ) : Type 0 where
  pub within : t < n
  pub here : get_or ms t false ≡ bit
  pub above : (i : ℕ) → t < i → i < n → get_or ms i false ≡ not bit

-- the highest bit of a number
quotient_one : (a p q : ℕ) → p * q ≤ a → a < p * q + p → p ≤ a → a < p + p → q ≡ 1
quotient_one a p zero l m h k = absurd (omega arith)
quotient_one a p (suc zero) l m h k = refl
quotient_one a p (suc (suc q)) l m h k = let two : p * 2 ≤ p * suc (suc q) = mul-le-mul_left p (omega arith) in absurd (omega arith)

highest : (a j : ℕ) → 2 ^ j ≤ a → a < 2 ^ suc j → has_bit a j ≡ true
highest a j l h =
    let some : 0 < 2 ^ j = search rules in
    let d = div-add-mod' a (2 ^ j) in
    let twice : 2 ^ suc j ≡ 2 ^ j + 2 ^ j = grind arith in
    let r : a % 2 ^ j < 2 ^ j = omega arith in
    let one : a / 2 ^ j ≡ 1 = quotient_one a (2 ^ j) (a / 2 ^ j) (omega arith) (omega arith) l (omega arith) in
    ap (λ q. eqb (q % 2) 1) one

turned : (b : Bool) → (if b then not false else false) ≡ b
turned true = refl
turned false = refl

turned_other : (b : Bool) → (if b then not true else true) ≡ not b
turned_other true = refl
turned_other false = refl

module _ (ms : List Bool) (x y n : ℕ) (read : x ≡ number_of ms) (size : length ms ≡ n) (few : n ≤ 64) where
  has_read : (i : ℕ) → has_bit x i ≡ get_or ms i false
  has_read i = ap (λ v. has_bit v i) read ∙ has_number ms i

  low : (bit : Bool) → y ≡ (if not bit then 2 ^ n - 1 else 0) → (i : ℕ) → i < n → has_bit (bit_xor x y) i ≡ (if bit then get_or ms i false else not (get_or ms i false))
  low true others i h =
      has_xor x y i ∙ ap (λ v. if has_bit x i then not (has_bit v i) else has_bit v i) others ∙ ap (λ b. if has_bit x i then not b else b) (has_none i)
      ∙ turned (has_bit x i) ∙ has_read i
  low false others i h =
      has_xor x y i ∙ ap (λ v. if has_bit x i then not (has_bit v i) else has_bit v i) others ∙ ap (λ b. if has_bit x i then not (eqb b 1) else eqb b 1) (bit_at_ones n i h)
      ∙ turned_other (has_bit x i) ∙ ap not (has_read i)

  none_past : (bit : Bool) → y ≡ (if not bit then 2 ^ n - 1 else 0) → (i : ℕ) → n ≤ i → has_bit y i ≡ false
  none_past true others i h = ap (λ v. has_bit v i) others ∙ has_none i
  none_past false others i h = ap (λ v. has_bit v i) others ∙ ap (λ b. eqb b 1) (bit_at_ones_above n i h)

  past : (bit : Bool) → y ≡ (if not bit then 2 ^ n - 1 else 0) → (i : ℕ) → n ≤ i → has_bit (bit_xor x y) i ≡ false
  past bit others i h =
      has_xor x y i ∙ ap (λ b. if has_bit x i then not b else b) (none_past bit others i h)
      ∙ ap (λ b. if b then not false else false) (has_read i ∙ get_or_past ms i false (omega arith))

  told_other : (bit b : Bool) → (if bit then b else not b) ≡ false → b ≡ not bit
  told_other true b e = e
  told_other false true e = refl
  told_other false false e = absurd (true≢false e)

  told_same : (bit b : Bool) → (if bit then b else not b) ≡ true → b ≡ bit
  told_same true b e = e
  told_same false false e = refl
  told_same false true e = absurd (true≢false (sym e))

  -- a chunk without a difference from the other bit lacks the bit
  pub none_here : (bit : Bool) → y ≡ (if not bit then 2 ^ n - 1 else 0) → bit_xor x y ≡ 0 → (i : ℕ) → i < n → get_or ms i false ≡ not bit
  none_here bit others zero_is i h = told_other bit (get_or ms i false) (sym (low bit others i h) ∙ ap (λ v. has_bit v i) zero_is ∙ has_none i)

  -- the highest difference of a chunk is its last such bit
  pub top_here : (bit : Bool) → y ≡ (if not bit then 2 ^ n - 1 else 0) → bit_xor x y ≢ 0 → bit_xor x y < 2 ^ 64 → (count_leading_zeros 64 (bit_xor x y) ≤ 63) × IsTop ms bit n (63 - count_leading_zeros 64 (bit_xor x y))
  top_here bit others some small =
      let a : ℕ = bit_xor x y in
      let positive : 0 < a = omega arith in
      let top = leading_top 64 a positive small in
      let j : ℕ = top.0 in
      let count : count_leading_zeros 64 a + suc j ≡ 64 = top.1 in
      let is : 63 - count_leading_zeros 64 a ≡ j = omega arith in
      let set : has_bit a j ≡ true = highest a j top.2 top.3 in
      let inside : j < n = elim (cases_lt j n) [ inl l ↦ l | inr l ↦ absurd (true≢false (sym set ∙ past bit others j l)) ] in (
        omega arith,
        subst (IsTop ms bit n) (sym is) (record {
          within = inside;
          here = told_same bit (get_or ms j false) (sym (low bit others j inside) ∙ set);
          above = λ i b c. told_other bit (get_or ms i false) (sym (low bit others i c) ∙ has_above a (suc j) i top.3 (omega arith));
        }),
      )

-- item k of a part
pub item_of_part : (xs : List Bool) (lo hi k : ℕ) → k < hi - lo → get_or (slice_range xs lo hi) k false ≡ get_or xs (lo + k) false
item_of_part xs lo hi k h = get_or-take (hi - lo) (drop lo xs) k false h ∙ get_or-drop lo xs k false

-- the same items in a part of the row and in the view's list
same_item : (xs : List Bool) (head len from upto j : ℕ) → upto ≤ len → from ≤ j → j < upto → get_or (slice_range xs head (head + len)) j false ≡ get_or (slice_range xs (head + from) (head + upto)) (j - from) false
same_item xs head len from upto j a b c =
    let e : head + j ≡ head + from + (j - from) = omega arith in
    item_of_part xs head (head + len) j (omega arith) ∙ ap (λ k. get_or xs k false) e ∙ sym (item_of_part xs (head + from) (head + upto) (j - from) (omega arith))

module _ (xs found : List Bool) (head len from upto : ℕ) (bit : Bool) (is : found ≡ slice_range xs (head + from) (head + upto)) (inside : upto ≤ len) (fits : head + len ≤ length xs) where
  there : (j : ℕ) → from ≤ j → j < upto → get_or (slice_range xs head (head + len)) j false ≡ get_or found (j - from) false
  there j a b = same_item xs head len from upto j inside a b ∙ ap (λ l. get_or l (j - from) false) (sym is)

  -- a part of other bits alone lacks the bit
  pub absent : (n : ℕ) → n ≡ upto - from → found ≡ replicate n (not bit) → IsAbsent bit (slice_range xs head (head + len)) from upto
  absent n count none = record { each = λ j a b. there j a b ∙ ap (λ l. get_or l (j - from) false) none ∙ get_or-replicate n (j - from) (not bit) false (omega arith) }

  -- the first such bit of a part is the next one of the list
  pub next : (k : ℕ) → from ≤ upto → IsFirst bit found k → IsNext bit (slice_range xs head (head + len)) from upto (from + k)
  next k ordered first =
      let size : length found ≡ head + upto - (head + from) = ap length is ∙ length-between xs (head + from) (head + upto) (omega arith) in
      let w = first.within in
      let e : from + k - from ≡ k = omega arith in
      record {
        begins = omega arith;
        within = omega arith;
        here = there (from + k) (omega arith) (omega arith) ∙ ap (λ j. get_or found j false) e ∙ first.here;
        before = record { each = λ j a b. there j a (omega arith) ∙ first.before (j - from) (omega arith) };
      }

  -- of the part alone, and of what stands after it
  pub last : (low high n t : ℕ) → n ≡ upto - from → from ≤ upto → low ≤ from → upto ≤ high → IsTop found bit n t → IsAbsent bit (slice_range xs head (head + len)) upto high → IsLast bit (slice_range xs head (head + len)) low high (from + t)
  last low high n t count ordered a b top after =
      let w = top.within in
      let e : from + t - from ≡ t = omega arith in
      record {
        begins = omega arith;
        within = omega arith;
        here = there (from + t) (omega arith) (omega arith) ∙ ap (λ j. get_or found j false) e ∙ top.here;
        after = record {
          each = λ j c d. elim (cases_lt j upto) [
            | inl l ↦ there j (omega arith) l ∙ top.above (j - from) (omega arith) (omega arith)
            | inr l ↦ after.each j l d
          ];
        };
      }

  -- a part without the bit before a part without it is one part without it
  pub more_absent : (high n : ℕ) → n ≡ upto - from → ((i : ℕ) → i < n → get_or found i false ≡ not bit) → IsAbsent bit (slice_range xs head (head + len)) upto high → IsAbsent bit (slice_range xs head (head + len)) from high
  more_absent high n count none after = record {
    each = λ j c d. elim (cases_lt j upto) [
      | inl l ↦ there j c l ∙ none (j - from) (omega arith)
      | inr l ↦ after.each j l d
    ];
  }

-- ---- what the first or the last index of a bit says of the list's items

-- an item read with a default is the item, inside the list
pub item_is : (xs : List Bool) (j : ℕ) (b : Bool) → j < length xs → get_or xs j false ≡ b → slice_get xs j ≡ Some b
item_is xs j b h is = slice_get-get_or xs j false h ∙ ap Some is

module _ (xs : List Bool) (lo n : ℕ) (bit : Bool) (size : length xs ≡ n) where
  -- no item from lo on has the bit
  pub each_other : IsAbsent bit xs lo n → (j : ℕ) → lo ≤ j → j < n → slice_get xs j ≡ Some (not bit)
  each_other h j a b = item_is xs j (not bit) (omega arith) (h.each j a b)

module _ (xs : List Bool) (lo n : ℕ) (bit : Bool) (size : length xs ≡ n) where
  -- what a forward search returns has the bit
  pub next_found : (r : Option ℕ) → MatchOption r (IsAbsent bit xs lo n) (λ i. IsNext bit xs lo n i) → IfSome r (λ i. slice_get xs i ≡ Some bit)
  next_found None h = tt
  next_found (Some i) h = let w = h.within in item_is xs i bit (omega arith) h.here

  -- no index before what a forward search returns has the bit
  pub next_before : (r : Option ℕ) → MatchOption r (IsAbsent bit xs lo n) (λ i. IsNext bit xs lo n i) → IfSome r (λ i. (j : ℕ) → lo ≤ j → j < i → slice_get xs j ≡ Some (not bit))
  next_before None h = tt
  next_before (Some i) h = let w = h.within in λ j a b. item_is xs j (not bit) (omega arith) (h.before.each j a b)

  -- a forward search returns None only where no index has the bit
  pub next_none : (r : Option ℕ) → MatchOption r (IsAbsent bit xs lo n) (λ i. IsNext bit xs lo n i) → IfNone r ((j : ℕ) → lo ≤ j → j < n → slice_get xs j ≡ Some (not bit))
  next_none None h = λ j a b. item_is xs j (not bit) (omega arith) (h.each j a b)
  next_none (Some i) h = tt

  -- what a backward search returns has the bit
  pub last_found : (r : Option ℕ) → MatchOption r (IsAbsent bit xs lo n) (λ i. IsLast bit xs lo n i) → IfSome r (λ i. slice_get xs i ≡ Some bit)
  last_found None h = tt
  last_found (Some i) h = let w = h.within in item_is xs i bit (omega arith) h.here

  -- no index after what a backward search returns has the bit
  pub last_after : (r : Option ℕ) → MatchOption r (IsAbsent bit xs lo n) (λ i. IsLast bit xs lo n i) → IfSome r (λ i. (j : ℕ) → i < j → j < n → slice_get xs j ≡ Some (not bit))
  last_after None h = tt
  last_after (Some i) h = λ j a b. item_is xs j (not bit) (omega arith) (h.after.each j (omega arith) b)

  -- a backward search returns None only where no index has the bit
  pub last_none : (r : Option ℕ) → MatchOption r (IsAbsent bit xs lo n) (λ i. IsLast bit xs lo n i) → IfNone r ((j : ℕ) → lo ≤ j → j < n → slice_get xs j ≡ Some (not bit))
  last_none None h = λ j a b. item_is xs j (not bit) (omega arith) (h.each j a b)
  last_none (Some i) h = tt

-- the same from an index on that may be past the end
module _ (xs : List Bool) (from n : ℕ) (bit : Bool) (size : length xs ≡ n) (lo : ℕ) (begins : lo ≤ from) where
  -- from the asked index up to what is returned no index has the bit
  pub next_before_from : (r : Option ℕ) → MatchOption r (IsAbsent bit xs lo n) (λ i. IsNext bit xs lo n i) → IfSome r (λ i. (j : ℕ) → from ≤ j → j < i → slice_get xs j ≡ Some (not bit))
  next_before_from None h = tt
  next_before_from (Some i) h = λ j a b. next_before xs lo n bit size (Some i) h j (omega arith) b

  -- None from an index on means that no index from there has the bit
  pub next_none_from : (r : Option ℕ) → MatchOption r (IsAbsent bit xs lo n) (λ i. IsNext bit xs lo n i) → IfNone r ((j : ℕ) → from ≤ j → j < n → slice_get xs j ≡ Some (not bit))
  next_none_from None h = λ j a b. next_none xs lo n bit size None h j (omega arith) b
  next_none_from (Some i) h = tt

-- the last index before one that may be past the end
module _ (xs : List Bool) (before end : ℕ) (bit : Bool) (ends : end ≤ before) (inside : end ≤ length xs) where
  -- what a search before an index returns has the bit
  pub prev_found : (r : Option ℕ) → MatchOption r (IsAbsent bit xs 0 end) (λ i. IsLast bit xs 0 end i) → IfSome r (λ i. slice_get xs i ≡ Some bit)
  prev_found None h = tt
  prev_found (Some i) h = let w = h.within in item_is xs i bit (omega arith) h.here

  module _ (n : ℕ) (least : (j : ℕ) → j < before → j < n → j < end) where
    -- between what is returned and the asked index no index has the bit
    pub prev_between : (r : Option ℕ) → MatchOption r (IsAbsent bit xs 0 end) (λ i. IsLast bit xs 0 end i) → IfSome r (λ i. (j : ℕ) → i < j → j < before → j < n → slice_get xs j ≡ Some (not bit))
    prev_between None h = tt
    prev_between (Some i) h = λ j a b c. let l = least j b c in item_is xs j (not bit) (omega arith) (h.after.each j (omega arith) l)

    -- None before an index means that no index before it has the bit
    pub prev_none : (r : Option ℕ) → MatchOption r (IsAbsent bit xs 0 end) (λ i. IsLast bit xs 0 end i) → IfNone r ((j : ℕ) → j < before → j < n → slice_get xs j ≡ Some (not bit))
    prev_none None h = λ j a b. let l = least j a b in item_is xs j (not bit) (omega arith) (h.each j (omega arith) l)
    prev_none (Some i) h = tt

-- the same from the front on
module _ (xs : List Bool) (n : ℕ) (bit : Bool) (size : length xs ≡ n) where
  -- no index before the first found one has the bit
  pub first_before : (r : Option ℕ) → MatchOption r (IsAbsent bit xs 0 n) (λ i. IsNext bit xs 0 n i) → IfSome r (λ i. (j : ℕ) → j < i → slice_get xs j ≡ Some (not bit))
  first_before None h = tt
  first_before (Some i) h = λ j b. next_before xs 0 n bit size (Some i) h j (omega arith) b

  -- None from the start means that each index has the other bit
  pub none_first : (r : Option ℕ) → MatchOption r (IsAbsent bit xs 0 n) (λ i. IsNext bit xs 0 n i) → IfNone r (EachIndex xs (λ j. slice_get xs j ≡ Some (not bit)))
  none_first None h = λ j b. next_none xs 0 n bit size None h j (omega arith) (omega arith)
  none_first (Some i) h = tt

  -- None from the end means that each index has the other bit
  pub none_last : (r : Option ℕ) → MatchOption r (IsAbsent bit xs 0 n) (λ i. IsLast bit xs 0 n i) → IfNone r (EachIndex xs (λ j. slice_get xs j ≡ Some (not bit)))
  none_last None h = λ j b. last_none xs 0 n bit size None h j (omega arith) (omega arith)
  none_last (Some i) h = tt

module _ (xs : List Bool) (n : ℕ) (bit : Bool) (size : length xs ≡ n) where
  -- before the next such bit are the other bits
  pub other_before : (i : ℕ) → IsNext bit xs 0 n i → (j : ℕ) → j < i → slice_get xs j ≡ Some (not bit)
  other_before i h = first_before xs n bit size (Some i) h

  -- at the next such bit is the bit
  pub found_at : (i : ℕ) → IsNext bit xs 0 n i → slice_get xs i ≡ Some bit
  found_at i h = next_found xs 0 n bit size (Some i) h

  -- counted from the end, each bit is the other one
  pub each_from_end : IsAbsent bit xs 0 n → (j : ℕ) → j < n → slice_get xs (n - 1 - j) ≡ Some (not bit)
  each_from_end h j b = each_other xs 0 n bit size h (n - 1 - j) (omega arith) (omega arith)

  -- counted from the end, the bits after the last such one are the other ones
  pub each_after : (i : ℕ) → IsLast bit xs 0 n i → (j : ℕ) → j < n - 1 - i → slice_get xs (n - 1 - j) ≡ Some (not bit)
  each_after i h j b = last_after xs 0 n bit size (Some i) h (n - 1 - j) (omega arith) (omega arith)

  -- counted from the end, the last such bit is where it was found
  pub last_at : (i : ℕ) → IsLast bit xs 0 n i → slice_get xs (n - 1 - (n - 1 - i)) ≡ Some bit
  last_at i h =
      let w = h.within in
      let e : n - 1 - (n - 1 - i) ≡ i = omega arith in
      ap (slice_get xs) e ∙ last_found xs 0 n bit size (Some i) h

-- ---- counts at an end, for a test that one bit passes and the other fails

module _ (xs : List Bool) (n : ℕ) (bit : Bool) (p : Bool → Bool) (fails : p bit ≡ false) (passes : p (not bit) ≡ true) (size : length xs ≡ n) where
  -- without the bit, the whole list is the prefix of other bits
  pub prefix_none : IsAbsent bit xs 0 n → n ≡ prefix_len p xs
  prefix_none h = sym (prefix_len_is p xs n false (omega arith) (λ k b. ap p (h.each k (omega arith) b) ∙ passes) (λ l. absurd (omega arith)))

  -- the prefix of other bits ends at the next such bit
  pub prefix_some : (i : ℕ) → IsNext bit xs 0 n i → i ≡ prefix_len p xs
  prefix_some i h = let w = h.within in sym (prefix_len_is p xs i false (omega arith) (λ k b. ap p (h.before.each k (omega arith) b) ∙ passes) (λ l. ap p h.here ∙ fails))

  -- without the bit, the whole list is the suffix of other bits
  pub suffix_none : IsAbsent bit xs 0 n → n ≡ suffix_len p xs
  suffix_none h =
      let all : length xs - 0 ≡ n = omega arith in
      sym (suffix_len_is p xs 0 false (omega arith) (λ k a b. ap p (h.each k (omega arith) (omega arith)) ∙ passes) (λ l. absurd (omega arith)) ∙ all)

  -- the suffix of other bits begins after the last such bit
  pub suffix_some : (i : ℕ) → IsLast bit xs 0 n i → n - 1 - i ≡ suffix_len p xs
  suffix_some i h =
      let w = h.within in
      let one : i + 1 - 1 ≡ i = omega arith in
      let count : length xs - (i + 1) ≡ n - 1 - i = omega arith in
      sym (suffix_len_is p xs (i + 1) false (omega arith) (λ k a b. ap p (h.after.each k a (omega arith)) ∙ passes) (λ l. ap (λ k. p (get_or xs k false)) one ∙ ap p h.here ∙ fails) ∙ count)

-- ---- the first index whose item passes a test

module _ (xs : List Bool) (n : ℕ) (bit : Bool) (p : Bool → Bool) (passes : p bit ≡ true) (fails : p (not bit) ≡ false) (size : length xs ≡ n) where
  -- the forward search is `position` of the list
  pub first_value : (r : Option ℕ) → MatchOption r (IsAbsent bit xs 0 n) (λ i. IsNext bit xs 0 n i) → r ≡ position p xs
  first_value None h =
      let e : position_or_len p xs ≡ n = position_or_len_is p xs n false (omega arith) (λ k b. ap p (h.each k (omega arith) b) ∙ fails) (λ l. absurd (omega arith)) in
      rw e (rw (sym size) (search rules))
  first_value (Some i) h =
      let w = h.within in
      let e : position_or_len p xs ≡ i = position_or_len_is p xs i false (omega arith) (λ k b. ap p (h.before.each k (omega arith) b) ∙ fails) (λ l. ap p h.here ∙ passes) in
      let l : i < length xs = omega arith in
      rw e (search rules)

-- ---- not all are true where some item is false

some_false : (xs : List Bool) → list_all (λ b. b) xs ≡ false → SomeIndex xs (λ i. slice_get xs i ≡ Some false)
some_false [] e = absurd (true≢false e)
some_false (false ∷ xs) e = (0, omega arith, refl)
some_false (true ∷ xs) e = let s = some_false xs e in (suc s.0, (let l = s.1 in omega arith), s.2)

-- not all ones means that some index has a zero
pub not_all_index : (xs : List Bool) (b : Bool) → b ≡ list_all (λ b. b) xs → (IsTrue b ↔ EachIndex xs (λ i. slice_get xs i ≡ Some true)) → IsTrue (not b) ↔ SomeIndex xs (λ i. slice_get xs i ≡ Some false)
not_all_index xs true e h = told_false _ (λ s. true≢false (sym (get_or_from_slice_get xs s.0 true false (h.0 refl s.0 s.1)) ∙ get_or_from_slice_get xs s.0 false false s.2))
not_all_index xs false e h = told_true _ (some_false xs (sym e))
