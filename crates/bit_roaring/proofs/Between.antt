-- Blocks before a key and from a key on, and the numbers of a range.
use Rattle.std.proofs.Common.{◌≡◌, ℕ, zero, suc, ◌+◌, ◌-◌, ◌*◌, ◌/◌, ◌%◌, ◌<◌, ◌≤◌, Bool, true, false, not, ◌&&◌, ◌||◌, nat_le, nat_lt, List, [], ◌∷◌, ◌++◌, append_assoc, append-nil, length, map, take, drop, slice_range, refl, sym, ◌∙◌, ap, subst, inl, inr, arith}
use Rattle.std.specs.List.{splice}
use Rattle.std.proofs.Math.Bool.{and-false, or-false, or-true}
use Rattle.std.proofs.lemmas.Bool.{cases_lt, eq-eqb, le-leb, le-ltb, lt-leb, lt-ltb, ltb-false, ltb-true, ne_eqb}
use Rattle.bit_blocks.specs.Numbers.{Ascends, has}
use Rattle.bit_blocks.specs.Operation.{made_by}
use Rattle.bit_blocks.specs.declared.keyed.Keyed.{Keyed}
use Rattle.bit_blocks.specs.declared.operation.Operation.{Operation}
use Rattle.bit_blocks.proofs.Edits.{has_append}
use Rattle.bit_roaring.specs.Keyed.{AreKeyed, AreKeyedFrom, keyed_numbers, set_numbers}
use Rattle.bit_roaring.specs.Places.{IsKeyPlace}
use Rattle.bit_roaring.specs.Ranges.{ArePart, ChangesPart, is_within}
use Rattle.bit_roaring.proofs.Keys.{has_keyed, has_set, keyed_earlier, later_place, no_block_before}
use Rattle.bit_roaring.proofs.Sets.{sets_combined}

-- ---- numbers of two lists of blocks, one after the other

pub set_append : (xs ys : List Keyed) → set_numbers (xs ++ ys) ≡ set_numbers xs ++ set_numbers ys
set_append [] ys = refl
set_append (b ∷ xs) ys = ap (λ l. keyed_numbers b ++ l) (set_append xs ys) ∙ sym (append_assoc (keyed_numbers b) (set_numbers xs) (set_numbers ys))

pub has_parts : (xs ys : List Keyed) (n : ℕ) → has (set_numbers (xs ++ ys)) n ≡ (has (set_numbers xs) n || has (set_numbers ys) n)
has_parts xs ys n = ap (λ l. has l n) (set_append xs ys) ∙ has_append (set_numbers xs) (set_numbers ys) n

-- blocks from a key on have no number before it
none_before : (key : ℕ) (bs : List Keyed) (n : ℕ) → AreKeyedFrom key bs → n / 65536 < key → has (set_numbers bs) n ≡ false
none_before key bs n h low = has_set key bs n h ∙ ap (λ l. has l (n % 65536)) (no_block_before key bs (n / 65536) h low)

-- a block has no number of another key
other_key : (b : Keyed) (n : ℕ) → Ascends b.block → (b.key ≡ n / 65536 → 1 ≤ 0) → has (keyed_numbers b) n ≡ false
other_key b n up other = has_keyed b.key 0 b.block n up ∙ ap (λ t. t && has b.block (n % 65536)) (ne_eqb b.key (n / 65536) (λ e. let no = other e in absurd (omega arith)))

-- the blocks before a key's place have the numbers before that key
pub front_has : (from : ℕ) (bs : List Keyed) (key i n : ℕ) → AreKeyedFrom from bs → IsKeyPlace bs key i → has (set_numbers (take i bs)) n ≡ (nat_lt (n / 65536) key && has (set_numbers bs) n)
front_has from [] key zero n h at = sym (and-false (nat_lt (n / 65536) key))
front_has from [] key (suc i) n h at = sym (and-false (nat_lt (n / 65536) key))
front_has from (b ∷ bs) key zero n h at =
    let first = at.after 0 b (omega arith) (omega arith) in
    elim (cases_lt (n / 65536) key) [
      | inl low ↦ sym (ap (λ t. nat_lt (n / 65536) key && t) (none_before key (b ∷ bs) n (first, h.1, h.2, h.3, h.4) low) ∙ and-false (nat_lt (n / 65536) key))
      | inr high ↦ sym (ap (λ t. t && has (set_numbers (b ∷ bs)) n) (le-ltb (n / 65536) key high))
    ]
front_has from (b ∷ bs) key (suc i) n h at =
    let less = at.before 0 b (omega arith) in
    let rest = front_has (b.key + 1) bs key i n h.4 (later_place b bs key i at) in
    let parts = has_append (keyed_numbers b) (set_numbers (take i bs)) n ∙ ap (λ t. has (keyed_numbers b) n || t) rest in
    let whole = has_append (keyed_numbers b) (set_numbers bs) n in
    elim (cases_lt (n / 65536) key) [
      | inl low ↦ parts ∙ ap (λ t. has (keyed_numbers b) n || (t && has (set_numbers bs) n)) (lt-ltb (n / 65536) key low) ∙ sym whole ∙ sym (ap (λ t. t && has (set_numbers (b ∷ bs)) n) (lt-ltb (n / 65536) key low))
      | inr high ↦ parts ∙ ap (λ t. has (keyed_numbers b) n || (t && has (set_numbers bs) n)) (le-ltb (n / 65536) key high) ∙ or-false (has (keyed_numbers b) n) ∙ other_key b n h.2 (λ e. omega arith)
          ∙ sym (ap (λ t. t && has (set_numbers (b ∷ bs)) n) (le-ltb (n / 65536) key high))
    ]

-- and those from it on the others
pub back_has : (from : ℕ) (bs : List Keyed) (key i n : ℕ) → AreKeyedFrom from bs → IsKeyPlace bs key i → has (set_numbers (drop i bs)) n ≡ (not (nat_lt (n / 65536) key) && has (set_numbers bs) n)
back_has from [] key zero n h at = sym (and-false (not (nat_lt (n / 65536) key)))
back_has from [] key (suc i) n h at = sym (and-false (not (nat_lt (n / 65536) key)))
back_has from (b ∷ bs) key zero n h at =
    let first = at.after 0 b (omega arith) (omega arith) in
    elim (cases_lt (n / 65536) key) [
      | inl low ↦ none_before key (b ∷ bs) n (first, h.1, h.2, h.3, h.4) low ∙ sym (ap (λ t. not t && has (set_numbers (b ∷ bs)) n) (lt-ltb (n / 65536) key low))
      | inr high ↦ sym (ap (λ t. not t && has (set_numbers (b ∷ bs)) n) (le-ltb (n / 65536) key high))
    ]
back_has from (b ∷ bs) key (suc i) n h at =
    let less = at.before 0 b (omega arith) in
    let rest = back_has (b.key + 1) bs key i n h.4 (later_place b bs key i at) in
    let whole = has_append (keyed_numbers b) (set_numbers bs) n in
    elim (cases_lt (n / 65536) key) [
      | inl low ↦ rest ∙ ap (λ t. not t && has (set_numbers bs) n) (lt-ltb (n / 65536) key low) ∙ sym (ap (λ t. not t && has (set_numbers (b ∷ bs)) n) (lt-ltb (n / 65536) key low))
      | inr high ↦ rest ∙ ap (λ t. not t && has (set_numbers bs) n) (le-ltb (n / 65536) key high)
          ∙ sym (ap (λ t. not t && has (set_numbers (b ∷ bs)) n) (le-ltb (n / 65536) key high) ∙ whole ∙ ap (λ t. t || has (set_numbers bs) n) (other_key b n h.2 (λ e. omega arith)))
    ]

-- ---- their keys

-- blocks before a key's place, and others from that key on
pub keyed_front : (from : ℕ) (bs : List Keyed) (key i : ℕ) (ys : List Keyed) → AreKeyedFrom from bs → from ≤ key → IsKeyPlace bs key i → AreKeyedFrom key ys → AreKeyedFrom from (take i bs ++ ys)
keyed_front from [] key zero ys h low at g = keyed_earlier key from ys low g
keyed_front from [] key (suc i) ys h low at g = keyed_earlier key from ys low g
keyed_front from (b ∷ bs) key zero ys h low at g = keyed_earlier key from ys low g
keyed_front from (b ∷ bs) key (suc i) ys h low at g =
    let less = at.before 0 b (omega arith) in
    (h.0, h.1, h.2, h.3, keyed_front (b.key + 1) bs key i ys h.4 (omega arith) (later_place b bs key i at) g)

-- blocks from a key's place on
pub keyed_back : (from : ℕ) (bs : List Keyed) (key i : ℕ) → AreKeyedFrom from bs → IsKeyPlace bs key i → AreKeyedFrom key (drop i bs)
keyed_back from [] key zero h at = tt
keyed_back from [] key (suc i) h at = tt
keyed_back from (b ∷ bs) key zero h at = (at.after 0 b (omega arith) (omega arith), h.1, h.2, h.3, h.4)
keyed_back from (b ∷ bs) key (suc i) h at = keyed_back (b.key + 1) bs key i h.4 (later_place b bs key i at)

pub place_in_rest : (bs : List Keyed) (key i m : ℕ) → IsKeyPlace bs key (i + m) → IsKeyPlace (drop i bs) key m
place_in_rest bs key zero m at = let e : 0 + m ≡ m = omega arith in subst (IsKeyPlace bs key) e at
place_in_rest [] key (suc i) m at = record { before = λ j d l. at.before (suc i + j) d (omega arith); after = λ j d l inside. absurd (omega arith) }
place_in_rest (b ∷ bs) key (suc i) m at = let e : suc i + m ≡ suc (i + m) = omega arith in place_in_rest bs key i m (later_place b bs key (i + m) (subst (IsKeyPlace (b ∷ bs) key) e at))

-- a key that is not less has its place no earlier
pub places_ordered : (bs : List Keyed) (low high i j : ℕ) → low ≤ high → i ≤ length bs → j ≤ length bs → IsKeyPlace bs low i → IsKeyPlace bs high j → i ≤ j
places_ordered bs low high i j less within inside at past = elim (cases_lt j i) [
  | inl before ↦ absurd (
      let d : Keyed = record { key = 0; block = [] } in
      let a = at.before j d before in
      let b = past.after j d (omega arith) (omega arith) in
      omega arith)
  | inr after ↦ after
]

-- some number of a block
pub some_number : (a : ℕ) (xs rest : List ℕ) → 0 < length xs → Ascends xs → (n : ℕ) × (n / 65536 ≡ a) × (has (map (λ k. a * 65536 + k) xs ++ rest) n ≡ true)
some_number a [] rest some up = absurd (omega arith)
some_number a (x ∷ xs) rest some up =
    let below = up.1 in
    (a * 65536 + x, omega arith, ap (λ t. t || has (map (λ k. a * 65536 + k) xs ++ rest) (a * 65536 + x)) (eq-eqb (a * 65536 + x) (a * 65536 + x) refl))

-- blocks without a number before a key
pub keyed_from : (zs : List Keyed) (key : ℕ) → AreKeyed zs → ((n : ℕ) → has (set_numbers zs) n ≡ true → key ≤ n / 65536) → AreKeyedFrom key zs
keyed_from [] key h at = tt
keyed_from (b ∷ zs) key h at =
    let some = some_number b.key b.block (set_numbers zs) h.3 h.2 in
    let first = at some.0 some.2 in
    let same = some.1 in
    (omega arith, h.1, h.2, h.3, h.4)

-- blocks without a number from a key on, and then others
pub keyed_then : (from key : ℕ) (zs ys : List Keyed) → AreKeyedFrom from zs → from ≤ key → AreKeyedFrom key ys → ((n : ℕ) → has (set_numbers zs) n ≡ true → n / 65536 < key) → AreKeyedFrom from (zs ++ ys)
keyed_then from key [] ys h low g all = keyed_earlier key from ys low g
keyed_then from key (b ∷ zs) ys h low g all =
    let some = some_number b.key b.block (set_numbers zs) h.3 h.2 in
    let last = all some.0 some.2 in
    let same = some.1 in
    (h.0, h.1, h.2, h.3, keyed_then (b.key + 1) key zs ys h.4 (omega arith) g (λ n here. all n (has_append (keyed_numbers b) (set_numbers zs) n ∙ ap (λ t. has (keyed_numbers b) n || t) here ∙ or-true (has (keyed_numbers b) n))))

-- ---- the blocks between two keys

-- the blocks from one key's place to another's have the numbers between these keys
pub part_has : (bs : List Keyed) (low high i j n : ℕ) → AreKeyed bs → low ≤ high → i ≤ length bs → j ≤ length bs → IsKeyPlace bs low i → IsKeyPlace bs high j → has (set_numbers (slice_range bs i j)) n ≡ (nat_lt (n / 65536) high && (not (nat_lt (n / 65536) low) && has (set_numbers bs) n))
part_has bs low high i j n h less within inside at past =
    let ordered = places_ordered bs low high i j less within inside at past in
    let e : j ≡ i + (j - i) = omega arith in
    front_has low (drop i bs) high (j - i) n (keyed_back 0 bs low i h at) (place_in_rest bs high i (j - i) (subst (IsKeyPlace bs high) e past))
    ∙ ap (λ t. nat_lt (n / 65536) high && t) (back_has 0 bs low i n h at)

pub part_keyed : (bs : List Keyed) (low high i j : ℕ) → AreKeyed bs → low ≤ high → i ≤ length bs → j ≤ length bs → IsKeyPlace bs low i → IsKeyPlace bs high j → AreKeyedFrom low (slice_range bs i j)
part_keyed bs low high i j h less within inside at past =
    let ordered = places_ordered bs low high i j less within inside at past in
    let e : j ≡ i + (j - i) = omega arith in
    subst (AreKeyedFrom low) (append-nil (slice_range bs i j)) (keyed_front low (drop i bs) high (j - i) [] (keyed_back 0 bs low i h at) (omega arith) (place_in_rest bs high i (j - i) (subst (IsKeyPlace bs high) e past)) tt)

pub part_whole : (bs : List Keyed) (low high i j : ℕ) → AreKeyed bs → low ≤ high → i ≤ length bs → j ≤ length bs → IsKeyPlace bs low i → IsKeyPlace bs high j → AreKeyed (slice_range bs i j)
part_whole bs low high i j h less within inside at past = keyed_earlier low 0 (slice_range bs i j) (omega arith) (part_keyed bs low high i j h less within inside at past)

pub part_between : (bs : List Keyed) (low high i j : ℕ) → AreKeyed bs → low ≤ high → i ≤ j → j ≤ length bs → IsKeyPlace bs low i → IsKeyPlace bs high j → ArePart bs (slice_range bs i j) low high
part_between bs low high i j h less ordered inside at past =
    let within : i ≤ length bs = omega arith in
    record { keyed = part_keyed bs low high i j h less within inside at past; has_those = λ n. part_has bs low high i j n h less within inside at past }

-- ---- the numbers of a range

pub within_yes : (a b k : ℕ) → a ≤ k → k < b → is_within a b k ≡ true
within_yes a b k low high = ap (λ t. t && nat_lt k b) (le-leb a k low) ∙ lt-ltb k b high

pub before_range : (a b k : ℕ) → k < a → is_within a b k ≡ false
before_range a b k low = ap (λ t. t && nat_lt k b) (lt-leb a k low)

pub past_range : (a b k : ℕ) → b ≤ k → is_within a b k ≡ false
past_range a b k high = ap (λ t. nat_le a k && t) (le-ltb k b high) ∙ and-false (nat_le a k)

-- what is made of blocks between two keys leaves the others as they are, where nothing is made of them
parts_made : (f : Bool → Bool → Bool) (x y here r : Bool) → ((b : Bool) → f b false ≡ b) → (x ≡ true → y ≡ true) → (x ≡ true → r ≡ false) → (y ≡ false → r ≡ false)
    → ((x && here) || (f (y && (not x && here)) r || (not y && here))) ≡ f here r
parts_made f true true here r keeps ordered before past =
    let out = before refl in
    ap (λ t. here || (f false t || false)) out ∙ ap (λ t. here || (t || false)) (keeps false) ∙ or-false here ∙ sym (keeps here) ∙ ap (f here) (sym out)
parts_made f true false here r keeps ordered before past = absurd (let e : false ≡ true = ordered refl in cc)
parts_made f false true here r keeps ordered before past = or-false (f here r)
parts_made f false false here r keeps ordered before past =
    let out = past refl in
    ap (λ t. f false t || here) out ∙ ap (λ t. t || here) (keeps false) ∙ sym (keeps here) ∙ ap (f here) (sym out)

module _ (op : Operation) (bs zs : List Keyed) (first last i j : ℕ) (keeps : (b : Bool) → made_by op b false ≡ b) (whole : AreKeyed bs) (ordered : first ≤ last) (c : ChangesPart op bs zs first last i j) where
  abbrev low : ℕ
  low = first / 65536

  abbrev high : ℕ
  high = last / 65536 + 1

  keys_ordered : low ≤ high
  keys_ordered = let o = ordered in omega arith

  -- what is made has what the operation makes of the numbers between the keys
  made_has : (n : ℕ) → has (set_numbers zs) n ≡ made_by op (nat_lt (n / 65536) high && (not (nat_lt (n / 65536) low) && has (set_numbers bs) n)) (is_within first (last + 1) n)
  made_has n =
      sets_combined op (slice_range bs i j) c.range zs (part_whole bs low high i j whole keys_ordered c.within c.inside c.from c.upto) c.range_whole c.made_whole c.combines n
      ∙ ap (λ t. made_by op t (has (set_numbers c.range) n)) (part_has bs low high i j n whole keys_ordered c.within c.inside c.from c.upto)
      ∙ ap (made_by op (nat_lt (n / 65536) high && (not (nat_lt (n / 65536) low) && has (set_numbers bs) n))) (c.numbers n)

  out_before : (n : ℕ) → n / 65536 < low → is_within first (last + 1) n ≡ false
  out_before n less = before_range first (last + 1) n (omega arith)

  out_past : (n : ℕ) → high ≤ n / 65536 → is_within first (last + 1) n ≡ false
  out_past n more = past_range first (last + 1) n (omega arith)

  -- none of it is before the first key
  made_from : (n : ℕ) → has (set_numbers zs) n ≡ true → low ≤ n / 65536
  made_from n here = elim (cases_lt (n / 65536) low) [
    | inl less ↦ absurd (
        let none : false ≡ true =
        sym (keeps false) ∙ ap (made_by op false) (sym (out_before n less))
        ∙ ap (λ t. made_by op t (is_within first (last + 1) n)) (sym (ap (λ t. nat_lt (n / 65536) high && (not t && has (set_numbers bs) n)) (lt-ltb (n / 65536) low less) ∙ and-false (nat_lt (n / 65536) high)))
        ∙ sym (made_has n) ∙ here in
        cc)
    | inr more ↦ more
  ]

  -- nor past the last
  made_upto : (n : ℕ) → has (set_numbers zs) n ≡ true → n / 65536 < high
  made_upto n here = elim (cases_lt (n / 65536) high) [
    | inl less ↦ less
    | inr more ↦ absurd (
        let none : false ≡ true =
        sym (keeps false) ∙ ap (made_by op false) (sym (out_past n more))
        ∙ ap (λ t. made_by op t (is_within first (last + 1) n)) (sym (ap (λ t. t && (not (nat_lt (n / 65536) low) && has (set_numbers bs) n)) (le-ltb (n / 65536) high more)))
        ∙ sym (made_has n) ∙ here in
        cc)
  ]

  -- the blocks with what was made in their midst
  pub part_changed_keyed : AreKeyed (splice bs i j zs)
  part_changed_keyed =
      let less = keys_ordered in
      keyed_front 0 bs low i (zs ++ drop j bs) whole (omega arith) c.from (keyed_then low high zs (drop j bs) (keyed_from zs low c.made_whole made_from) (omega arith) (keyed_back 0 bs high j whole c.upto) made_upto)

  -- and their numbers
  pub part_changed : (n : ℕ) → has (set_numbers (splice bs i j zs)) n ≡ made_by op (has (set_numbers bs) n) (is_within first (last + 1) n)
  part_changed n =
      has_parts (take i bs) (zs ++ drop j bs) n
      ∙ ap (λ t. t || has (set_numbers (zs ++ drop j bs)) n) (front_has 0 bs low i n whole c.from)
      ∙ ap (λ t. (nat_lt (n / 65536) low && has (set_numbers bs) n) || t) (has_parts zs (drop j bs) n ∙ ap (λ t. t || has (set_numbers (drop j bs)) n) (made_has n) ∙ ap (λ t. made_by op (nat_lt (n / 65536) high && (not (nat_lt (n / 65536) low) && has (set_numbers bs) n)) (is_within first (last + 1) n) || t) (back_has 0 bs high j n whole c.upto))
      ∙ parts_made (made_by op) (nat_lt (n / 65536) low) (nat_lt (n / 65536) high) (has (set_numbers bs) n) (is_within first (last + 1) n) keeps
      (λ e. let less = ltb-true (n / 65536) low e in let o = keys_ordered in lt-ltb (n / 65536) high (omega arith))
      (λ e. out_before n (ltb-true (n / 65536) low e))
      (λ e. out_past n (ltb-false (n / 65536) high e))
