-- Blocks by their keys.
use Rattle.std.proofs.Common.{◌≡◌, ◌≢◌, ℕ, zero, suc, ◌+◌, ◌-◌, ◌*◌, ◌/◌, ◌%◌, ◌^◌, ◌<◌, ◌≤◌, Bool, true, false, cond, ◌&&◌, ◌||◌, nat_eq, List, [], ◌∷◌, ◌++◌, get_or, insert, length, map, set, refl, sym, ◌∙◌, ap, subst, inl, inr, arith}
use Rattle.std.specs.Prelude.{remove}
use Rattle.std.specs.List.Sorted.{IsNonDecreasingBy}
use Rattle.std.proofs.Math.Bool.{and-false, or-false}
use Rattle.std.proofs.lemmas.Bool.{cases_eq, eq-eqb, ne_eqb}
use Rattle.bit_blocks.specs.Numbers.{Ascends, AscendsIn, has}
use Rattle.bit_blocks.proofs.Ascending.{ascends_earlier}
use Rattle.bit_blocks.proofs.Edits.{has_append}
use Rattle.bit_roaring.specs.Keyed.{AreKeyed, AreKeyedFrom, block_at, keyed_numbers, set_numbers}
use Rattle.bit_roaring.specs.Changes.{Replaces}
use Rattle.bit_roaring.specs.Places.{IsAbsent, IsKeyPlace, IsThere}
use Rattle.bit_blocks.specs.declared.keyed.Keyed.{Keyed}

-- a number that has a key and a low half
same_number : (a x n : ℕ) → x < 65536 → nat_eq (a * 65536 + x) n ≡ (nat_eq a (n / 65536) && nat_eq x (n % 65536))
same_number a x n low = elim (cases_eq a (n / 65536)) [
  | inl key ↦ elim (cases_eq x (n % 65536)) [
    | inl rest ↦ eq-eqb (a * 65536 + x) n (omega arith) ∙ sym (ap (λ b. b && nat_eq x (n % 65536)) (eq-eqb a (n / 65536) key) ∙ eq-eqb x (n % 65536) rest)
    | inr rest ↦ ne_eqb (a * 65536 + x) n (λ e. rest (omega arith)) ∙ sym (ap (λ b. b && nat_eq x (n % 65536)) (eq-eqb a (n / 65536) key) ∙ ne_eqb x (n % 65536) rest)
  ]
  | inr key ↦ ne_eqb (a * 65536 + x) n (λ e. key (omega arith)) ∙ sym (ap (λ b. b && nat_eq x (n % 65536)) (ne_eqb a (n / 65536) key))
]

both_or : (a b c : Bool) → ((a && b) || (a && c)) ≡ (a && (b || c))
both_or true b c = refl
both_or false b c = refl

-- whether a number is in a block with its key
pub has_keyed : (a from : ℕ) (xs : List ℕ) (n : ℕ) → AscendsIn from 65536 xs → has (map (λ k. a * 65536 + k) xs) n ≡ (nat_eq a (n / 65536) && has xs (n % 65536))
has_keyed a from [] n h = sym (and-false (nat_eq a (n / 65536)))
has_keyed a from (x ∷ xs) n h =
    ap (λ b. b || has (map (λ k. a * 65536 + k) xs) n) (same_number a x n h.1) ∙ ap (λ b. (nat_eq a (n / 65536) && nat_eq x (n % 65536)) || b) (has_keyed a (x + 1) xs n h.2)
    ∙ both_or (nat_eq a (n / 65536)) (nat_eq x (n % 65536)) (has xs (n % 65536))

-- a block before all keys is none
pub no_block_before : (from : ℕ) (bs : List Keyed) (key : ℕ) → AreKeyedFrom from bs → key < from → block_at bs key ≡ []
no_block_before from [] key h low = refl
no_block_before from (b ∷ bs) key h low =
    let first = h.0 in
    ap (λ t. cond t b.block (block_at bs key)) (ne_eqb b.key key (λ e. omega arith)) ∙ no_block_before (b.key + 1) bs key h.4 (omega arith)

-- a number is in the block with its key, if at all
pub has_set : (from : ℕ) (bs : List Keyed) (n : ℕ) → AreKeyedFrom from bs → has (set_numbers bs) n ≡ has (block_at bs (n / 65536)) (n % 65536)
has_set from [] n h = refl
has_set from (b ∷ bs) n h =
    let rest = has_set (b.key + 1) bs n h.4 in
    has_append (keyed_numbers b) (set_numbers bs) n ∙ ap (λ t. t || has (set_numbers bs) n) (has_keyed b.key 0 b.block n h.2)
    ∙ elim (cases_eq b.key (n / 65536)) [
      | inl same ↦ (
          let none : has (set_numbers bs) n ≡ false = rest ∙ ap (λ l. has l (n % 65536)) (no_block_before (b.key + 1) bs (n / 65536) h.4 (omega arith)) in
          ap (λ t. (t && has b.block (n % 65536)) || has (set_numbers bs) n) (eq-eqb b.key (n / 65536) same)
          ∙ ap (λ t. has b.block (n % 65536) || t) none ∙ or-false (has b.block (n % 65536))
          ∙ sym (ap (λ t. has (cond t b.block (block_at bs (n / 65536))) (n % 65536)) (eq-eqb b.key (n / 65536) same)))
      | inr other ↦ (
          ap (λ t. (t && has b.block (n % 65536)) || has (set_numbers bs) n) (ne_eqb b.key (n / 65536) other) ∙ rest
          ∙ sym (ap (λ t. has (cond t b.block (block_at bs (n / 65536))) (n % 65536)) (ne_eqb b.key (n / 65536) other)))
    ]

pub ascends_keyed : (a from low : ℕ) (xs ys : List ℕ) → low ≤ a * 65536 + from → a < 65536 → from ≤ 65536 → AscendsIn from 65536 xs → AscendsIn ((a + 1) * 65536) (2 ^ 32) ys → AscendsIn low (2 ^ 32) (map (λ k. a * 65536 + k) xs ++ ys)
ascends_keyed a from low [] ys least small within h g = ascends_earlier ((a + 1) * 65536) low (2 ^ 32) ys (omega arith) g
ascends_keyed a from low (x ∷ xs) ys least small within h g =
    let first = h.0 in
    let below = h.1 in
    (omega arith, omega arith, ascends_keyed a (x + 1) (a * 65536 + x + 1) xs ys (omega arith) small (omega arith) h.2 g)

-- the numbers of blocks ascend
pub ascends_set : (from : ℕ) (bs : List Keyed) → AreKeyedFrom from bs → AscendsIn (from * 65536) (2 ^ 32) (set_numbers bs)
ascends_set from [] h = tt
ascends_set from (b ∷ bs) h =
    let first = h.0 in
    ascends_keyed b.key 0 (from * 65536) b.block (set_numbers bs) (omega arith) h.1 (omega arith) h.2 (ascends_set (b.key + 1) bs h.4)

-- ---- keys

pub keyed_at_least : (from : ℕ) (bs : List Keyed) (i : ℕ) (d : Keyed) → AreKeyedFrom from bs → i < length bs → from ≤ (get_or bs i d).key
keyed_at_least from [] i d h inside = absurd (omega arith)
keyed_at_least from (b ∷ bs) zero d h inside = h.0
keyed_at_least from (b ∷ bs) (suc i) d h inside = let first = h.0 in let rest = keyed_at_least (b.key + 1) bs i d h.4 (omega arith) in omega arith

-- keys ascend
pub keys_ascend : (from : ℕ) (bs : List Keyed) → AreKeyedFrom from bs → IsNonDecreasingBy (λ b. b.key) bs
keys_ascend from [] h i j d before inside = absurd (omega arith)
keys_ascend from (b ∷ bs) h zero zero d before inside = omega arith
keys_ascend from (b ∷ bs) h zero (suc j) d before inside = let rest = keyed_at_least (b.key + 1) bs j d h.4 (omega arith) in omega arith
keys_ascend from (b ∷ bs) h (suc i) zero d before inside = absurd (omega arith)
keys_ascend from (b ∷ bs) h (suc i) (suc j) d before inside = keys_ascend (b.key + 1) bs h.4 i j d (omega arith) (omega arith)

pub later_place : (b : Keyed) (bs : List Keyed) (key i : ℕ) → IsKeyPlace (b ∷ bs) key (suc i) → IsKeyPlace bs key i
later_place b bs key i at = record { before = λ j d l. at.before (suc j) d (omega arith); after = λ j d l m. at.after (suc j) d (omega arith) (omega arith) }

-- the block where a key has its place
pub block_here : (from : ℕ) (bs : List Keyed) (key i : ℕ) (d : Keyed) → AreKeyedFrom from bs → i < length bs → (get_or bs i d).key ≡ key → block_at bs key ≡ (get_or bs i d).block
block_here from [] key i d h inside at = absurd (omega arith)
block_here from (b ∷ bs) key zero d h inside at = ap (λ t. cond t b.block (block_at bs key)) (eq-eqb b.key key at)
block_here from (b ∷ bs) key (suc i) d h inside at =
    let past = keyed_at_least (b.key + 1) bs i d h.4 (omega arith) in
    ap (λ t. cond t b.block (block_at bs key)) (ne_eqb b.key key (λ e. omega arith)) ∙ block_here (b.key + 1) bs key i d h.4 (omega arith) at

-- no block has a key that is not where it has its place
pub block_absent : (from : ℕ) (bs : List Keyed) (key i : ℕ) → AreKeyedFrom from bs → i ≤ length bs → IsKeyPlace bs key i → ((d : Keyed) → i < length bs → (get_or bs i d).key ≢ key) → block_at bs key ≡ []
block_absent from [] key i h within at other = refl
block_absent from (b ∷ bs) key zero h within at other =
    let low = at.after 0 b (omega arith) (omega arith) in
    let not_here = other b (omega arith) in
    ap (λ t. cond t b.block (block_at bs key)) (ne_eqb b.key key not_here) ∙ no_block_before (b.key + 1) bs key h.4 (below not_here low)
  where
    below : (b.key ≢ key) → key ≤ b.key → key < b.key + 1
    below n l = omega arith
block_absent from (b ∷ bs) key (suc i) h within at other =
    let low = at.before 0 b (omega arith) in
    ap (λ t. cond t b.block (block_at bs key)) (ne_eqb b.key key (λ e. omega arith)) ∙ block_absent (b.key + 1) bs key i h.4 (omega arith) (later_place b bs key i at) (λ d l. other d (omega arith))

-- what holds of the block at an index
pub keyed_here : (from : ℕ) (bs : List Keyed) (i : ℕ) (d : Keyed) → AreKeyedFrom from bs → i < length bs → ((get_or bs i d).key < 65536) × Ascends (get_or bs i d).block × (0 < length (get_or bs i d).block)
keyed_here from [] i d h inside = absurd (omega arith)
keyed_here from (b ∷ bs) zero d h inside = (h.1, h.2, h.3)
keyed_here from (b ∷ bs) (suc i) d h inside = keyed_here (b.key + 1) bs i d h.4 (omega arith)

-- the numbers of a block ascend
pub block_ascends : (bs : List Keyed) (key : ℕ) → AreKeyed bs → Ascends (block_at bs key)
block_ascends bs key h = at 0 bs h
  where
    at : (from : ℕ) (l : List Keyed) → AreKeyedFrom from l → Ascends (block_at l key)
    at from [] g = tt
    at from (b ∷ l) g = elim (cases_eq b.key key) [
      | inl same ↦ subst Ascends (sym (ap (λ t. cond t b.block (block_at l key)) (eq-eqb b.key key same))) g.2
      | inr other ↦ subst Ascends (sym (ap (λ t. cond t b.block (block_at l key)) (ne_eqb b.key key other))) (at (b.key + 1) l g.4)
    ]

-- ---- blocks that change

abbrev pub keyed : ℕ → List ℕ → Keyed
keyed key block = record { key = key; block = block }

-- a block that was replaced
pub keyed_set : (from : ℕ) (bs : List Keyed) (i key : ℕ) (block : List ℕ) (d : Keyed) → AreKeyedFrom from bs → i < length bs → (get_or bs i d).key ≡ key → Ascends block → 0 < length block → AreKeyedFrom from (set bs i (keyed key block))
keyed_set from [] i key block d h inside at up some = absurd (omega arith)
keyed_set from (b ∷ bs) zero key block d h inside at up some =
    let first = h.0 in
    let small = h.1 in
    (omega arith, omega arith, up, some, subst (λ k. AreKeyedFrom (k + 1) bs) at h.4)
keyed_set from (b ∷ bs) (suc i) key block d h inside at up some = (h.0, h.1, h.2, h.3, keyed_set (b.key + 1) bs i key block d h.4 (omega arith) at up some)

pub block_set : (from : ℕ) (bs : List Keyed) (i key : ℕ) (block : List ℕ) (d : Keyed) → AreKeyedFrom from bs → i < length bs → (get_or bs i d).key ≡ key → Replaces bs (set bs i (keyed key block)) key block
block_set from [] i key block d h inside at k = absurd (omega arith)
block_set from (b ∷ bs) zero key block d h inside at k = elim (cases_eq key k) [
  | inl same ↦ ap (λ t. cond t block (block_at bs k)) (eq-eqb key k same) ∙ sym (ap (λ t. cond t block (block_at (b ∷ bs) k)) (eq-eqb key k same))
  | inr other ↦ ap (λ t. cond t block (block_at bs k)) (ne_eqb key k other) ∙ sym (ap (λ t. cond t block (block_at (b ∷ bs) k)) (ne_eqb key k other) ∙ ap (λ t. cond t b.block (block_at bs k)) (ne_eqb b.key k (λ e. other (sym at ∙ e))))
]
block_set from (b ∷ bs) (suc i) key block d h inside at k =
    let past = keyed_at_least (b.key + 1) bs i d h.4 (omega arith) in
    elim (cases_eq b.key k) [
      | inl same ↦ (
          let apart : nat_eq key k ≡ false = ne_eqb key k (λ e. omega arith) in
          ap (λ t. cond t b.block (block_at (set bs i (keyed key block)) k)) (eq-eqb b.key k same)
          ∙ sym (ap (λ t. cond t block (block_at (b ∷ bs) k)) apart ∙ ap (λ t. cond t b.block (block_at bs k)) (eq-eqb b.key k same)))
      | inr other ↦ (
          ap (λ t. cond t b.block (block_at (set bs i (keyed key block)) k)) (ne_eqb b.key k other) ∙ block_set (b.key + 1) bs i key block d h.4 (omega arith) at k
          ∙ sym (ap (λ l. cond (nat_eq key k) block l) (ap (λ t. cond t b.block (block_at bs k)) (ne_eqb b.key k other))))
    ]

-- a block that was put in where its key has its place
pub keyed_inserted : (from : ℕ) (bs : List Keyed) (i key : ℕ) (block : List ℕ) → AreKeyedFrom from bs → i ≤ length bs → IsKeyPlace bs key i → ((d : Keyed) → i < length bs → (get_or bs i d).key ≢ key) → from ≤ key → key < 65536 → Ascends block → 0 < length block
    → AreKeyedFrom from (insert bs i (keyed key block))
keyed_inserted from [] zero key block h within at other low small up some = (low, small, up, some, tt)
keyed_inserted from [] (suc i) key block h within at other low small up some = (low, small, up, some, tt)
keyed_inserted from (b ∷ bs) zero key block h within at other low small up some =
    let above = at.after 0 b (omega arith) (omega arith) in
    let apart = other b (omega arith) in
    (low, small, up, some, (past apart above, h.1, h.2, h.3, h.4))
  where
    past : (b.key ≢ key) → key ≤ b.key → key + 1 ≤ b.key
    past n l = omega arith
keyed_inserted from (b ∷ bs) (suc i) key block h within at other low small up some =
    let below = at.before 0 b (omega arith) in
    (h.0, h.1, h.2, h.3, keyed_inserted (b.key + 1) bs i key block h.4 (omega arith) (later_place b bs key i at) (λ d l. other d (omega arith)) (omega arith) small up some)

pub block_inserted : (from : ℕ) (bs : List Keyed) (i key : ℕ) (block : List ℕ) → AreKeyedFrom from bs → i ≤ length bs → IsKeyPlace bs key i → Replaces bs (insert bs i (keyed key block)) key block
block_inserted from [] zero key block h within at k = refl
block_inserted from [] (suc i) key block h within at k = refl
block_inserted from (b ∷ bs) zero key block h within at k = refl
block_inserted from (b ∷ bs) (suc i) key block h within at k =
    let below = at.before 0 b (omega arith) in
    elim (cases_eq b.key k) [
      | inl same ↦ (
          let apart : nat_eq key k ≡ false = ne_eqb key k (λ e. omega arith) in
          ap (λ t. cond t b.block (block_at (insert bs i (keyed key block)) k)) (eq-eqb b.key k same)
          ∙ sym (ap (λ t. cond t block (block_at (b ∷ bs) k)) apart ∙ ap (λ t. cond t b.block (block_at bs k)) (eq-eqb b.key k same)))
      | inr other ↦ (
          ap (λ t. cond t b.block (block_at (insert bs i (keyed key block)) k)) (ne_eqb b.key k other) ∙ block_inserted (b.key + 1) bs i key block h.4 (omega arith) (later_place b bs key i at) k
          ∙ sym (ap (λ l. cond (nat_eq key k) block l) (ap (λ t. cond t b.block (block_at bs k)) (ne_eqb b.key k other))))
    ]

pub keyed_earlier : (from least : ℕ) (bs : List Keyed) → least ≤ from → AreKeyedFrom from bs → AreKeyedFrom least bs
keyed_earlier from least [] low h = tt
keyed_earlier from least (b ∷ bs) low h = let first = h.0 in (omega arith, h.1, h.2, h.3, h.4)

-- a block that was taken out
pub keyed_removed : (from : ℕ) (bs : List Keyed) (i : ℕ) → AreKeyedFrom from bs → AreKeyedFrom from (remove bs i)
keyed_removed from [] zero h = tt
keyed_removed from [] (suc i) h = tt
keyed_removed from (b ∷ bs) zero h = keyed_earlier (b.key + 1) from bs (let first = h.0 in omega arith) h.4
keyed_removed from (b ∷ bs) (suc i) h = (h.0, h.1, h.2, h.3, keyed_removed (b.key + 1) bs i h.4)

pub block_removed : (from : ℕ) (bs : List Keyed) (i key : ℕ) (d : Keyed) → AreKeyedFrom from bs → i < length bs → (get_or bs i d).key ≡ key → Replaces bs (remove bs i) key []
block_removed from [] i key d h inside at k = absurd (omega arith)
block_removed from (b ∷ bs) zero key d h inside at k = elim (cases_eq key k) [
  | inl same ↦ no_block_before (b.key + 1) bs k h.4 (omega arith) ∙ sym (ap (λ t. cond t [] (block_at (b ∷ bs) k)) (eq-eqb key k same))
  | inr other ↦ sym (ap (λ t. cond t [] (block_at (b ∷ bs) k)) (ne_eqb key k other) ∙ ap (λ t. cond t b.block (block_at bs k)) (ne_eqb b.key k (λ e. other (sym at ∙ e))))
]
block_removed from (b ∷ bs) (suc i) key d h inside at k =
    let past = keyed_at_least (b.key + 1) bs i d h.4 (omega arith) in
    elim (cases_eq b.key k) [
      | inl same ↦ (
          let apart : nat_eq key k ≡ false = ne_eqb key k (λ e. omega arith) in
          ap (λ t. cond t b.block (block_at (remove bs i) k)) (eq-eqb b.key k same)
          ∙ sym (ap (λ t. cond t [] (block_at (b ∷ bs) k)) apart ∙ ap (λ t. cond t b.block (block_at bs k)) (eq-eqb b.key k same)))
      | inr other ↦ (
          ap (λ t. cond t b.block (block_at (remove bs i) k)) (ne_eqb b.key k other) ∙ block_removed (b.key + 1) bs i key d h.4 (omega arith) at k
          ∙ sym (ap (λ l. cond (nat_eq key k) [] l) (ap (λ t. cond t b.block (block_at bs k)) (ne_eqb b.key k other))))
    ]

-- ---- a block that is read at its index

pub item_key : (bs : List Keyed) (i : ℕ) (at : Keyed) → AreKeyed bs → i < length bs → at ≡ get_or bs i at → at.key < 65536
item_key bs i at h inside is = subst (λ b. b.key < 65536) (sym is) (keyed_here 0 bs i at h inside).0

pub item_ascends : (bs : List Keyed) (i : ℕ) (at : Keyed) → AreKeyed bs → i < length bs → at ≡ get_or bs i at → Ascends at.block
item_ascends bs i at h inside is = subst (λ b. Ascends b.block) (sym is) (keyed_here 0 bs i at h inside).1

-- ---- where a key is found

item_inside : (bs : List Keyed) (i : ℕ) (d e : Keyed) → i < length bs → get_or bs i d ≡ get_or bs i e
item_inside [] i d e inside = absurd (omega arith)
item_inside (b ∷ bs) zero d e inside = refl
item_inside (b ∷ bs) (suc i) d e inside = item_inside bs i d e (omega arith)

-- a key has its place where the key before is below it, and the one there is not
pub is_place : (bs : List Keyed) (key i : ℕ) → AreKeyed bs → i ≤ length bs → (0 < i → (d : Keyed) × ((get_or bs (i - 1) d).key < key)) → (i < length bs → (d : Keyed) × (key ≤ (get_or bs i d).key)) → IsKeyPlace bs key i
is_place bs key i h within low high = record {
  before = λ j e l.
      let one = low (omega arith) in
      let less = one.1 in
      let same = ap (λ (b : Keyed). b.key) (item_inside bs (i - 1) one.0 e (omega arith)) in
      let up = keys_ascend 0 bs h j (i - 1) e (omega arith) (omega arith) in
      omega arith;
  after = λ j e l inside.
      let one = high (omega arith) in
      let more = one.1 in
      let same = ap (λ (b : Keyed). b.key) (item_inside bs i one.0 e (omega arith)) in
      let up = keys_ascend 0 bs h i j e l inside in
      omega arith;
}

pub is_there : (bs : List Keyed) (key i : ℕ) (d : Keyed) → AreKeyed bs → i < length bs → (get_or bs i d).key ≡ key → IsThere bs key i
is_there bs key i d h inside at =
    let here : (e : Keyed) → (get_or bs i e).key ≡ key = λ e. ap (λ b. b.key) (item_inside bs i e d inside) ∙ at in
    record { inside = inside; here = here; block = λ e. block_here 0 bs key i e h inside (here e) }

pub is_past : (bs : List Keyed) (key i : ℕ) → AreKeyed bs → i ≡ length bs → IsKeyPlace bs key i → IsAbsent bs key i
is_past bs key i h end at =
    let other : (d : Keyed) → i < length bs → (get_or bs i d).key ≢ key = λ d l. absurd (omega arith) in
    record { within = omega arith; place = at; other = other; none = block_absent 0 bs key i h (omega arith) at other }

pub is_absent : (bs : List Keyed) (key i : ℕ) (d : Keyed) → AreKeyed bs → i ≤ length bs → IsKeyPlace bs key i → (get_or bs i d).key ≢ key → IsAbsent bs key i
is_absent bs key i d h within at apart =
    let other : (e : Keyed) → i < length bs → (get_or bs i e).key ≢ key = λ e l s. apart (ap (λ b. b.key) (item_inside bs i d e l) ∙ s) in
    record { within = within; place = at; other = other; none = block_absent 0 bs key i h within at other }
