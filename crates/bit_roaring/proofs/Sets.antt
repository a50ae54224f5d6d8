-- The numbers of a set, by the block with each key.
use Rattle.std.proofs.Common.{◌≡◌, ℕ, zero, suc, ◌+◌, ◌-◌, ◌/◌, ◌%◌, ◌^◌, ◌<◌, ◌≤◌, Bool, true, false, cond, not, ◌&&◌, ◌||◌, nat_eq, List, [], ◌∷◌, ◌++◌, get_or, insert, length, set, refl, sym, ◌∙◌, ap, subst, inl, inr, arith}
use Rattle.std.proofs.Math.Bool.{and-true, or-false, or-true}
use Rattle.std.proofs.lemmas.Bool.{cases_Bool, cases_eq, eq-eqb, ne_eqb}
use Rattle.bit_blocks.specs.Numbers.{Ascends, AscendsIn, Combines, Gains, Loses, count_where, has}
use Rattle.bit_roaring.specs.Changes.{CombinesKeyed, GainsAt, HasTaken, LosesAt, Replaces}
use Rattle.bit_roaring.specs.Keyed.{AreKeyed, block_at, set_numbers}
use Rattle.bit_blocks.specs.declared.keyed.Keyed.{Keyed}
use Rattle.bit_roaring.proofs.Keys.{ascends_set, block_inserted, block_removed, block_set, has_set, keyed, keyed_here, keyed_inserted, keyed_set}
use Rattle.bit_blocks.proofs.Counting.{counts_here, counts_not}
use Rattle.bit_blocks.proofs.Edits.{has_append, loses_absent}
use Rattle.bit_blocks.specs.Operation.{made_by}
use Rattle.bit_blocks.specs.declared.operation.Operation.{Operation}
use Rattle.bit_roaring.specs.Places.{IsAbsent, IsThere}
use Rattle.std.specs.Prelude.{remove}

-- the numbers of a set ascend
pub set_ascends : (bs : List Keyed) → AreKeyed bs → AscendsIn 0 (2 ^ 32) (set_numbers bs)
set_ascends bs h = ascends_set 0 bs h

-- whether a number is in a set, by the block with its key
pub found_in_block : (bs : List Keyed) (block : List ℕ) (n : ℕ) → AreKeyed bs → block_at bs (n / 65536) ≡ block → has block (n % 65536) ≡ has (set_numbers bs) n
found_in_block bs block n h is = sym (has_set 0 bs n h ∙ ap (λ l. has l (n % 65536)) is)

pub found_in_set : (bs : List Keyed) (n : ℕ) → AreKeyed bs → has (block_at bs (n / 65536)) (n % 65536) ≡ has (set_numbers bs) n
found_in_set bs n h = sym (has_set 0 bs n h)

apart : (n k : ℕ) → (n / 65536 ≡ k / 65536) → nat_eq n k ≡ nat_eq (n % 65536) (k % 65536)
apart n k same = elim (cases_eq (n % 65536) (k % 65536)) [
  | inl e ↦ eq-eqb n k (omega arith) ∙ sym (eq-eqb (n % 65536) (k % 65536) e)
  | inr d ↦ ne_eqb n k (λ e. d (ap (λ m. m % 65536) e)) ∙ sym (ne_eqb (n % 65536) (k % 65536) d)
]

-- a block that gained the lower half of a number gives the set that number
pub set_gains : (old new : List Keyed) (n : ℕ) (block : List ℕ) → AreKeyed old → AreKeyed new → Replaces old new (n / 65536) block → Gains (block_at old (n / 65536)) block (n % 65536) → Gains (set_numbers old) (set_numbers new) n
set_gains old new n block h g replaces gains k =
    has_set 0 new k g ∙ ap (λ l. has l (k % 65536)) (replaces (k / 65536)) ∙ elim (cases_eq (n / 65536) (k / 65536)) [
      | inl same ↦ ap (λ t. has (cond t block (block_at old (k / 65536))) (k % 65536)) (eq-eqb (n / 65536) (k / 65536) same)
          ∙ gains (k % 65536) ∙ ap (λ b. b || has (block_at old (n / 65536)) (k % 65536)) (sym (apart n k same))
          ∙ ap (λ key. nat_eq n k || has (block_at old key) (k % 65536)) same ∙ ap (λ b. nat_eq n k || b) (sym (has_set 0 old k h))
      | inr other ↦ ap (λ t. has (cond t block (block_at old (k / 65536))) (k % 65536)) (ne_eqb (n / 65536) (k / 65536) other)
          ∙ sym (has_set 0 old k h) ∙ sym (ap (λ b. b || has (set_numbers old) k) (ne_eqb n k (λ e. other (ap (λ m. m / 65536) e))))
    ]

-- and one that lost it takes the number out of the set
pub set_loses : (old new : List Keyed) (n : ℕ) (block : List ℕ) → AreKeyed old → AreKeyed new → Replaces old new (n / 65536) block → Loses (block_at old (n / 65536)) block (n % 65536) → Loses (set_numbers old) (set_numbers new) n
set_loses old new n block h g replaces loses k =
    has_set 0 new k g ∙ ap (λ l. has l (k % 65536)) (replaces (k / 65536)) ∙ elim (cases_eq (n / 65536) (k / 65536)) [
      | inl same ↦ ap (λ t. has (cond t block (block_at old (k / 65536))) (k % 65536)) (eq-eqb (n / 65536) (k / 65536) same)
          ∙ loses (k % 65536) ∙ ap (λ b. has (block_at old (n / 65536)) (k % 65536) && not b) (sym (apart n k same))
          ∙ ap (λ key. has (block_at old key) (k % 65536) && not (nat_eq n k)) same ∙ ap (λ b. b && not (nat_eq n k)) (sym (has_set 0 old k h))
      | inr other ↦ ap (λ t. has (cond t block (block_at old (k / 65536))) (k % 65536)) (ne_eqb (n / 65536) (k / 65536) other)
          ∙ sym (has_set 0 old k h) ∙ sym (ap (λ b. has (set_numbers old) k && not b) (ne_eqb n k (λ e. other (ap (λ m. m / 65536) e))) ∙ and-true (has (set_numbers old) k))
    ]

pub set_gains_at : (old new : List Keyed) (n : ℕ) → AreKeyed old → AreKeyed new → GainsAt old new (n / 65536) (n % 65536) → Gains (set_numbers old) (set_numbers new) n
set_gains_at old new n h g at = set_gains old new n at.block h g at.replaces at.gains

pub set_loses_at : (old new : List Keyed) (n : ℕ) → AreKeyed old → AreKeyed new → LosesAt old new (n / 65536) (n % 65536) → Loses (set_numbers old) (set_numbers new) n
set_loses_at old new n h g at = set_loses old new n at.block h g at.replaces at.loses

-- ---- a block that changed where it stands

pub some_has : (xs : List ℕ) (n : ℕ) → has xs n ≡ true → 0 < length xs
some_has [] n here = cc
some_has (x ∷ xs) n here = omega arith

set_same : (bs : List Keyed) (i : ℕ) (b d : Keyed) → i < length bs → b ≡ get_or bs i d → set bs i b ≡ bs
set_same [] i b d inside is = absurd (omega arith)
set_same (a ∷ bs) zero b d inside is = ap (λ c. c ∷ bs) is
set_same (a ∷ bs) (suc i) b d inside is = ap (λ l. a ∷ l) (set_same bs i b d (omega arith) is)

pub keyed_there : (bs : List Keyed) (key i : ℕ) (at : Keyed) (block : List ℕ) → AreKeyed bs → IsThere bs key i → at ≡ get_or bs i at → Ascends block → 0 < length block → AreKeyed (set bs i (keyed at.key block))
keyed_there bs key i at block h there is up some = keyed_set 0 bs i at.key block at h there.inside (ap (λ b. b.key) (sym is)) up some

pub replaced_there : (bs : List Keyed) (key i : ℕ) (at : Keyed) (block : List ℕ) → AreKeyed bs → IsThere bs key i → at ≡ get_or bs i at → Replaces bs (set bs i (keyed at.key block)) key block
replaced_there bs key i at block h there is =
    let same : at.key ≡ key = ap (λ b. b.key) is ∙ there.here at in
    λ k. block_set 0 bs i at.key block at h there.inside (ap (λ b. b.key) (sym is)) k ∙ ap (λ n. cond (nat_eq n k) block (block_at bs k)) same

pub here_there : (bs : List Keyed) (key i : ℕ) (at : Keyed) → IsThere bs key i → at ≡ get_or bs i at → at.block ≡ block_at bs key
here_there bs key i at there is = ap (λ b. b.block) is ∙ sym (there.block at)

pub gains_there : (bs : List Keyed) (key i low : ℕ) (at : Keyed) (block : List ℕ) → AreKeyed bs → IsThere bs key i → at ≡ get_or bs i at → Gains at.block block low → GainsAt bs (set bs i (keyed at.key block)) key low
gains_there bs key i low at block h there is gains = record { block = block; replaces = replaced_there bs key i at block h there is; gains = subst (λ l. Gains l block low) (here_there bs key i at there is) gains }

pub loses_there : (bs : List Keyed) (key i low : ℕ) (at : Keyed) (block : List ℕ) → AreKeyed bs → IsThere bs key i → at ≡ get_or bs i at → Loses at.block block low → LosesAt bs (set bs i (keyed at.key block)) key low
loses_there bs key i low at block h there is loses = record { block = block; replaces = replaced_there bs key i at block h there is; loses = subst (λ l. Loses l block low) (here_there bs key i at there is) loses }

-- a new block with one number
pub gains_absent : (bs : List Keyed) (key i low : ℕ) (block : List ℕ) → AreKeyed bs → IsAbsent bs key i → Gains [] block low → GainsAt bs (insert bs i (keyed key block)) key low
gains_absent bs key i low block h absent gains = record {
  block = block;
  replaces = block_inserted 0 bs i key block h absent.within absent.place;
  gains = subst (λ l. Gains l block low) (sym absent.none) gains;
}

pub keyed_absent : (bs : List Keyed) (key i : ℕ) (block : List ℕ) → AreKeyed bs → IsAbsent bs key i → key < 65536 → Ascends block → 0 < length block → AreKeyed (insert bs i (keyed key block))
keyed_absent bs key i block h absent small up some = keyed_inserted 0 bs i key block h absent.within absent.place absent.other (omega arith) small up some

-- the only number of a block, with which the block goes
only_lost : (xs : List ℕ) (low : ℕ) → length xs ≤ 1 → has xs low ≡ true → Loses xs [] low
only_lost [] low few here k = cc
only_lost (x ∷ (y ∷ xs)) low few here k = absurd (omega arith)
only_lost (x ∷ []) low few here k = elim (cases_eq x low) [
  | inl same ↦ elim (cases_eq low k) [
    | inl too ↦ sym (ap (λ b. (nat_eq x k || false) && not b) (eq-eqb low k too) ∙ and_none (nat_eq x k || false))
    | inr other ↦ sym (ap (λ b. (b || false) && not (nat_eq low k)) (ne_eqb x k (λ e. other (omega arith))))
  ]
  | inr other ↦ absurd (let e : false ≡ true = sym (ap (λ b. b || false) (ne_eqb x low other)) ∙ here in cc)
]
  where
    and_none : (b : Bool) → (b && false) ≡ false
    and_none true = refl
    and_none false = refl

pub loses_only : (bs : List Keyed) (key i low : ℕ) (at : Keyed) → AreKeyed bs → IsThere bs key i → at ≡ get_or bs i at → length at.block ≤ 1 → has at.block low ≡ true → LosesAt bs (remove bs i) key low
loses_only bs key i low at h there is few here = record {
  block = [];
  replaces = block_removed 0 bs i key at h there.inside (there.here at);
  loses = subst (λ l. Loses l [] low) (here_there bs key i at there is) (only_lost at.block low few here);
}

-- a number that no block has
pub loses_none : (bs : List Keyed) (key low : ℕ) → has (block_at bs key) low ≡ false → LosesAt bs bs key low
loses_none bs key low out = record {
  block = block_at bs key;
  replaces = λ k. elim (cases_eq key k) [
    | inl same ↦ ap (block_at bs) (sym same) ∙ sym (ap (λ t. cond t (block_at bs key) (block_at bs k)) (eq-eqb key k same))
    | inr other ↦ sym (ap (λ t. cond t (block_at bs key) (block_at bs k)) (ne_eqb key k other))
  ];
  loses = loses_absent (block_at bs key) low out;
}

-- a list with two numbers has one still where one was taken out
pub others_stay : (bs : List Keyed) (key i low : ℕ) (at : Keyed) (new : List ℕ) → AreKeyed bs → IsThere bs key i → at ≡ get_or bs i at → 1 < length (block_at bs key) → Loses at.block new low → 0 < length new
others_stay bs key i low at new h there is many loses =
    let up : Ascends at.block = subst (λ b. Ascends b.block) (sym is) (keyed_here 0 bs i at h there.inside).1 in
    two at.block new up (subst (λ l. 1 < length l) (sym (here_there bs key i at there is)) many) loses
  where
    two : (xs ys : List ℕ) → Ascends xs → 1 < length xs → Loses xs ys low → 0 < length ys
    two [] ys up some gone = absurd (omega arith)
    two (x ∷ []) ys up some gone = absurd (omega arith)
    two (x ∷ (y ∷ xs)) ys up some gone = let less = up.2.0 in elim (cases_eq low x) [
      | inl same ↦ some_has ys y (gone y ∙ ap (λ b. (nat_eq x y || (b || has xs y)) && not (nat_eq low y)) (eq-eqb y y refl) ∙ ap (λ b. b && not (nat_eq low y)) (or-true (nat_eq x y)) ∙ ap not (ne_eqb low y (λ e. omega arith)))
      | inr other ↦ some_has ys x (gone x ∙ ap (λ b. (b || has (y ∷ xs) x) && not (nat_eq low x)) (eq-eqb x x refl) ∙ ap not (ne_eqb low x other))
    ]

-- ---- sets as a whole

pub absent_in_set : (bs : List Keyed) (n : ℕ) → AreKeyed bs → block_at bs (n / 65536) ≡ [] → false ≡ has (set_numbers bs) n
absent_in_set bs n h none = sym (has_set 0 bs n h ∙ ap (λ l. has l (n % 65536)) none)

pub sets_combined : (op : Operation) (xs ys zs : List Keyed) → AreKeyed xs → AreKeyed ys → AreKeyed zs → CombinesKeyed (made_by op) xs ys zs → Combines (made_by op) (set_numbers xs) (set_numbers ys) (set_numbers zs)
sets_combined op xs ys zs h g i made n =
    has_set 0 zs n i ∙ made (n / 65536) (n % 65536) ∙ ap (λ b. made_by op b (has (block_at ys (n / 65536)) (n % 65536))) (sym (has_set 0 xs n h)) ∙ ap (made_by op (has (set_numbers xs) n)) (sym (has_set 0 ys n g))

split_count : (p : ℕ → Bool) (xs : List ℕ) → count_where p xs + count_where (λ k. not (p k)) xs ≡ length xs
split_count p [] = refl
split_count p (x ∷ xs) = let rest = split_count p xs in elim (cases_Bool (p x)) [
  | inl here ↦ (
      let a = counts_here p x xs here in
      let b = counts_not (λ k. not (p k)) x xs (ap not here) in
      omega arith)
  | inr out ↦ (
      let a = counts_not p x xs out in
      let b = counts_here (λ k. not (p k)) x xs (ap not out) in
      omega arith)
]

-- numbers that are counted, and the others
pub counted_others : (p : ℕ → Bool) (xs : List ℕ) (all both : ℕ) → all ≡ length xs → both ≡ count_where p xs → all - both ≡ count_where (λ k. not (p k)) xs
counted_others p xs all both size count = let e = split_count p xs in omega arith

-- ---- numbers that are put in, one after another

pub taken_none : (old : List ℕ) → HasTaken old [] old
taken_none old k = sym (or-false (has old k))

pub taken_more : (old now new numbers : List ℕ) (n : ℕ) → HasTaken old numbers now → Gains now new n → HasTaken old (numbers ++ n ∷ []) new
taken_more old now new numbers n taken gains k =
    gains k ∙ ap (λ t. nat_eq n k || t) (taken k) ∙ last (nat_eq n k) (has old k) (has numbers k) ∙ ap (λ t. has old k || t) (sym (has_append numbers (n ∷ []) k ∙ ap (λ t. has numbers k || t) (or-false (nat_eq n k))))
  where
    last : (a b c : Bool) → (a || (b || c)) ≡ (b || (c || a))
    last true true c = refl
    last true false true = refl
    last true false false = refl
    last false true c = refl
    last false false true = refl
    last false false false = refl

-- numbers that are put into the empty set are its numbers
pub taken_new : (old new numbers : List ℕ) → old ≡ [] → HasTaken old numbers new → (k : ℕ) → has new k ≡ has numbers k
taken_new old new numbers none taken k = taken k ∙ ap (λ l. has l k || has numbers k) none
