-- Ranges of numbers that all have one key.
use Rattle.std.proofs.Common.{◌≡◌, ◌≢◌, ℕ, ◌+◌, ◌-◌, ◌/◌, ◌%◌, ◌<◌, ◌≤◌, Bool, true, false, cond, not, ◌&&◌, ◌||◌, leb, List, [], insert, length, refl, sym, ◌∙◌, ap, subst, inl, inr, arith}
use Rattle.std.specs.List.{range_with_len}
use Rattle.std.proofs.Math.Bool.{and-true, or-false}
use Rattle.std.proofs.lemmas.Bool.{cases_eq, cases_lt, eq-eqb, le-leb, lt-leb, ne_eqb}
use Rattle.bit_blocks.specs.Numbers.{Ascends, GainsBetween, LosesBetween, has, is_between}
use Rattle.bit_blocks.specs.declared.keyed.Keyed.{Keyed}
use Rattle.bit_blocks.proofs.Runs.{has_range}
use Rattle.bit_roaring.specs.Changes.{Replaces}
use Rattle.bit_roaring.specs.Keyed.{AreKeyed, block_at, set_numbers}
use Rattle.bit_roaring.specs.Places.{IsAbsent}
use Rattle.bit_roaring.specs.Ranges.{GainsRange, LosesRange, is_within}
use Rattle.bit_roaring.proofs.Between.{before_range, past_range, within_yes}
use Rattle.bit_roaring.proofs.Changed.{unchanged_replaces}
use Rattle.bit_roaring.proofs.Keys.{block_inserted, has_set, keyed}
use Rattle.bit_roaring.proofs.Ranged.{range_ascends}
use Rattle.bit_roaring.proofs.Sets.{keyed_absent, some_has}

-- a number with the key of a range is in it where its low half is between the low halves of its ends
between_within : (first last n : ℕ) → first / 65536 ≡ last / 65536 → first / 65536 ≡ n / 65536 → is_between (first % 65536) (last % 65536) (n % 65536) ≡ is_within first (last + 1) n
between_within first last n key same = elim (cases_lt n first) [
  | inl less ↦ ap (λ t. t && leb (n % 65536) (last % 65536)) (lt-leb (first % 65536) (n % 65536) (omega arith)) ∙ sym (before_range first (last + 1) n less)
  | inr least ↦ ap (λ t. t && leb (n % 65536) (last % 65536)) (le-leb (first % 65536) (n % 65536) (omega arith)) ∙ elim (cases_lt last n) [
    | inl past ↦ lt-leb (n % 65536) (last % 65536) (omega arith) ∙ sym (past_range first (last + 1) n (omega arith))
    | inr most ↦ le-leb (n % 65536) (last % 65536) (omega arith) ∙ sym (within_yes first (last + 1) n least (omega arith))
  ]
]

-- a number with another key is not
other_without : (first last n : ℕ) → first / 65536 ≡ last / 65536 → first / 65536 ≢ n / 65536 → is_within first (last + 1) n ≡ false
other_without first last n key other = elim (cases_lt n first) [
  | inl less ↦ before_range first (last + 1) n less
  | inr least ↦ past_range first (last + 1) n (omega (arith, other))
]

or_swap : (a b : Bool) → (a || b) ≡ (b || a)
or_swap true true = refl
or_swap true false = refl
or_swap false true = refl
or_swap false false = refl

module _ (old new : List Keyed) (first last : ℕ) (block : List ℕ) (h : AreKeyed old) (g : AreKeyed new) (key : first / 65536 ≡ last / 65536) (replaces : Replaces old new (first / 65536) block) where
  here : (n : ℕ) → first / 65536 ≡ n / 65536 → has (set_numbers new) n ≡ has block (n % 65536)
  here n same = has_set 0 new n g ∙ ap (λ l. has l (n % 65536)) (replaces (n / 65536)) ∙ ap (λ t. has (cond t block (block_at old (n / 65536))) (n % 65536)) (eq-eqb (first / 65536) (n / 65536) same)

  old_here : (n : ℕ) → first / 65536 ≡ n / 65536 → has (block_at old (first / 65536)) (n % 65536) ≡ has (set_numbers old) n
  old_here n same = ap (λ k. has (block_at old k) (n % 65536)) same ∙ sym (has_set 0 old n h)

  elsewhere : (n : ℕ) → first / 65536 ≢ n / 65536 → has (set_numbers new) n ≡ has (set_numbers old) n
  elsewhere n other = has_set 0 new n g ∙ ap (λ l. has l (n % 65536)) (replaces (n / 65536)) ∙ ap (λ t. has (cond t block (block_at old (n / 65536))) (n % 65536)) (ne_eqb (first / 65536) (n / 65536) other) ∙ sym (has_set 0 old n h)

  -- a block that gained a range gives it to the set
  pub gains_within : GainsBetween (block_at old (first / 65536)) block (first % 65536) (last % 65536) → GainsRange (set_numbers old) (set_numbers new) first (last + 1)
  gains_within gains n = elim (cases_eq (first / 65536) (n / 65536)) [
    | inl same ↦ here n same ∙ gains (n % 65536) ∙ or_swap (is_between (first % 65536) (last % 65536) (n % 65536)) (has (block_at old (first / 65536)) (n % 65536))
        ∙ ap (λ t. t || is_between (first % 65536) (last % 65536) (n % 65536)) (old_here n same) ∙ ap (λ t. has (set_numbers old) n || t) (between_within first last n key same)
    | inr other ↦ elsewhere n other ∙ sym (ap (λ t. has (set_numbers old) n || t) (other_without first last n key other) ∙ or-false (has (set_numbers old) n))
  ]

  -- and one that lost it takes it out of the set
  pub loses_within : LosesBetween (block_at old (first / 65536)) block (first % 65536) (last % 65536) → LosesRange (set_numbers old) (set_numbers new) first (last + 1)
  loses_within loses n = elim (cases_eq (first / 65536) (n / 65536)) [
    | inl same ↦ here n same ∙ loses (n % 65536) ∙ ap (λ t. t && not (is_between (first % 65536) (last % 65536) (n % 65536))) (old_here n same) ∙ ap (λ t. has (set_numbers old) n && not t) (between_within first last n key same)
    | inr other ↦ elsewhere n other ∙ sym (ap (λ t. has (set_numbers old) n && not t) (other_without first last n key other) ∙ and-true (has (set_numbers old) n))
  ]

-- a block that gained a range has a number
pub some_gained : (old new : List ℕ) (first last : ℕ) → first ≤ last → GainsBetween old new first last → 0 < length new
some_gained old new first last ordered gains =
    some_has new first (gains first ∙ ap (λ t. (t && leb first last) || has old first) (le-leb first first (omega arith)) ∙ ap (λ t. t || has old first) (le-leb first last ordered))

-- ---- a key without a block

-- a block of a range alone gained the range
range_gained : (block : List ℕ) (low high : ℕ) → low ≤ high → block ≡ range_with_len low (high + 1 - low) → GainsBetween [] block low high
range_gained block low high ordered is k = ap (λ l. has l k) is ∙ has_range low (high + 1 - low) k ∙ elim (cases_lt k low) [
  | inl less ↦ before_range low (low + (high + 1 - low)) k less ∙ sym (ap (λ t. (t && leb k high) || false) (lt-leb low k less))
  | inr least ↦ elim (cases_lt high k) [
    | inl past ↦ past_range low (low + (high + 1 - low)) k (omega arith) ∙ sym (ap (λ t. (t && leb k high) || false) (le-leb low k least) ∙ ap (λ t. t || false) (lt-leb k high past))
    | inr most ↦ within_yes low (low + (high + 1 - low)) k least (omega arith) ∙ sym (ap (λ t. (t && leb k high) || false) (le-leb low k least) ∙ ap (λ t. t || false) (le-leb k high most))
  ]
]

module _ (bs : List Keyed) (first last i : ℕ) (h : AreKeyed bs) (ordered : first ≤ last) (key : first / 65536 ≡ last / 65536) (absent : IsAbsent bs (first / 65536) i) where
  module _ (block : List ℕ) (is : block ≡ range_with_len (first % 65536) (last % 65536 + 1 - first % 65536)) where
    low_first : first % 65536 ≤ last % 65536
    low_first = omega (arith, key)

    gains : GainsBetween [] block (first % 65536) (last % 65536)
    gains = range_gained block (first % 65536) (last % 65536) low_first is

    pub inserted_keyed : first / 65536 < 65536 → AreKeyed (insert bs i (keyed (first / 65536) block))
    inserted_keyed small =
        keyed_absent bs (first / 65536) i block h absent small (subst Ascends (sym is) (range_ascends (first % 65536) (last % 65536 + 1 - first % 65536) (omega (arith, low_first)))) (some_gained [] block (first % 65536) (last % 65536) low_first gains)

    pub inserted_gains : first / 65536 < 65536 → GainsRange (set_numbers bs) (set_numbers (insert bs i (keyed (first / 65536) block))) first (last + 1)
    inserted_gains small =
        gains_within bs (insert bs i (keyed (first / 65536) block)) first last block h (inserted_keyed small) key (block_inserted 0 bs i (first / 65536) block h absent.within absent.place)
        (subst (λ l. GainsBetween l block (first % 65536) (last % 65536)) (sym absent.none) gains)

  -- nothing is taken out where no block has the key
  pub absent_loses : LosesRange (set_numbers bs) (set_numbers bs) first (last + 1)
  absent_loses = loses_within bs bs first last [] h h key (unchanged_replaces bs (first / 65536) [] absent.none) (subst (λ l. LosesBetween l [] (first % 65536) (last % 65536)) (sym absent.none) (λ k. refl))
