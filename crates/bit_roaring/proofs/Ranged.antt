-- The numbers of a range as blocks, and counted.
use Rattle.std.proofs.Common.{◌≡◌, ℕ, zero, suc, ◌+◌, ◌-◌, ◌*◌, ◌/◌, ◌%◌, ◌<◌, ◌≤◌, Bool, false, cond, ◌&&◌, nat_lt, List, [], ◌∷◌, length, min, refl, sym, ◌∙◌, ap, inl, inr, arith}
use Rattle.std.specs.Prelude.{All}
use Rattle.std.specs.List.{filter, range_with_len}
use Rattle.std.proofs.lemmas.Bool.{cases_eq, cases_lt, eq-eqb, le-ltb, lt-ltb, ne_eqb}
use Rattle.bit_blocks.specs.Numbers.{Ascends, AscendsIn, count_below, has}
use Rattle.bit_blocks.specs.declared.keyed.Keyed.{Keyed}
use Rattle.bit_blocks.proofs.Ascending.{counts_first, skips_first}
use Rattle.bit_blocks.proofs.Runs.{has_range}
use Rattle.bit_roaring.specs.Changes.{Replaces}
use Rattle.bit_roaring.specs.Keyed.{AreKeyed, block_at, set_numbers}
use Rattle.bit_roaring.specs.Ranges.{is_within, numbers_within}
use Rattle.bit_roaring.proofs.Between.{before_range, past_range, within_yes}
use Rattle.bit_roaring.proofs.Keys.{has_set}

-- ---- tests of ranges

-- a range that ends where it begins, or before, has no number
pub empty_range : (a b k : ℕ) → b ≤ a → is_within a b k ≡ false
empty_range a b k none = elim (cases_lt k a) [
  | inl low ↦ before_range a b k low
  | inr high ↦ past_range a b k (omega arith)
]

-- ---- one block of a range

-- numbers that follow one another ascend
pub range_ascends : (a n : ℕ) → a + n ≤ 65536 → Ascends (range_with_len a n)
range_ascends a n within = up 0 a n (omega arith) within
  where
    up : (from b m : ℕ) → from ≤ b → b + m ≤ 65536 → AscendsIn from 65536 (range_with_len b m)
    up from b zero low fits = tt
    up from b (suc m) low fits = (low, omega arith, up (b + 1) (b + 1) m (omega arith) (omega arith))

-- the numbers of a range that have a key are a range
pub range_block : (first last key low high x : ℕ) → first ≤ last → first / 65536 ≤ key → key ≤ last / 65536 → low ≡ first - key * 65536 → high ≡ min (last - key * 65536) 65535 → x < 65536
    → has (range_with_len low (high + 1 - low)) x ≡ is_within first (last + 1) (key * 65536 + x)
range_block first last key low high x ordered from upto begins ends small =
    has_range low (high + 1 - low) x ∙ elim (cases_lt x low) [
      | inl less ↦ before_range low (low + (high + 1 - low)) x less ∙ sym (before_range first (last + 1) (key * 65536 + x) (omega arith))
      | inr least ↦ elim (cases_lt x (high + 1)) [
        | inl less ↦ within_yes low (low + (high + 1 - low)) x least (omega arith) ∙ sym (within_yes first (last + 1) (key * 65536 + x) (omega arith) (omega arith))
        | inr more ↦ past_range low (low + (high + 1 - low)) x (omega arith) ∙ sym (past_range first (last + 1) (key * 65536 + x) (omega arith))
      ]
    ]

-- ---- all blocks of a range

-- the blocks that were made have the numbers of a range with a smaller key
pub record RangeMadeTo (bs : List Keyed) (first last key : ℕ) : Type 0 where
  pub keyed : AreKeyed bs
  pub below : All (λ b. b.key < key) bs
  pub members : (n : ℕ) → has (set_numbers bs) n ≡ (nat_lt (n / 65536) key && is_within first (last + 1) n)

pub range_more : (bs new : List Keyed) (first last key : ℕ) (block : List ℕ) → RangeMadeTo bs first last key → ((x : ℕ) → x < 65536 → has block x ≡ is_within first (last + 1) (key * 65536 + x))
    → AreKeyed new → All (λ b. b.key < key + 1) new → Replaces bs new key block → RangeMadeTo new first last (key + 1)
range_more bs new first last key block made part keyed below replaces = record { keyed = keyed; below = below; members = members }
  where
    w : ℕ → Bool
    w n = is_within first (last + 1) n

    members : (n : ℕ) → has (set_numbers new) n ≡ (nat_lt (n / 65536) (key + 1) && is_within first (last + 1) n)
    members n = has_set 0 new n keyed ∙ ap (λ l. has l (n % 65536)) (replaces (n / 65536)) ∙ elim (cases_eq key (n / 65536)) [
      | inl same ↦ (
          let whole : key * 65536 + n % 65536 ≡ n = omega arith in
          ap (λ t. has (cond t block (block_at bs (n / 65536))) (n % 65536)) (eq-eqb key (n / 65536) same) ∙ part (n % 65536) (omega arith) ∙ ap (is_within first (last + 1)) whole
          ∙ sym (ap (λ t. t && is_within first (last + 1) n) (lt-ltb (n / 65536) (key + 1) (omega arith))))
      | inr other ↦ (
          ap (λ t. has (cond t block (block_at bs (n / 65536))) (n % 65536)) (ne_eqb key (n / 65536) other) ∙ sym (has_set 0 bs n made.keyed) ∙ made.members n
          ∙ elim (cases_lt (n / 65536) key) [
            | inl low ↦ ap (λ t. t && is_within first (last + 1) n) (lt-ltb (n / 65536) key low ∙ sym (lt-ltb (n / 65536) (key + 1) (omega arith)))
            | inr high ↦ ap (λ t. t && is_within first (last + 1) n) (le-ltb (n / 65536) key high ∙ sym (le-ltb (n / 65536) (key + 1) (past other high)))
          ])
    ]
      where
        past : (key ≡ n / 65536 → ⊥) → key ≤ n / 65536 → key + 1 ≤ n / 65536
        past apart least = omega arith

-- ---- numbers of a range counted

-- the numbers of a range lie between two places
pub within_count : (xs : List ℕ) (a b : ℕ) → a ≤ b → count_below xs b ≡ count_below xs a + length (numbers_within a b xs)
within_count [] a b h = refl
within_count (x ∷ xs) a b h = let rest = within_count xs a b h in elim (cases_lt x a) [
  | inl low ↦ (
      let one = counts_first x xs b (omega arith) in
      let too = counts_first x xs a low in
      let out = ap (λ t. length (cond t (x ∷ filter (is_within a b) xs) (filter (is_within a b) xs))) (before_range a b x low) in
      omega arith)
  | inr high ↦ elim (cases_lt x b) [
    | inl below ↦ (
        let one = counts_first x xs b below in
        let none = skips_first x xs a high in
        let here = ap (λ t. length (cond t (x ∷ filter (is_within a b) xs) (filter (is_within a b) xs))) (within_yes a b x high below) in
        omega arith)
    | inr past ↦ (
        let none = skips_first x xs b past in
        let too = skips_first x xs a high in
        let out = ap (λ t. length (cond t (x ∷ filter (is_within a b) xs) (filter (is_within a b) xs))) (past_range a b x past) in
        omega arith)
  ]
]

-- a range that ends where it begins, or before, has none
pub none_within : (xs : List ℕ) (a b : ℕ) → b ≤ a → numbers_within a b xs ≡ []
none_within [] a b h = refl
none_within (x ∷ xs) a b h = ap (λ t. cond t (x ∷ filter (is_within a b) xs) (filter (is_within a b) xs)) (empty_range a b x h) ∙ none_within xs a b h

pub within_none : (xs : List ℕ) (a b : ℕ) → b ≤ a → length (numbers_within a b xs) ≡ 0
within_none xs a b h = ap length (none_within xs a b h)

-- all numbers are below their bound
pub all_below : (from upto : ℕ) (xs : List ℕ) (k : ℕ) → AscendsIn from upto xs → upto ≤ k → count_below xs k ≡ length xs
all_below from upto [] k h high = refl
all_below from upto (x ∷ xs) k h high = let below = h.1 in counts_first x xs k (omega arith) ∙ ap suc (all_below (x + 1) upto xs k h.2 high)
