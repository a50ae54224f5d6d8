-- The ones of blocks, summed in a tree: each node has the sum of the left half of its blocks.
use Rattle.std.specs.Prelude.{◌≡◌, ℕ, zero, suc, ◌+◌, ◌-◌, ◌*◌, ◌/◌, ◌^◌, ◌<◌, ◌≤◌, Bool, List, [], ◌∷◌, length, slice_index_or, refl}
use Rattle.bit_addressing.specs.declared.length.TheConstants.{MAX_BITS}
use Rattle.bit_slice.specs.Numbered.{ones_before}

-- how many items are true before a block, of 512 items each
abbrev pub before_block : List Bool → ℕ → ℕ
before_block xs block = ones_before xs (block * 512)

-- of 2 ^ level blocks from a first one on, those before the n-th: what is counted before the second half is what is counted before the first, and the sum between the two; and so in each half
abbrev pub IsSummed : (ℕ → ℕ) → ℕ → List ℕ → ℕ → ℕ → Type 0
IsSummed before n sums zero first = Unit {0}
IsSummed before n sums (suc level) first = (first + 2 ^ level ≤ n → before (first + 2 ^ level) ≡ before first + slice_index_or sums (first + 2 ^ level - 1) 0) × IsSummed before n sums level first × IsSummed before n sums level (first + 2 ^ level)

-- one sum for each whole block of 512 items, in a tree of less than 64 levels that has all of them; and there are at most as many items as a box may have
pub record IsTree (xs : List Bool) (sums : List ℕ) (levels : ℕ) : Type 0 where
  pub few : length xs ≤ MAX_BITS
  pub size : length sums ≡ length xs / 512
  pub small : levels < 64
  pub tall : length sums < 2 ^ levels
  pub summed : IsSummed (before_block xs) (length sums) sums levels 0

-- of three blocks of 5, 7 and 9 ones: the first has 5, the first two 12, the third 9
abbrev three : ℕ → ℕ
three zero = 0
three (suc zero) = 5
three (suc (suc zero)) = 12
three (suc (suc (suc b))) = 21

sums_of_three : IsSummed three 3 (5 ∷ 12 ∷ 9 ∷ []) 2 0
sums_of_three = (λ _. refl, (λ _. refl, tt, tt), (λ _. refl, tt, tt))
