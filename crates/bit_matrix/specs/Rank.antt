-- The rank of a matrix mod 2: how many rows are linearly independent and make each row as a sum.
use Rattle.std.specs.Prelude.{◌≡◌, ℕ, zero, suc, ◌+◌, ◌<◌, Bool, true, false, ◌&&◌, cond, refl}
use Rattle.bit_matrix.specs.Matrix.{Grid, item, sum_mod_2}

-- column j of the sum mod 2 of those of the first n rows that are chosen
abbrev pub row_sum : (ℕ → ℕ → Bool) → (ℕ → Bool) → ℕ → ℕ → Bool
row_sum a chosen n j = sum_mod_2 (λ k. chosen k && a k j) n

-- each number below n that the first choice has is in the second too
abbrev pub IsPart : ℕ → (ℕ → Bool) → (ℕ → Bool) → Type 0
IsPart n part chosen = (k : ℕ) → k < n → part k ≡ true → chosen k ≡ true

-- the chosen ones of m rows of n columns are linearly independent mod 2, and make each row
pub record IsBasis (a : ℕ → ℕ → Bool) (m n : ℕ) (chosen : ℕ → Bool) : Type 0 where
  -- a sum of some of them that is zero is the sum of none
  pub independent : (part : ℕ → Bool) → IsPart m part chosen → ((j : ℕ) → j < n → row_sum a part m j ≡ false) → (k : ℕ) → k < m → part k ≡ false
  -- each row is the sum of some of them
  pub spans : (i : ℕ) → i < m → (part : ℕ → Bool) × IsPart m part chosen × ((j : ℕ) → j < n → a i j ≡ row_sum a part m j)

-- how many of the first n numbers are chosen
abbrev pub count_chosen : (ℕ → Bool) → ℕ → ℕ
count_chosen chosen zero = 0
count_chosen chosen (suc n) = count_chosen chosen n + cond (chosen n) 1 0

-- such a choice of rows of the matrix has r of them
abbrev pub IsRank : Grid → ℕ → Type 0
IsRank m r = (chosen : ℕ → Bool) × IsBasis (item m) m.rows m.columns chosen × (count_chosen chosen m.rows ≡ r)

-- two equal rows and a third
abbrev rows_of_three : ℕ → ℕ → Bool
rows_of_three zero j = true
rows_of_three (suc zero) j = true
rows_of_three (suc (suc i)) zero = true
rows_of_three (suc (suc i)) (suc j) = false

equal_rows : row_sum rows_of_three (λ k. true) 2 1 ≡ false
equal_rows = refl

with_the_third : row_sum rows_of_three (λ k. true) 3 0 ≡ true
with_the_third = refl

not_the_second : count_chosen (λ k. rows_of_three k 1) 3 ≡ 2
not_the_second = refl
