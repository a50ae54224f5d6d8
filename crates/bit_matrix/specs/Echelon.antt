-- Echelon forms of matrices mod 2, and the equations that they solve; a matrix is a function of the row and the column.
use Rattle.std.specs.Prelude.{◌≡◌, ◌≢◌, ℕ, zero, suc, ◌<◌, ◌≤◌, Bool, true, false, ◌&&◌, refl}
use Rattle.bit_matrix.specs.Matrix.{sum_mod_2}
use Rattle.bit_matrix.specs.Rank.{row_sum}
use Rattle.bit_matrix.specs.Reduction.{IsLead}

-- each of m rows of n columns is a sum mod 2 of rows of another matrix
abbrev pub AreSumsOf : (ℕ → ℕ → Bool) → (ℕ → ℕ → Bool) → ℕ → ℕ → Type 0
AreSumsOf w a m n = (i : ℕ) → i < m → (part : ℕ → Bool) × ((j : ℕ) → j < n → w i j ≡ row_sum a part m j)

-- no sum mod 2 of some of m rows of n columns is zero
abbrev pub AreIndependent : (ℕ → ℕ → Bool) → ℕ → ℕ → Type 0
AreIndependent w m n = (part : ℕ → Bool) → ((j : ℕ) → j < n → row_sum w part m j ≡ false) → (k : ℕ) → k < m → part k ≡ false

-- v is made of w by adding rows to others: what are sums of rows stay so, and independent rows too
pub record IsMadeOf (w v : ℕ → ℕ → Bool) (m n : ℕ) : Type 0 where
  pub sums : (a : ℕ → ℕ → Bool) → AreSumsOf w a m n → AreSumsOf v a m n
  pub back : (a : ℕ → ℕ → Bool) → AreSumsOf a w m n → AreSumsOf a v m n
  pub independent : AreIndependent w m n → AreIndependent v m n

-- m rows of n columns are in reduced echelon form, and that many of them have a bit
pub record IsEchelon (w : ℕ → ℕ → Bool) (m n rank : ℕ) : Type 0 where
  pub few : rank ≤ m
  -- the first rows have a bit, and the others none
  pub leads : (i : ℕ) → i < rank → (p : ℕ) × (p < n) × IsLead (w i) p
  pub rest : (i j : ℕ) → rank ≤ i → i < m → j < n → w i j ≡ false
  -- the first bit of a row is to the left of that of each row after it
  pub ascending : (i k p q : ℕ) → i < k → k < rank → IsLead (w i) p → IsLead (w k) q → p < q
  -- no other row has a bit in the column of a row's first bit
  pub alone : (i k p : ℕ) → i < rank → k < m → k ≢ i → IsLead (w i) p → w k p ≡ false

-- x solves the equations of m rows of n columns: its product mod 2 with row i is bit i of the right side
abbrev pub IsSolution : (ℕ → ℕ → Bool) → ℕ → ℕ → (ℕ → Bool) → (ℕ → Bool) → Type 0
IsSolution a m n right x = (i : ℕ) → i < m → sum_mod_2 (λ j. a i j && x j) n ≡ right i

-- the rows 11 and 01
abbrev sheared : ℕ → ℕ → Bool
sheared zero j = true
sheared (suc i) zero = false
sheared (suc i) (suc j) = true

-- of the equations x + y = 1 and y = 1 the solution is 01
first_equation : sum_mod_2 (λ j. sheared 0 j && sheared 1 j) 2 ≡ true
first_equation = refl

second_equation : sum_mod_2 (λ j. sheared 1 j && sheared 1 j) 2 ≡ true
second_equation = refl
