-- The rows of a matrix mod 2, each reduced by those before it; a and w are its bits before and now, as functions of the row and the column.
use Rattle.std.specs.Prelude.{◌≡◌, ◌≢◌, ℕ, ◌<◌, ◌≤◌, Bool, false, true}
use Rattle.bit_matrix.specs.Matrix.{any_below, plus_mod_2}
use Rattle.bit_matrix.specs.Rank.{IsPart, row_sum}

-- column j has the first bit of a row
pub record IsLead (row : ℕ → Bool) (j : ℕ) : Type 0 where
  pub here : row j ≡ true
  pub before : (h : ℕ) → h < j → row h ≡ false

-- whether a row has a bit
abbrev pub is_left : (ℕ → ℕ → Bool) → ℕ → ℕ → Bool
is_left w n k = any_below (w k) n

-- the first i rows of w are those of a, each reduced by those before it: the rows that have a bit left stand for rows of a that are independent and make all of the first i
pub record AreReduced (a w : ℕ → ℕ → Bool) (m n i : ℕ) : Type 0 where
  pub rest : (k j : ℕ) → i ≤ k → k < m → j < n → w k j ≡ a k j
  pub cleared : (k l j : ℕ) → k < l → l < i → j < n → IsLead (w k) j → w l j ≡ false
  -- a sum of such rows of a that is false at the first bits of all rows left is zero
  pub zero : (part : ℕ → Bool) → IsPart i part (is_left w n) → ((k j : ℕ) → k < i → j < n → IsLead (w k) j → row_sum a part i j ≡ false) → (j : ℕ) → j < n → row_sum a part i j ≡ false
  pub independent : (part : ℕ → Bool) → IsPart i part (is_left w n) → ((j : ℕ) → j < n → row_sum a part i j ≡ false) → (k : ℕ) → k < i → part k ≡ false
  pub spans : (l : ℕ) → l < i → (part : ℕ → Bool) × IsPart i part (is_left w n) × ((j : ℕ) → j < n → a l j ≡ row_sum a part i j)
  pub made : (l : ℕ) → l < i → (part : ℕ → Bool) × IsPart i part (is_left w n) × ((j : ℕ) → j < n → w l j ≡ row_sum a part i j)

-- row i is a sum of itself and rows of a that stand for rows left, and is false at the first bits of the first k rows
pub record IsReducing (a w v : ℕ → ℕ → Bool) (m n i k : ℕ) : Type 0 where
  pub others : (l j : ℕ) → l < m → j < n → l ≢ i → v l j ≡ w l j
  pub sum : (part : ℕ → Bool) × IsPart i part (is_left w n) × ((j : ℕ) → j < n → v i j ≡ plus_mod_2 (a i j) (row_sum a part i j))
  pub cleared : (l j : ℕ) → l < k → j < n → IsLead (w l) j → v i j ≡ false
