-- The elimination of a square matrix mod 2, whose bits are a function of the row and the column.
use Rattle.std.specs.Prelude.{◌≡◌, ◌≢◌, ◌==◌, ℕ, ◌<◌, Bool, ◌&&◌}
use Rattle.bit_matrix.specs.Matrix.{plus_mod_2, sum_mod_2}

-- row `from` was added to row `into`, and no other row changed
pub record IsAdded (old new : ℕ → ℕ → Bool) (n into from : ℕ) : Type 0 where
  pub here : (j : ℕ) → j < n → new into j ≡ plus_mod_2 (old into j) (old from j)
  pub others : (i j : ℕ) → i < n → j < n → i ≢ into → new i j ≡ old i j

-- the columns below c are those of the identity
abbrev pub AreUnits : (ℕ → ℕ → Bool) → ℕ → ℕ → Type 0
AreUnits w n c = (i j : ℕ) → i < n → j < c → w i j ≡ (i == j)

-- w is the product of r and a, and a matrix gives the identity with r
pub record AreLinked (a w r : ℕ → ℕ → Bool) (n : ℕ) : Type 0 where
  pub made : (i j : ℕ) → i < n → j < n → w i j ≡ sum_mod_2 (λ k. r i k && a k j) n
  pub undone : (s : ℕ → ℕ → Bool) × ((i j : ℕ) → i < n → j < n → sum_mod_2 (λ k. s i k && r k j) n ≡ (i == j))
