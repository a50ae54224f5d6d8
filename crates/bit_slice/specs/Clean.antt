-- Rows in which no dead bit is true.
use Rattle.std.specs.Prelude.{◌≡◌, ℕ, Bool, List, length}
use Rattle.bit_addressing.specs.Row.{sized}

-- a list begins in its row at `start`: that is 0, and each dead bit is false, so the row is the list and then false
pub record IsCleanRow (w start : ℕ) (bits list : List Bool) : Type 0 where
  pub head : start ≡ 0
  pub row : bits ≡ sized w list (length list)

-- a copy of a list: the same list, in a clean row
pub record IsCopiedRow (w : ℕ) (old : List Bool) (start : ℕ) (bits shown : List Bool) : Type 0 where
  pub list : shown ≡ old
  pub clean : IsCleanRow w start bits shown

-- what a write keeps: a row with no dead bit that is true has none afterwards
abbrev pub StaysClean : {S : Type 0} → ℕ → (S → ℕ) → (S → List Bool) → (S → List Bool) → S → S → Type 0
StaysClean w head row list old new = IsCleanRow w (head old) (row old) (list old) → IsCleanRow w (head new) (row new) (list new)
