-- Ranges of indices.
use Rattle.std.specs.Prelude.{ℕ, ◌≤◌}

-- a range lies in a list of this length: it begins at its end at the latest, and ends at the list's end at the latest
abbrev pub LiesIn : ℕ → ℕ → ℕ → Type 0
LiesIn start end len = (start ≤ end) × (end ≤ len)
