-- Orders that are the same from both ends of a word.
use Rattle.std.specs.Prelude.{◌≡◌, ℕ, ◌-◌, ◌<◌}

-- for each index i of w, the place of the index w - 1 - i is w - 1 less the place of i
abbrev pub IsMirrored : ℕ → (ℕ → ℕ) → Type 0
IsMirrored w place = (i : ℕ) → i < w → place (w - 1 - i) ≡ w - 1 - place i
