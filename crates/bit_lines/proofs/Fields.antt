-- Fields of a line.
use Rattle.std.proofs.Common.{◌≡◌, ℕ, ◌<◌, List, [], ◌∷◌, refl, length, arith, None}
use Rattle.bit_containers.proofs.TextParts.{some_parts}
use Rattle.bit_lines.specs.Line.{of_fields, fields_of}

too_many : (w a b c d : List ℕ) (parts : List (List ℕ)) → 0 < length parts → None ≡ of_fields (w ∷ a ∷ b ∷ c ∷ d ∷ parts)
too_many w a b c d [] h = absurd (omega arith)
too_many w a b c d (e ∷ more) h = refl

-- a word with more than four arguments is no line
pub too_many_fields : (w a b c d rest : List ℕ) → None ≡ of_fields (w ∷ a ∷ b ∷ c ∷ d ∷ fields_of rest)
too_many_fields w a b c d rest = too_many w a b c d (fields_of rest) (some_parts 32 rest)
