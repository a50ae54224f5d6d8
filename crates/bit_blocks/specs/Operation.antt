-- What is made of two sets.
use Rattle.std.specs.Prelude.{◌≡◌, ℕ, Bool, not, ◌&&◌, ◌||◌, true, nat_eq, if◌then◌else◌, List}
use Rattle.bit_blocks.specs.Numbers.{has}
use Rattle.bit_blocks.specs.declared.operation.Operation.{Operation}
use Rattle.bit_blocks.specs.declared.operation.Operation.TheVariants.{Union, Intersection, Difference, SymmetricDifference}

-- whether a number is in what is made, by whether it is in the left set and in the right one
abbrev pub made_by : Operation → Bool → Bool → Bool
made_by Union x y = x || y
made_by Intersection x y = x && y
made_by Difference x y = x && not y
made_by SymmetricDifference x y = if x then not y else y

-- whether a number is in a list became what is made of that and of a right set that has it
abbrev pub ChangesAt : Operation → List ℕ → List ℕ → ℕ → Type 0
ChangesAt op old new number = (k : ℕ) → has new k ≡ (if nat_eq number k then made_by op (has old k) true else has old k)
