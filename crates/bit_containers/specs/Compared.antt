-- Vectors compared by their lists.
use Rattle.std.specs.Prelude.{Bool, List}
use Rattle.bit_containers.specs.BitVec.{Held}

-- the list of a vector
abbrev pub list_in : {X : Type 0} → Held X → List Bool
list_in v = v.list
