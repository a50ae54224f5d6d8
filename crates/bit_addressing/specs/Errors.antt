-- The texts of errors.
use Rattle.std.specs.Prelude.{ℕ, List, codes}
use Rattle.bit_addressing.specs.declared.errors.GrowError.{GrowError}
use Rattle.bit_addressing.specs.declared.errors.GrowError.TheVariants.{TooLong, OutOfMemory}

-- the text of a refused growth
abbrev pub grow_error_text : GrowError → List ℕ
grow_error_text TooLong = codes "more bits than a container holds"
grow_error_text OutOfMemory = codes "memory was refused"
