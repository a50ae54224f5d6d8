-- The texts of errors.
use Rattle.std.specs.Prelude.{ℕ, List, codes}
use Rattle.bit_sets.specs.declared.sorted.errors.SortedError.{SortedError}
use Rattle.bit_sets.specs.declared.sorted.errors.SortedError.TheVariants.{Descends, TooLong, OutOfMemory}

-- the text of numbers that are refused
abbrev pub sorted_error_text : SortedError → List ℕ
sorted_error_text (Descends i) = codes "numbers that descend"
sorted_error_text TooLong = codes "more bits than a container holds"
sorted_error_text OutOfMemory = codes "memory was refused"
