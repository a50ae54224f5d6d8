-- What an iterator over the numbers of a range has left.
use Rattle.std.specs.Prelude.{ℕ, ◌+◌, List, map}
use Rattle.bit_slice.specs.Indices.{ones_left}
use Rattle.bit_sets.specs.declared.number_set.ranges.SetRange.{SetRange}

-- the numbers that are left
abbrev pub range_left : SetRange → List ℕ
range_left s = map (λ i. s.base + i) (ones_left s.ones)
