-- What an iterator over sorted numbers has left.
use Rattle.std.specs.Prelude.{ℕ, List, slice_range}
use Rattle.bit_slice.specs.BitSlice.{list_of}
use Rattle.bit_sets.specs.Sorted.{numbers_of}
use Rattle.bit_sets.specs.declared.sorted.iter.Numbers.{Numbers}

-- the numbers that are left
abbrev pub numbers_left : Numbers → List ℕ
numbers_left s = slice_range (numbers_of s.len s.width (list_of s.high) (list_of s.low)) s.at s.end
