-- What an iterator over the numbers of a set has left.
use Rattle.std.specs.Prelude.{ℕ, ◌+◌, List, ◌++◌, map}
use Rattle.bit_blocks.specs.BlockLeft.{block_left}
use Rattle.bit_roaring.specs.Keyed.{set_numbers}
use Rattle.bit_roaring.specs.declared.iter.SetIter.{SetIter}

-- the numbers that are left: of the block that was begun from the front, of those that were not begun, and of the one from the back
abbrev pub set_left : SetIter → List ℕ
set_left s = map (λ k. s.base + k) (block_left s.begun) ++ (set_numbers s.blocks.now ++ map (λ k. s.back_base + k) (block_left s.ended))
