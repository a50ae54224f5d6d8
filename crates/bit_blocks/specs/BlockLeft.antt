-- What an iterator over the numbers of a block has left.
use Rattle.std.specs.Prelude.{ℕ, ◌+◌, List, map}
use Rattle.bit_slice.specs.Indices.{ones_left}
use Rattle.bit_blocks.specs.RunsLeft.{runs_left}
use Rattle.bit_blocks.specs.declared.iter.BlockIter.{BlockIter}
use Rattle.bit_blocks.specs.declared.iter.Left.{Left}
use Rattle.bit_blocks.specs.declared.iter.Left.TheVariants.{Listed, Mapped, Ranged}
use Rattle.bit_blocks.specs.declared.iter.OnesLeft.{OnesLeft}

-- the indices that are left, each with the base added
abbrev pub based_left : OnesLeft → List ℕ
based_left s = map (λ i. s.base + i) (ones_left s.ones)

-- the numbers that are left of a form
abbrev pub form_left : Left → List ℕ
form_left (Listed numbers) = numbers.now
form_left (Mapped ones) = based_left ones
form_left (Ranged runs) = runs_left runs

-- the numbers that are left
abbrev pub block_left : BlockIter → List ℕ
block_left s = form_left s.left
