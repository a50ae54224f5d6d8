use Rattle.std.proofs.Common.{arith}
use Rattle.bit_blocks.proofs.Runs.{all_ordered}
use Rattle.bit_blocks.proofs.runs_left.RunsLeft.of.Goals as goal

pub invariant_of-result : goal.invariant_of-result
invariant_of-result c = record { front_small = omega arith; middle_ordered = all_ordered c.args.runs.now c.requires; back_small = omega arith }
