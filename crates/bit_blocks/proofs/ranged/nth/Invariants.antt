use Rattle.std.proofs.Common.{◌≡◌, drop}
use Rattle.std.specs.Prelude.{slice_get}
use Rattle.bit_blocks.specs.Runs.{run_numbers}
use Rattle.bit_blocks.proofs.ranged.nth.Given as goal

abbrev pub invariant-loop-run : goal.invariant-loop-run
invariant-loop-run l = slice_get (run_numbers (drop l.run-index l.runs)) l.left ≡ slice_get (run_numbers l.runs) l.k
