use Rattle.std.proofs.Common.{◌≡◌, drop}
use Rattle.bit_portable.specs.Stored.{pieces_lent}
use Rattle.bit_portable.specs.Portable.{any_runs}
use Rattle.bit_portable.proofs.sets.any_runs.Given as goal

abbrev pub invariant-loop-block : goal.invariant-loop-block
invariant-loop-block l = any_runs (pieces_lent (drop l.block-index l.blocks)) ≡ any_runs (pieces_lent l.blocks)
