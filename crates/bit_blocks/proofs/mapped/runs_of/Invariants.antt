use Rattle.std.proofs.Common.{◌-◌}
use Rattle.bit_blocks.proofs.Scanned.{ScannedTo}
use Rattle.bit_blocks.proofs.mapped.runs_of.Given as goal

abbrev pub invariant-loop-first : goal.invariant-loop-first
invariant-loop-first l = ScannedTo l.bits.list l.runs.items l.from

abbrev pub decreases-loop-first : goal.decreases-loop-first
decreases-loop-first l = 65536 - l.from
