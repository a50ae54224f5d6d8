use Rattle.std.proofs.Common.{◌-◌, length}
use Rattle.bit_portable.proofs.Bytes.{FlagsTo}
use Rattle.bit_portable.proofs.writing.push_flags.Given as goal

abbrev pub invariant-loop-from : goal.invariant-loop-from
invariant-loop-from l = FlagsTo l.fn.out.items l.out.items l.blocks l.from

abbrev pub decreases-loop-from : goal.decreases-loop-from
decreases-loop-from l = length l.blocks - l.from
