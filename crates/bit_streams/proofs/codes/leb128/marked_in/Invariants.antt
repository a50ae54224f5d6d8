use Rattle.bit_streams.proofs.Leading.{IsFront}
use Rattle.bit_streams.proofs.codes.leb128.marked_in.Given as goal

abbrev pub invariant-loop-i : goal.invariant-loop-i
invariant-loop-i l = IsFront l.fn.block l.i l.x
