use Rattle.bit_streams.proofs.Leading.{IsBegun}
use Rattle.bit_streams.proofs.codes.leb128.first_bytes.Given as goal

abbrev pub invariant-loop-i : goal.invariant-loop-i
invariant-loop-i l = IsBegun l.fn.x l.i l.code l.left
