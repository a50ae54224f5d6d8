use Rattle.bit_slice.proofs.Exchanged.{IsExchangedWith}
use Rattle.bit_slice.proofs.edits.rotate.exchange_by.Given as goal

abbrev pub invariant-loop-i : goal.invariant-loop-i
invariant-loop-i g l = IsExchangedWith g.T.BitStore.value g.O.BitOrder.place g.T.BitStore.BITS l.fn.shifted l.fn.plain l.next l.at l.shifted l.plain l.i
