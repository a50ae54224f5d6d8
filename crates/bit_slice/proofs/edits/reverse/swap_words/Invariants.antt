use Rattle.std.proofs.Common.{◌*◌, map}
use Rattle.bit_slice.proofs.Reversing.{IsExchanged}
use Rattle.bit_slice.proofs.edits.reverse.swap_words.Given as goal

abbrev pub invariant-loop-t : goal.invariant-loop-t
invariant-loop-t g l = IsExchanged g.T.BitStore.BITS (map g.T.BitStore.value l.fn.low) (map g.T.BitStore.value l.fn.high) (map g.T.BitStore.value l.low) (map g.T.BitStore.value l.high) (4 * l.t)

abbrev pub invariant-loop-i : goal.invariant-loop-i
invariant-loop-i g l = IsExchanged g.T.BitStore.BITS (map g.T.BitStore.value l.fn.low) (map g.T.BitStore.value l.fn.high) (map g.T.BitStore.value l.low) (map g.T.BitStore.value l.high) l.i
