use Rattle.std.proofs.Common.{◌≡◌, ℕ, ◌<◌}
use Rattle.bit_addressing.specs.Bits.{has_bit}
use Rattle.bit_addressing.proofs.Packs.{unpacked_place}
use Rattle.bit_addressing.proofs.order.BitOrder.unpack.Given as goal

abbrev pub invariant-loop-i : goal.invariant-loop-i
invariant-loop-i g l = (j : ℕ) → j < l.i → has_bit l.bits (unpacked_place g.Self.BitOrder.place g.T.BitStore.BITS j) ≡ has_bit l.block (g.Self.BitOrder.place 64 j)
