use Rattle.std.proofs.Common.{◌≡◌, ℕ, ◌+◌}
use Rattle.bit_addressing.specs.Bits.{has_bit}
use Rattle.bit_addressing.specs.Row.{number_bits}
use Rattle.bit_slice.specs.Masked.{deposited}
use Rattle.bit_slice.proofs.Masking.{ones}
use Rattle.bit_slice.proofs.edits.masked.deposit_number.Given as goal

abbrev pub invariant-loop-i : goal.invariant-loop-i
invariant-loop-i l = record {
  done : number_bits l.number l.i ≡ deposited (number_bits l.old l.i) (number_bits l.mask l.i) (number_bits l.source 64);
  left : (k : ℕ) → has_bit l.left k ≡ has_bit l.source (ones (number_bits l.mask l.i) + k);
}
