use Rattle.std.proofs.Common.{◌≡◌, ◌+◌, ◌<◌, ℕ, true}
use Rattle.bit_addressing.specs.Bits.{has_bit}
use Rattle.bit_matrix.specs.Matrix.{IsSet}
use Rattle.bit_matrix.proofs.matrix.Matrix.leading.Given as goal

abbrev pub invariant-loop-row : goal.invariant-loop-row
invariant-loop-row l = (p j : ℕ) → l.start + p < l.row → IsSet l.self (l.start + p) j → has_bit l.leading p ≡ true
