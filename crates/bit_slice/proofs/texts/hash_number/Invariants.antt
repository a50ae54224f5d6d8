use Rattle.std.proofs.Common.{◌≡◌}
use Rattle.std.specs.List.{fold}
use Rattle.bit_addressing.specs.Row.{number_bits}
use Rattle.bit_slice.specs.Comparisons.{bits_fed}
use Rattle.bit_slice.proofs.texts.hash_number.Given as goal

abbrev pub invariant-loop-i : goal.invariant-loop-i
invariant-loop-i g l = l.state ≡ fold g.H.Hasher.write l.initial.state (bits_fed (number_bits l.number l.i))
