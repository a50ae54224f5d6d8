use Rattle.bit_addressing.specs.Row.{number_bits}
use Rattle.bit_slice.specs.Closures.{ResultsFrom}
use Rattle.bit_matrix.proofs.matrix.making.number_by.Given as goal

abbrev pub invariant-loop-i : goal.invariant-loop-i
invariant-loop-i g l = ResultsFrom (λ s j given t. goal.F-step g s l.row j given t) l.fn.f l.from (number_bits l.number l.i) l.f
