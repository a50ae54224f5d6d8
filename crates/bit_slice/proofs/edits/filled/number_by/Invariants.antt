use Rattle.bit_addressing.specs.Row.{number_bits}
use Rattle.bit_slice.specs.Closures.{ResultsFrom}
use Rattle.bit_slice.proofs.edits.filled.number_by.Given as goal

abbrev pub invariant-loop-i : goal.invariant-loop-i
invariant-loop-i g l = ResultsFrom (goal.F-step g) l.fn.f l.from (number_bits l.number l.i) l.f
