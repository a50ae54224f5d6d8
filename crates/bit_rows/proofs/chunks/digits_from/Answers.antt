use Rattle.std.proofs.Common.{arith}
use Rattle.bit_rows.proofs.Numbers.{digits_down, digits_up, none_after_down, none_after_up}
use Rattle.bit_rows.proofs.chunks.digits_from.Goals as goal

pub returns-then-highest_first-clause-digits : goal.returns-then-highest_first-clause-digits
returns-then-highest_first-clause-digits g c = λ i h. digits_down c.reverse.result c.args.number c.args.low c.args.n i c.requires.within c.reverse.ensures h

pub returns-then-highest_first-clause-rest : goal.returns-then-highest_first-clause-rest
returns-then-highest_first-clause-rest g c = λ i after h. none_after_down c.reverse.result c.args.number c.args.low c.args.n i c.requires.some c.reverse.ensures after h

pub returns-clause-digits : goal.returns-clause-digits
returns-clause-digits g c = λ i h. digits_up c.reverse-2.result c.args.number c.args.low c.args.n i c.requires.within c.reverse-2.ensures h

pub returns-clause-rest : goal.returns-clause-rest
returns-clause-rest g c = λ i after h. none_after_up c.reverse-2.result c.args.number c.args.low c.args.n i c.requires.some c.requires.within (omega arith) after h
