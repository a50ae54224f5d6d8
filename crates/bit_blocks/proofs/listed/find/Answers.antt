use Rattle.std.proofs.Common.{arith}
use Rattle.std.proofs.lemmas.Bool.Decides.{nat_tests}
use Rattle.bit_blocks.proofs.Ascending.{at_place}
use Rattle.bit_blocks.proofs.listed.find.Goals as goal

pub returns-then-place-numbers-clause-there : goal.returns-then-place-numbers-clause-there
returns-then-place-numbers-clause-there c = grind (arith, nat_tests, at_place 0 65536 c.args.numbers.now c.args.number c.requires)

pub returns-then-numbers-place-clause-there : goal.returns-then-numbers-place-clause-there
returns-then-numbers-place-clause-there c = grind (arith, nat_tests, at_place 0 65536 c.args.numbers.now c.args.number c.requires)

pub returns-clause-there : goal.returns-clause-there
returns-clause-there c = grind (arith, nat_tests, at_place 0 65536 c.args.numbers.now c.args.number c.requires)
