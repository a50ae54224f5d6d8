use Rattle.std.proofs.Common.{arith}
use Rattle.bit_blocks.specs.Numbers.{has}
use Rattle.bit_blocks.proofs.Counting.{count_most}
use Rattle.bit_roaring.proofs.Counted.{count_absent, count_present}
use Rattle.bit_roaring.proofs.keyed.common.count_at.Goals as goal

pub returns-in-None-clause-value : goal.returns-in-None-clause-value
returns-in-None-clause-value c = count_absent c.args.keyed.now.key c.args.keyed.now.block c.args.others.now c.requires.right c.requires.key c.requires.ascends c.in-None.ensures

pub returns-in-Some-clause-value : goal.returns-in-Some-clause-value
returns-in-Some-clause-value c = count_present c.args.keyed.now.key c.count_both.result c.args.keyed.now.block c.in-Some.other.now c.args.others.now c.requires.right c.requires.key c.requires.ascends c.in-Some.ensures c.count_both.ensures

pub returns-in-Some-clause-few : goal.returns-in-Some-clause-few
returns-in-Some-clause-few c = let most = count_most (has c.in-Some.other.now) c.args.keyed.now.block in omega (arith, c.count_both.ensures)
