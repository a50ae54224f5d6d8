use Rattle.std.proofs.Common.{sym, subst, arith}
use Rattle.bit_roaring.specs.Keyed.{AreKeyed}
use Rattle.bit_roaring.proofs.Made.{not_empty, pushed_keyed}
use Rattle.bit_roaring.proofs.keyed.push_some.Goals as goal

pub returns-in_ok-push-clause-keyed : goal.returns-in_ok-push-clause-keyed
returns-in_ok-push-clause-keyed c =
    subst AreKeyed (sym c.in_ok-push.ensures.items)
    (pushed_keyed 0 c.args.blocks.now.items c.args.key c.args.block c.requires.keyed c.requires.past (omega arith) c.ranges.key.fits c.requires.ascends (not_empty c.args.block c.is_empty.result c.is_empty.ensures c.if-not-is_empty.true))
