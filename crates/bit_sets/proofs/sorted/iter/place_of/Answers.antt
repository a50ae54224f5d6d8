use Rattle.std.proofs.Common.{refl}
use Rattle.bit_sets.proofs.Left.{place_none, place_some}
use Rattle.bit_sets.proofs.sorted.iter.place_of.Goals as goal

pub returns-in-None-clause-before : goal.returns-in-None-clause-before
returns-in-None-clause-before c = place_none c.args.high.now.list c.args.len c.args.k c.len.result c.requires c.len.ensures.value (c.in-None.ensures.none.0 refl)

pub returns-in-Some-clause-before : goal.returns-in-Some-clause-before
returns-in-Some-clause-before c = place_some c.args.high.now.list c.args.len c.args.k c.in-Some.place c.requires c.in-Some.ensures.value c.in-Some.ensures.before
