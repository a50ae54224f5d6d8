use Rattle.bit_roaring.proofs.Sets.{keyed_there, loses_there, others_stay}
use Rattle.bit_roaring.proofs.keyed.remove_at.Goals as goal

pub returns-clause-keyed : goal.returns-clause-keyed
returns-clause-keyed c =
    let at = c.index_mut-keyed.result.now in
    let bs = c.args.blocks.now.items in
    keyed_there bs c.args.key c.args.place at c.remove.new.self c.requires.keyed c.requires.there c.index_mut-keyed.ensures.value c.remove.ensures.ascends
    (others_stay bs c.args.key c.args.place c.args.low at c.remove.new.self c.requires.keyed c.requires.there c.index_mut-keyed.ensures.value c.requires.others c.in_ok-old.ensures.loses)

pub returns-clause-loses : goal.returns-clause-loses
returns-clause-loses c =
    loses_there c.args.blocks.now.items c.args.key c.args.place c.args.low c.index_mut-keyed.result.now c.remove.new.self c.requires.keyed c.requires.there c.index_mut-keyed.ensures.value c.in_ok-old.ensures.loses
