use Rattle.std.proofs.Common.{◌∙◌, ap}
use Rattle.std.proofs.lemmas.List.{take_all}
use Rattle.bit_containers.specs.Making.{marked}
use Rattle.bit_containers.proofs.Making.{marked_at}
use Rattle.bit_containers.proofs.vec.BitVec.from_indices.Goals as goal

pub returns-clause-list : goal.returns-clause-list
returns-clause-list g c = c.loop-index.invariant.list ∙ ap (marked c.args.len) (take_all c.loop-index.index-index c.args.indices.now c.loop-index-test.false)

pub returns-clause-index : goal.returns-clause-index
returns-clause-index g c j = rw (returns-clause-list g c) (marked_at c.args.len c.args.indices.now j c.requires.below)
