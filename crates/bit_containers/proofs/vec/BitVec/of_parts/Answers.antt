use Rattle.bit_containers.proofs.Elements.{exactly}
use Rattle.bit_containers.proofs.vec.BitVec.of_parts.Goals as goal

pub invariant_of-result : goal.invariant_of-result
invariant_of-result g c = exactly g.T.BitStore g.O.BitOrder c.args.words.items c.args.head c.args.len g.met.T.BitStore.width c.requires.in_word c.requires.few c.requires.exact
