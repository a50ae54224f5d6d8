use Rattle.bit_containers.proofs.Growing.{highest_bits_next}
use Rattle.bit_containers.proofs.vec.collect.with_last.Goals as goal

pub returns : goal.returns
returns c n few = highest_bits_next c.args.number c.with_bit.result n c.args.bit few c.with_bit.ensures
