use Rattle.std.proofs.Common.{ap}
use Rattle.bit_containers.proofs.Elements.{exactly, shrank}
use Rattle.bit_containers.specs.BitVec.{bits_in}
use Rattle.bit_containers.proofs.vec.BitVec.set_len.Goals as goal

pub invariant_of-self : goal.invariant_of-self
invariant_of-self g c = exactly g.T.BitStore g.O.BitOrder c.cut_words_in_vec.new.words.items c.self.inside.head c.args.n g.met.T.BitStore.width c.self.invariant.head_below c.requires.few c.cut_words_in_vec.ensures.size

pub returns-clause-row : goal.returns-clause-row
returns-clause-row g c =
    let i = c.self.inside in
    rw (← c.self.view_is) (shrank g.T.BitStore g.O.BitOrder i.words.items c.cut_words_in_vec.new.words.items i.head i.len c.args.n _ _ c.cut_words_in_vec.ensures.items c.cut_words_in_vec.ensures.bits c.cut_words_in_vec.ensures.room (ap (λ n. bits_in g.T.BitStore.BITS n i.head) c.cut_words_in_vec.ensures.capacity))
