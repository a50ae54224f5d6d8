use Rattle.std.proofs.Common.{◌*◌, ◌∙◌, ap}
use Rattle.bit_addressing.proofs.Typed.{length_row}
use Rattle.bit_containers.proofs.vec.BitVec.prove_in_words.Goals as goal

pub returns-clause-size : goal.returns-clause-size
returns-clause-size g c =
    let i = c.self.inside in
    let w = g.T.BitStore.BITS in
    rw (← c.self.view_is, c.self.invariant.shows) (length_row g.T.BitStore.value g.O.BitOrder.place w i.words.items ∙ ap (λ n. w * n) c.self.invariant.count)
