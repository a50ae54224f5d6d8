use Rattle.std.proofs.Common.{length, sym, ◌∙◌, ap}
use Rattle.bit_addressing.proofs.Typed.{length_row}
use Rattle.bit_streams.proofs.words.Words.into_vec.Goals as goal

pub returns-clause-len : goal.returns-clause-len
returns-clause-len g c =
    sym (length_row g.T.BitStore.value g.O.BitOrder.place g.T.BitStore.BITS c.turn_in_vec.new.words.items)
    ∙ ap length c.turn_in_vec.ensures.bits ∙ ap (λ v. length v.list) c.self.view_is
