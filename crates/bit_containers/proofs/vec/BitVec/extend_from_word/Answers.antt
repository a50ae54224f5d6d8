use Rattle.std.proofs.Common.{◌≡◌, ◌∷◌, [], ◌++◌, ◌∙◌, ap, subst}
use Rattle.std.proofs.lemmas.Result.{on_ok_weaker}
use Rattle.bit_addressing.specs.Row.{number_bits}
use Rattle.bit_addressing.specs.Typed.{row}
use Rattle.bit_addressing.proofs.Rows.{width_positive, width_small}
use Rattle.bit_containers.specs.BitVec.{Grew}
use Rattle.bit_containers.proofs.Pulling.{word_bits}
use Rattle.bit_containers.proofs.vec.BitVec.extend_from_word.Goals as goal
use Rattle.bit_containers.proofs.vec.BitVec.extend_from_word.Given.{Over}

pub push_le-requires : goal.push_le-requires
push_le-requires g c = rw c.BITS.ensures (width_small g.T.BitStore.BITS g.met.T.BitStore.width)

-- the bits of the word
gathered : (g : Over) (c : goal.After-push_le g) → number_bits c.to_u64.result c.BITS.result ≡ row g.T.BitStore g.O.BitOrder (c.args.word ∷ [])
gathered g c =
    let w = g.T.BitStore.BITS in
    ap (number_bits c.to_u64.result) c.BITS.ensures
    ∙ word_bits g.O.BitOrder.place w (g.T.BitStore.value c.args.word) c.to_u64.result (width_positive w g.met.T.BitStore.width) (λ i h. c.to_u64.ensures.low i h ∙ c.to_lsb0.ensures i h)

pub returns-clause-list : goal.returns-clause-list
returns-clause-list g c = on_ok_weaker c.push_le.result (λ h. h ∙ ap (λ l. c.args.self.now.list ++ l) (gathered g c)) c.push_le.ensures.list

pub returns-clause-row : goal.returns-clause-row
returns-clause-row g c = on_ok_weaker c.push_le.result (λ h. subst (Grew g.T.BitStore.BITS c.args.self.now c.push_le.new.self) (gathered g c) h) c.push_le.ensures.row
