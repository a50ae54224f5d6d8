use Rattle.std.proofs.Common.{◌≡◌, length, sym, ◌∙◌, rules, arith}
use Rattle.std.specs.List.{refill, length_refill}
use Rattle.std.proofs.lemmas.Grind.{common_steps}
use Rattle.bit_containers.proofs.Vectors.{refilled}
use Rattle.bit_containers.proofs.vec.BitVec.as_mut_bitslice.Goals as goal

pub invariant_of-self-lent : goal.invariant_of-self-lent
invariant_of-self-lent g c = λ w.
    let i = c.self.inside in
    let n : i.words.len ≡ length i.words.items = search rules in
    refilled g.T.BitStore g.O.BitOrder i.words.items (refill i.words.len i.words.items w) i.head i.len (sym (length_refill i.words.len i.words.items w n) ∙ n) c.self.invariant

pub returns : goal.returns
returns g c = grind (arith, common_steps)
