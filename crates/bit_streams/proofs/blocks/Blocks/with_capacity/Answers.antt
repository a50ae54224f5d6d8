use Rattle.std.proofs.Common.{◌≡◌, ◌%◌, [], length, ◌∙◌, ap, arith}
use Rattle.bit_addressing.specs.Typed.{row}
use Rattle.bit_addressing.proofs.Rows.{row_of_none}
use Rattle.bit_streams.proofs.Lists.{nothing_written}
use Rattle.bit_streams.proofs.blocks.Blocks.with_capacity.Goals as goal

pub returns-in-Ok-clause-list : goal.returns-in-Ok-clause-list
returns-in-Ok-clause-list g c =
    nothing_written c.of.result.list
    (c.of.ensures.list ∙ ap (row g.T.BitStore g.O.BitOrder) (c.into_vec.ensures.words ∙ c.in-Ok.ensures.words) ∙ row_of_none g.O.BitOrder.place g.T.BitStore.BITS)

pub invariant_of-result : goal.invariant_of-result
invariant_of-result g c =
    let empty : c.of.result.list ≡ [] = c.of.ensures.list ∙ ap (row g.T.BitStore g.O.BitOrder) (c.into_vec.ensures.words ∙ c.in-Ok.ensures.words) ∙ row_of_none g.O.BitOrder.place g.T.BitStore.BITS in
    let none : length c.of.result.list ≡ 0 = ap length empty in
    record {
      few = omega arith;
      small = omega arith;
      blocks = ap (λ k. k % 64) none;
      fits = omega arith;
    }
