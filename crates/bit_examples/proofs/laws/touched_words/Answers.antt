use Rattle.std.proofs.Common.{arith}
use Rattle.bit_addressing.proofs.Moves.{holds_bit}
use Rattle.bit_addressing.proofs.Rows.{width_positive}
use Rattle.bit_examples.proofs.laws.touched_words.Goals as goal

pub returns-then-n-eq0-clause-hold : goal.returns-then-n-eq0-clause-hold
returns-then-n-eq0-clause-hold g c = λ k. (λ h. absurd (omega (arith, h.0, h.1)), λ h. absurd (omega (arith, h.1, h.2, c.if-n-eq0.true)))

pub returns-clause-hold : goal.returns-clause-hold
returns-clause-hold g c =
    rw c.BITS-width.ensures (λ k. holds_bit g.T.BitStore.BITS c.args.from c.args.n k (width_positive _ g.met.T.BitStore.width) (omega arith))
