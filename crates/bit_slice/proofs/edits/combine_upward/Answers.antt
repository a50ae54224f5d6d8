use Rattle.std.proofs.Common.{◌≡◌, ◌+◌, slice_range, refl, ◌∙◌, ap, arith}
use Rattle.bit_addressing.specs.Row.{put}
use Rattle.bit_addressing.specs.Typed.{row}
use Rattle.bit_slice.specs.Operators.{combined}
use Rattle.bit_slice.proofs.Parts.{in_row}
use Rattle.bit_slice.proofs.Within.{front_none, front_more}
use Rattle.bit_slice.proofs.edits.combine_upward.Goals as goal

pub loop-done-init : goal.loop-done-init
loop-done-init g c =
    let source = in_row g.T.BitStore g.O.BitOrder c.args.words.now (c.args.from + c.args.n) c.requires.source in
    let target = in_row g.T.BitStore g.O.BitOrder c.args.words.now (c.args.at + c.args.n) c.requires.target in
    record { ends = omega arith; size = refl; bits = front_none g.F.BitOperator.made (row g.T.BitStore g.O.BitOrder c.args.words.now) c.args.from c.args.at c.args.n source target }

pub loop-done-preserved : goal.loop-done-preserved
loop-done-preserved g c =
    let xs = row g.T.BitStore g.O.BitOrder c.args.words.now in
    let zs = row g.T.BitStore g.O.BitOrder c.loop-done.words in
    let source = in_row g.T.BitStore g.O.BitOrder c.args.words.now (c.args.from + c.args.n) c.requires.source in
    let target = in_row g.T.BitStore g.O.BitOrder c.args.words.now (c.args.at + c.args.n) c.requires.target in
    record {
      ends = omega arith;
      size = c.combine_piece.ensures.size ∙ c.loop-done.invariant.size;
      bits = c.combine_piece.ensures.bits ∙ front_more g.F.BitOperator.made xs c.args.from c.args.at c.args.n source target zs c.loop-done.done c.min-m.result c.requires.order c.loop-done.invariant.bits (omega arith);
    }

pub returns-clause-bits : goal.returns-clause-bits
returns-clause-bits g c =
    let xs = row g.T.BitStore g.O.BitOrder c.args.words.now in
    let end : c.loop-done.done ≡ c.args.n = omega arith in
    c.loop-done.invariant.bits ∙ ap (λ k. put xs c.args.at (combined g.F.BitOperator.made (slice_range xs c.args.at (c.args.at + k)) (slice_range xs c.args.from (c.args.from + k)))) end
