use Rattle.std.proofs.Common.{◌≡◌, ◌+◌, ◌-◌, slice_range, refl, ◌∙◌, ap, arith}
use Rattle.bit_addressing.specs.Row.{put}
use Rattle.bit_addressing.specs.Typed.{row}
use Rattle.bit_slice.specs.Operators.{combined}
use Rattle.bit_slice.proofs.Parts.{in_row}
use Rattle.bit_slice.proofs.Within.{rest_none, rest_more}
use Rattle.bit_slice.proofs.edits.combine_downward.Goals as goal

pub loop-left-init : goal.loop-left-init
loop-left-init g c =
    let source = in_row g.T.BitStore g.O.BitOrder c.args.words.now (c.args.from + c.args.n) c.requires.source in
    let target = in_row g.T.BitStore g.O.BitOrder c.args.words.now (c.args.at + c.args.n) c.requires.target in
    record { ends = omega arith; size = refl; bits = rest_none g.F.BitOperator.made (row g.T.BitStore g.O.BitOrder c.args.words.now) c.args.from c.args.at c.args.n source target }

pub loop-left-preserved : goal.loop-left-preserved
loop-left-preserved g c =
    let xs = row g.T.BitStore g.O.BitOrder c.args.words.now in
    let zs = row g.T.BitStore g.O.BitOrder c.loop-left.words in
    let source = in_row g.T.BitStore g.O.BitOrder c.args.words.now (c.args.from + c.args.n) c.requires.source in
    let target = in_row g.T.BitStore g.O.BitOrder c.args.words.now (c.args.at + c.args.n) c.requires.target in
    let m = c.min-m.result in
    let less : c.loop-left.left ≡ c.loop-left.left - m + m = omega arith in
    let was = c.loop-left.invariant.bits ∙ ap (λ k. put xs (c.args.at + k) (combined g.F.BitOperator.made (slice_range xs (c.args.at + k) (c.args.at + c.args.n)) (slice_range xs (c.args.from + k) (c.args.from + c.args.n)))) less in
    record {
      ends = omega arith;
      size = c.combine_piece.ensures.size ∙ c.loop-left.invariant.size;
      bits = c.combine_piece.ensures.bits ∙ rest_more g.F.BitOperator.made xs c.args.from c.args.at c.args.n source target zs (c.loop-left.left - m) m c.requires.order was (omega arith);
    }

pub returns-clause-bits : goal.returns-clause-bits
returns-clause-bits g c =
    let xs = row g.T.BitStore g.O.BitOrder c.args.words.now in
    let end : c.loop-left.left ≡ 0 = omega arith in
    let a : c.args.at + c.loop-left.left ≡ c.args.at = omega arith in
    let b : c.args.from + c.loop-left.left ≡ c.args.from = omega arith in
    c.loop-left.invariant.bits ∙ ap (λ k. put xs k (combined g.F.BitOperator.made (slice_range xs k (c.args.at + c.args.n)) (slice_range xs (c.args.from + c.loop-left.left) (c.args.from + c.args.n)))) a
    ∙ ap (λ k. put xs c.args.at (combined g.F.BitOperator.made (slice_range xs c.args.at (c.args.at + c.args.n)) (slice_range xs k (c.args.from + c.args.n)))) b
