use Rattle.std.proofs.Common.{◌<◌, length, sym, ◌∙◌, ap, subst, arith}
use Rattle.std.specs.Prelude.{slice_get}
use Rattle.bit_roaring.specs.Keyed.{keyed_numbers}
use Rattle.bit_roaring.proofs.Counted.{nth_here, nth_later}
use Rattle.bit_roaring.proofs.Keys.{keyed_here}
use Rattle.bit_roaring.proofs.keyed.select.Goals as goal

pub nth_of-requires-clause-key : goal.nth_of-requires-clause-key
nth_of-requires-clause-key c = subst (λ b. b.key < 65536) (sym c.keyed-item.is) (keyed_here 0 c.args.blocks.now c.loop-keyed.keyed-index c.keyed-item.result c.requires c.loop-keyed-test.true).0

pub returns-then-left-size : goal.returns-then-left-size
returns-then-left-size c =
    let d = c.keyed-item.result in
    let same = ap (λ b. length b.block) c.keyed-item.is in
    c.nth_of.ensures ∙ ap (λ b. slice_get (keyed_numbers b) c.loop-keyed.left) c.keyed-item.is
    ∙ nth_here c.args.blocks.now c.loop-keyed.keyed-index c.loop-keyed.left d c.loop-keyed-test.true (omega (arith, c.len-size.ensures.value, c.if-left-size.true)) ∙ c.loop-keyed.invariant

pub loop-keyed-preserved : goal.loop-keyed-preserved
loop-keyed-preserved c =
    let d = c.keyed-item.result in
    let same = ap (λ b. length b.block) c.keyed-item.is in
    nth_later c.args.blocks.now c.loop-keyed.keyed-index c.loop-keyed.left _ d c.loop-keyed-test.true (omega (arith, c.len-size.ensures.value, c.if-left-size.false)) ∙ c.loop-keyed.invariant
