use Rattle.std.proofs.Common.{◌<◌, [], get_or, length, sym, ◌∙◌, ap, arith}
use Rattle.std.proofs.lemmas.List.{ext_get_or, get_or_default}
use Rattle.bit_slice.proofs.Counting.{told_false, told_true}
use Rattle.bit_roaring.specs.Keyed.{set_numbers}
use Rattle.bit_roaring.proofs.Bytes.{same_set}
use Rattle.bit_roaring.proofs.Keys.{keyed}
use Rattle.bit_roaring.proofs.keyed.are_same.Goals as goal

pub returns-then-blocks-others : goal.returns-then-blocks-others
returns-then-blocks-others c =
    told_false _ (λ same. let lengths = ap length (same_set c.args.blocks.now c.args.others.now c.requires.left c.requires.right same) in c.if-blocks-others.true lengths)

pub returns-then-not-is_same : goal.returns-then-not-is_same
returns-then-not-is_same c =
    told_false _ (λ same.
    let whole = same_set c.args.blocks.now c.args.others.now c.requires.left c.requires.right same in
    let i = c.loop-i.i in
    let d = c.index-others-i.result in
    let inside : i < length c.args.blocks.now = omega (arith, c.loop-i-test.true) in
    let here = c.index-blocks-i.is ∙ get_or_default c.args.blocks.now i c.index-blocks-i.result d inside ∙ ap (λ l. get_or l i d) whole ∙ sym c.index-others-i.is in
    let told = c.is_same.ensures.1 here in
    cc)

pub returns : goal.returns
returns c =
    told_true _ (
    let d = keyed 0 [] in
    ap set_numbers (ext_get_or d c.args.blocks.now c.args.others.now c.if-blocks-others.false (λ j inside. c.loop-i.invariant j d (omega (arith, c.loop-i-test.false)))))
