use Rattle.std.proofs.Common.{◌≡◌, ◌+◌, ◌*◌, false, [], ◌∷◌, get_or, slice_range, rules, refl, sym, ◌∙◌, ap, arith}
use Rattle.std.proofs.Output.{has_written_styled_append, has_written_styled_of_eq}
use Rattle.bit_addressing.specs.Text.{digit_of, list_text}
use Rattle.bit_slice.specs.BitSlice.{list_of}
use Rattle.bit_slice.specs.Texts.{spaced}
use Rattle.bit_slice.proofs.Writing.{spaced_runs, text_whole}
use Rattle.bit_addressing.proofs.Rows.{same_lists_none}
use Rattle.bit_slice.proofs.texts.write_list.Goals.{then-bit, else-bit}
use Rattle.bit_slice.proofs.texts.write_list.Goals as goal

pub returns-then-len-eq0 : goal.returns-then-len-eq0
returns-then-len-eq0 g c flush ok =
    let start = c.in_ok-write_str.ensures.styled flush refl in
    let end = c.write_str-then-len-eq0.ensures.styled start.flush ok in
    let none : list_of c.args.view ≡ [] = same_lists_none (list_of c.args.view) (sym c.len.ensures.list ∙ c.if-len-eq0.true) in
    has_written_styled_of_eq _ _ _ _ _ (ap list_text (sym none)) (has_written_styled_append _ _ _ _ _ _ start end)

pub loop-t-preserved : goal.loop-t-preserved
loop-t-preserved g c flush =
    let list = list_of c.args.view in
    let t = c.loop-t.t in
    let so_far = c.loop-t.invariant flush in
    let more = c.in_ok-write_more.ensures so_far.flush refl in
    let size = c.len.ensures.list in
    let next : 1 + t * 64 + 64 ≡ 1 + (t + 1) * 64 = omega arith in
    has_written_styled_of_eq _ _ _ _ _
    (spaced_runs list 1 (1 + t * 64) (1 + t * 64 + 64) (omega arith) (omega arith) (omega (arith, c.loop-t-test.true, c.loop-t.auto.t-end, c.len-more.ensures.list)) ∙ ap (λ n. spaced (slice_range list 1 n)) next)
    (has_written_styled_append _ _ _ _ _ _ so_far more)

pub returns : goal.returns
returns g c flush ok =
    let list = list_of c.args.view in
    let start = c.in_ok-write_str.ensures.styled flush refl in
    let first = c.in_ok-write_str-2.ensures.styled start.flush refl in
    let middle = c.loop-t.invariant first.flush in
    let rest = c.in_ok-write_more-2.ensures middle.flush refl in
    let end = c.write_str-3.ensures.styled rest.flush ok in
    let digit : c.if-bit.write_str.now ≡ digit_of (get_or list 0 false) ∷ [] =
    elim c.if-bit.branch [ then-bit w ↦ search rules | else-bit w ↦ search rules ] in
    has_written_styled_of_eq _ _ _ _ _
    (text_whole list c.if-bit.write_str.now (1 + c.loop-t.t * 64) _ _ (omega (arith, c.len.ensures.list, c.if-len-eq0.false)) digit
    (omega (arith, c.loop-t-test.false, c.loop-t.auto.t-end)) (omega arith)
    (omega (arith, c.loop-t-test.false, c.loop-t.auto.t-end)) (omega (arith, c.len.ensures.list, c.len-more.ensures.list, c.if-len-eq0.false)))
    (has_written_styled_append _ _ _ _ _ _ (has_written_styled_append _ _ _ _ _ _ (has_written_styled_append _ _ _ _ _ _ (has_written_styled_append _ _ _ _ _ _ start first) middle) rest) end)
