use Rattle.std.proofs.Common.{◌&&◌, ◌||◌, not, length, slice_range, sym, ◌∙◌, ap, arith}
use Rattle.std.specs.List.{list_any}
use Rattle.std.proofs.Math.Bool.{or-false}
use Rattle.bit_slice.specs.BitSlice.{list_of}
use Rattle.bit_slice.proofs.Parts.{view_length}
use Rattle.bit_slice.proofs.Ranges.{and_not_keeps}
use Rattle.bit_slice.proofs.Sets.{any_kept}
use Rattle.bit_slice.proofs.Shown.{run_none}
use Rattle.bit_slice.proofs.slice.BitSlice.exceeds.Goals as goal

pub returns-then-both-self : goal.returns-then-both-self
returns-then-both-self g c =
    let v = c.args.self in
    let u = c.args.other in
    let xs = list_of v in
    let ys = list_of u in
    let left = view_length v in
    let n = c.min-both.result in
    let kept = any_kept (λ x y. x && not y) xs ys n and_not_keeps (omega (arith, left, (view_length u))) in
    sym (or-false c.any_pair-some.result) ∙ sym (ap (λ l. c.any_pair-some.result || list_any (λ b. b) l) (run_none xs n (length xs) (omega (arith, left))))
    ∙ ap (λ b. b || list_any (λ b. b) (slice_range xs n (length xs))) c.any_pair-some.ensures ∙ kept

pub returns-then-some : goal.returns-then-some
returns-then-some g c =
    let v = c.args.self in
    let u = c.args.other in
    let xs = list_of v in
    let ys = list_of u in
    let n = c.min-both.result in
    let kept = any_kept (λ x y. x && not y) xs ys n and_not_keeps (omega (arith, (view_length v), (view_length u))) in
    c.if-some.true ∙ sym (sym kept ∙ ap (λ b. b || list_any (λ b. b) (slice_range xs n (length xs))) (sym c.any_pair-some.ensures ∙ c.if-some.true))

pub returns-else-some : goal.returns-else-some
returns-else-some g c =
    let v = c.args.self in
    let u = c.args.other in
    let xs = list_of v in
    let ys = list_of u in
    let left = view_length v in
    let n = c.min-both.result in
    let kept = any_kept (λ x y. x && not y) xs ys n and_not_keeps (omega (arith, left, (view_length u))) in
    c.any.ensures.value ∙ ap (list_any (λ b. b)) (c.get_range.ensures.list ∙ ap (slice_range xs n) (sym left))
    ∙ ap (λ b. b || list_any (λ b. b) (slice_range xs n (length xs))) (sym c.if-some.false ∙ c.any_pair-some.ensures) ∙ kept
