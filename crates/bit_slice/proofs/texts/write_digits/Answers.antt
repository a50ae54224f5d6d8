use Rattle.std.proofs.Common.{◌≡◌, ◌+◌, ◌*◌, ◌/◌, [], ◌∷◌, ◌++◌, slice_range, refl, sym, ◌∙◌, ap, arith}
use Rattle.std.proofs.Output.{has_written_styled_append, has_written_styled_of_eq}
use Rattle.bit_addressing.specs.Row.{words_for}
use Rattle.bit_slice.specs.BitSlice.{list_of}
use Rattle.bit_slice.specs.Texts.{digits_from}
use Rattle.bit_slice.proofs.Digits.{block_joined, blocks_joined, rest_joined}
use Rattle.bit_slice.proofs.texts.write_digits.Goals as goal

pub loop-t-init : goal.loop-t-init
loop-t-init g c flush =
    let none : 0 ≡ 0 * 4 * words_for c.args.size 60 = omega arith in
    has_written_styled_of_eq _ _ _ _ _ (ap (λ n. 91 ∷ digits_from c.args.size c.args.upper n (list_of c.args.view)) none) (c.in_ok-write_str.ensures.styled flush refl)

pub loop-t-preserved : goal.loop-t-preserved
loop-t-preserved g c flush =
    let s = c.args.size in
    let u = c.args.upper in
    let t = c.loop-t.t in
    let list = list_of c.args.view in
    let so_far = c.loop-t.invariant flush in
    let more = c.in_ok-write_many.ensures so_far.flush refl in
    let begins : t * 4 * 60 ≡ t * 240 = omega arith in
    let next : t * 4 + 4 ≡ (t + 1) * 4 = omega arith in
    has_written_styled_of_eq _ _ _ _ _
    (ap (λ l. 91 ∷ l)
    (ap (λ n. digits_from s u (t * 4 * words_for s 60) list ++ digits_from s u (4 * words_for s 60) (slice_range list n (t * 240 + 240))) (sym begins)
    ∙ blocks_joined s u c.requires list (t * 4) 4 (t * 240 + 240) (omega arith) ∙ ap (λ n. digits_from s u (n * words_for s 60) list) next))
    (has_written_styled_append _ _ _ _ _ _ so_far more)

pub loop-t-2-init : goal.loop-t-2-init
loop-t-2-init g c flush =
    let all : c.loop-t.t ≡ c.len-len.result / 240 = omega (arith, c.loop-t-test.false, c.loop-t.auto.t-end) in
    has_written_styled_of_eq _ _ _ _ _ (ap (λ n. 91 ∷ digits_from c.args.size c.args.upper (n * 4 * words_for c.args.size 60) (list_of c.args.view)) all) (c.loop-t.invariant flush)

pub loop-t-2-preserved : goal.loop-t-2-preserved
loop-t-2-preserved g c flush =
    let list = list_of c.args.view in
    let so_far = c.loop-t-2.invariant flush in
    let more = c.in_ok-write_sixty.ensures so_far.flush refl in
    has_written_styled_of_eq _ _ _ _ _ (ap (λ l. 91 ∷ l) (block_joined c.args.size c.args.upper c.requires list c.loop-t-2.t _ refl)) (has_written_styled_append _ _ _ _ _ _ so_far more)

pub returns : goal.returns
returns g c flush ok =
    let list = list_of c.args.view in
    let front = c.loop-t-2.invariant flush in
    let rest = c.in_ok-write_groups.ensures front.flush refl in
    let end = c.write_str-2.ensures.styled rest.flush ok in
    has_written_styled_of_eq _ _ _ _ _
    (ap (λ l. 91 ∷ l ++ 93 ∷ []) (rest_joined c.args.size c.args.upper c.requires list c.loop-t-2.t _ _ _ (omega (arith, c.loop-t-2-test.false, c.loop-t-2.auto.t-end)) refl (omega (arith, c.len-len.ensures.list))))
    (has_written_styled_append _ _ _ _ _ _ (has_written_styled_append _ _ _ _ _ _ front rest) end)
