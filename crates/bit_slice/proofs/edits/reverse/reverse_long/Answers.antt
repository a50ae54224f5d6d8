use Rattle.std.proofs.Common.{◌≡◌, ◌+◌, ◌*◌, ◌/◌, ◌%◌, ◌++◌, length, ◌∙◌, ap, arith}
use Rattle.bit_addressing.specs.Row.{words_for}
use Rattle.bit_addressing.specs.Typed.{row}
use Rattle.bit_addressing.proofs.Rows.{width_positive}
use Rattle.bit_addressing.proofs.lists.Sized.{room}
use Rattle.bit_slice.proofs.Halves.{cut, row_halves}
use Rattle.bit_slice.proofs.Parts.{part_room, in_row}
use Rattle.bit_slice.proofs.Reversing.{reversed_within}
use Rattle.bit_slice.proofs.edits.reverse.reverse_long.Goals as goal

pub split_at_mut-rest-requires : goal.split_at_mut-rest-requires
split_at_mut-rest-requires g c =
    let w = g.T.BitStore.BITS in
    let there = part_room w (length c.args.words.now) c.args.head c.args.len (width_positive w g.met.T.BitStore.width) c.requires.within in
    let first : c.args.head / c.BITS-width.result ≡ c.args.head / w = ap (λ n. c.args.head / n) c.BITS-width.ensures in
    omega (arith, there, first)

pub split_at_mut-run-requires : goal.split_at_mut-run-requires
split_at_mut-run-requires g c =
    let w = g.T.BitStore.BITS in
    let there = part_room w (length c.args.words.now) c.args.head c.args.len (width_positive w g.met.T.BitStore.width) c.requires.within in
    let count : c.elts-count.result ≡ words_for w (c.args.head % w + c.args.len) = c.elts-count.ensures.value ∙ ap (λ n. words_for w (c.args.head % n + c.args.len)) c.BITS-width.ensures in
    let first : c.args.head / c.BITS-width.result ≡ c.args.head / w = ap (λ n. c.args.head / n) c.BITS-width.ensures in
    omega (arith, there, count, first, c.split_at_mut-rest.ensures.front_len, c.split_at_mut-rest.ensures.back_len)

pub reverse_touched-requires-clause-within : goal.reverse_touched-requires-clause-within
reverse_touched-requires-clause-within g c =
    let fits : g.T.BitStore.BITS * length c.split_at_mut-run.result.0.now ≡ g.T.BitStore.BITS * c.elts-count.result = ap (λ n. g.T.BitStore.BITS * n) c.split_at_mut-run.ensures.front_len in
    omega (arith, fits, c.elts-count.ensures.room)

pub reverse_touched-requires-clause-ends : goal.reverse_touched-requires-clause-ends
reverse_touched-requires-clause-ends g c =
    let w = g.T.BitStore.BITS in
    let few = (room w (c.args.head % c.BITS-width.result + c.args.len) (width_positive w g.met.T.BitStore.width)).1 in
    let count : w * length c.split_at_mut-run.result.0.now ≡ w * words_for w (c.args.head % c.BITS-width.result + c.args.len) = ap (λ n. w * n) (c.split_at_mut-run.ensures.front_len ∙ c.elts-count.ensures.value) in
    omega (arith, few, count)

pub returns-clause-bits : goal.returns-clause-bits
returns-clause-bits g c =
    let W = g.T.BitStore in
    let P = g.O.BitOrder in
    let positive = width_positive W.BITS g.met.T.BitStore.width in
    let words = c.args.words.now in
    let front = c.split_at_mut-rest.result.0.now in
    let rest = c.split_at_mut-rest.result.1.now in
    let run = c.split_at_mut-run.result.0.now in
    let after = c.split_at_mut-run.result.1.now in
    let whole = cut W P positive words front rest c.args.head _ c.BITS-width.ensures c.split_at_mut-rest.ensures.value c.split_at_mut-rest.ensures.front_len in
    let parts = whole.halves ∙ ap (λ l. row W P front ++ row W P l) c.split_at_mut-run.ensures.value ∙ ap (λ l. row W P front ++ l) (row_halves W P positive run after) in
    let size : length c.split_at_mut-run.result.0.now ≡ c.elts-count.result = c.split_at_mut-run.ensures.front_len in
    let fits : W.BITS * length run ≡ W.BITS * c.elts-count.result = ap (λ n. W.BITS * n) size in
    row_halves W P positive front _ ∙ ap (λ l. row W P front ++ l) (row_halves W P positive c.reverse_touched.new.words after)
    ∙ reversed_within (row W P words) (row W P front) (row W P run) (row W P after) (row W P c.reverse_touched.new.words) c.args.head _ c.args.len parts whole.begins
    (in_row W P run _ (omega (arith, fits, c.elts-count.ensures.room))) c.reverse_touched.ensures.bits
