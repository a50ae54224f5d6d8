use Rattle.std.proofs.Common.{◌≡◌, ◌+◌, ◌-◌, ◌*◌, ◌/◌, ◌%◌, ◌≤◌, length, slice_range, ◌∙◌, ap, arith}
use Rattle.bit_addressing.specs.Row.{words_for}
use Rattle.bit_addressing.proofs.Rows.{width_positive}
use Rattle.bit_addressing.proofs.lists.Sized.{room}
use Rattle.bit_slice.specs.BitSlice.{words_of, head_of, len_of}
use Rattle.bit_slice.proofs.Parts.{part_room}
use Rattle.bit_boxed.proofs.Boxes.{front_part}
use Rattle.bit_boxed.proofs.boxed.BitBox.get_range.Goals as goal

pub returns-clause-words : goal.returns-clause-words
returns-clause-words g c =
    let w = g.T.BitStore.BITS in
    let now = c.args.self.now in
    let view = c.as_bitslice.result in
    let part = c.get_range.result in
    let start = g.R.RangeExt.start_of c.args.range in
    let end = g.R.RangeExt.end_of c.args.range (length now.list) in
    let first = (now.head + start) / w in
    let count = words_for w (head_of part + len_of part) in
    let all = words_for w (now.head + length now.list) in
    let positive = width_positive w g.met.T.BitStore.width in
    let head : head_of part ≡ (now.head + start) % w = c.get_range.ensures.head ∙ ap (λ h. (h + start) % w) c.as_bitslice.ensures.head in
    let len : len_of part ≡ end - start = c.get_range.ensures.len ∙ ap (λ n. g.R.RangeExt.end_of c.args.range n - start) c.as_bitslice.ensures.len in
    let inside : now.head + start + (end - start) ≤ w * all = omega (arith, (room w (now.head + length now.list) positive).0, c.requires.lies.0, c.requires.lies.1) in
    let bits : head_of part + len_of part ≡ (now.head + start) % w + (end - start) = ap (λ h. h + len_of part) head ∙ ap (λ n. (now.head + start) % w + n) len in
    let enough : first + count ≤ all = omega (arith, part_room w all (now.head + start) (end - start) positive inside, ap (words_for w) bits) in
    c.get_range.ensures.words
    ∙ ap (λ h. slice_range (words_of view) ((h + start) / w) ((h + start) / w + count)) c.as_bitslice.ensures.head
    ∙ ap (λ ws. slice_range ws first (first + count)) c.as_bitslice.ensures.words
    ∙ front_part now.words all first count enough
