use Rattle.std.proofs.Common.{◌≡◌, ◌+◌, ◌∙◌, ap, rules}
use Rattle.bit_blocks.specs.Numbers.{count_below}
use Rattle.bit_blocks.proofs.Ranges.{range_ascends, range_put, range_size, with_range, with_range_made}
use Rattle.bit_blocks.proofs.listed.insert_range.Goals as goal

pub returns : goal.returns
returns c =
    let xs = c.args.numbers.now.items in
    let first = c.args.first in
    let last = c.args.last in
    let ys = c.extend_from_slice-2.new.self.items in
    let front = rw (c.in_ok-made.ensures.items, c.deref-3.ensures.value) at c.in_ok-extend_from_slice.ensures.items in
    let back = rw c.deref-4.ensures.value at c.in_ok-extend_from_slice-2.ensures.items in
    let is : ys ≡ with_range xs first last =
    with_range_made xs c.extend_from_slice.new.self.items c.push_range.new.made.items ys first last c.place_of-from.result c.place_after-upto.result
    (c.place_of-from.ensures.value ∙ ap (λ l. count_below l first) c.deref.ensures.value) (c.place_after-upto.ensures.value ∙ ap (λ l. count_below l (last + 1)) c.deref-2.ensures.value)
    front c.in_ok-push_range.ensures back in
    record {
      gains = range_put xs ys first last c.requires.ascends c.requires.ordered c.ranges.last.fits is;
      ascends = range_ascends xs ys first last c.requires.ascends c.requires.ordered c.ranges.last.fits is;
      few = range_size xs ys first last c.requires.ordered is;
      refused = search rules;
    }
