use Rattle.std.proofs.lemmas.Option.{get_or_from_slice_get}
use Rattle.bit_blocks.proofs.Edits.{has_removed}
use Rattle.bit_blocks.proofs.listed.remove.Goals as goal

pub returns-in-Ok-clause-loses : goal.returns-in-Ok-clause-loses
returns-in-Ok-clause-loses c =
    let numbers = c.args.numbers.now.items in
    let place = c.in-Ok.place in
    let at = rw c.deref.ensures.value at c.in-Ok.ensures.place in
    let inside = rw c.deref.ensures.value at c.in-Ok.ensures.inside in
    λ k. rw c.remove.ensures.items (has_removed 0 65536 numbers place c.args.number k c.requires inside (get_or_from_slice_get numbers place c.args.number 0 at))
