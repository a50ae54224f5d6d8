use Rattle.std.proofs.Common.{◌≡◌, ◌+◌, ◌-◌, ◌++◌, drop, length, slice_range, ◌∙◌, ap, arith}
use Rattle.std.proofs.lemmas.List.{length-map}
use Rattle.bit_addressing.specs.Row.{put}
use Rattle.bit_addressing.specs.Typed.{row}
use Rattle.bit_addressing.proofs.lists.Shown.{shows_fewer, length-run}
use Rattle.bit_slice.proofs.Parts.{in_row}
use Rattle.bit_slice.proofs.Turned.{kept_back, moved_front}
use Rattle.bit_slice.proofs.edits.rotate.rotate_few.Goals as goal

pub returns-clause-bits : goal.returns-clause-bits
returns-clause-bits g c =
    let xs = row g.T.BitStore g.O.BitOrder c.args.words.now in
    let head = c.args.head in
    let len = c.args.len in
    let by = c.args.by in
    let room = in_row g.T.BitStore g.O.BitOrder c.args.words.now (head + len) c.requires.within in
    let front = slice_range xs head (head + by) in
    let count : length front ≡ by = length-run xs head by (omega arith) in
    let back = ap (λ l. slice_range l 0 (0 + by)) c.copy_bits.ensures.bits ∙ kept_back g.O.BitOrder.place _ front 0 by count (omega (arith, length-map c.args.kept.now (λ x. x), c.requires.few)) in
    c.copy_bits-2.ensures.bits
    ∙ ap (put (row g.T.BitStore g.O.BitOrder c.move_bits.new.words) (head + (len - by))) back
    ∙ ap (λ l. put l (head + (len - by)) front) c.move_bits.ensures.bits
    ∙ moved_front xs head len by c.requires.inside room front count
    ∙ ap (λ l. put xs head (drop by (slice_range xs head (head + len)) ++ l)) (shows_fewer xs head by len c.requires.inside room)
