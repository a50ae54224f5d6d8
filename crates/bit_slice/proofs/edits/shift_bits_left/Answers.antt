use Rattle.std.proofs.Common.{◌+◌, ◌-◌, false, replicate, ◌∙◌, ap}
use Rattle.bit_addressing.specs.Row.{put}
use Rattle.bit_addressing.specs.Typed.{row}
use Rattle.bit_slice.proofs.Parts.{in_row}
use Rattle.bit_slice.proofs.Turned.{shifted_left}
use Rattle.bit_slice.proofs.edits.shift_bits_left.Goals as goal

pub returns-clause-bits : goal.returns-clause-bits
returns-clause-bits g c =
    let head = c.args.head in
    let len = c.args.len in
    let by = c.args.by in
    c.fill_bits.ensures.bits ∙ ap (λ l. put l (head + (len - by)) (replicate (head + len - (head + (len - by))) false)) c.move_bits.ensures.bits
    ∙ shifted_left (row g.T.BitStore g.O.BitOrder c.args.words.now) head len by c.requires.inside (in_row g.T.BitStore g.O.BitOrder c.args.words.now (head + len) c.requires.within)
