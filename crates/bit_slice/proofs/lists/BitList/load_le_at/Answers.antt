use Rattle.std.proofs.Common.{◌+◌, slice_range, ◌∙◌, ap, arith}
use Rattle.bit_addressing.specs.Row.{number_bits, number_of}
use Rattle.bit_addressing.proofs.lists.Shown.{length-run}
use Rattle.bit_slice.proofs.Parts.{shown_at}
use Rattle.bit_slice.proofs.Writing.{bits_of_number, number_below}
use Rattle.bit_slice.proofs.lists.BitList.load_le_at.Goals as goal

pub returns-clause-value : goal.returns-clause-value
returns-clause-value g c =
    let e = c.as_bitslice-view.ensures in
    c.read_chunk.ensures
    ∙ ap number_of (shown_at c.as_bitslice-view.result c.args.at c.args.n (omega (arith, e.len, c.requires.within)) ∙ ap (λ l. slice_range l c.args.at (c.args.at + c.args.n)) e.list)

pub returns-clause-bits : goal.returns-clause-bits
returns-clause-bits g c =
    let e = c.as_bitslice-view.ensures in
    let list = g.Self.BitList.list c.args.self.now in
    ap (λ x. number_bits x c.args.n) (returns-clause-value g c)
    ∙ bits_of_number (slice_range list c.args.at (c.args.at + c.args.n)) c.args.n (length-run list c.args.at c.args.n (omega (arith, e.size, c.requires.within)))

pub returns-clause-below : goal.returns-clause-below
returns-clause-below g c =
    let e = c.as_bitslice-view.ensures in
    let list = g.Self.BitList.list c.args.self.now in
    let below = number_below (slice_range list c.args.at (c.args.at + c.args.n)) c.args.n (length-run list c.args.at c.args.n (omega (arith, e.size, c.requires.within))) in
    omega (arith, below, returns-clause-value g c)
