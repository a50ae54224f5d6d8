use Rattle.std.proofs.Common.{◌+◌, slice_range, sym, ◌∙◌, ap, arith}
use Rattle.bit_addressing.specs.Binary.{value}
use Rattle.bit_rows.proofs.Binary.{value_of_binary}
use Rattle.bit_slice.proofs.Parts.{shown_at}
use Rattle.bit_slice.proofs.lists.BitList.load_be_at.Goals as goal

pub returns-clause-digits : goal.returns-clause-digits
returns-clause-digits g c =
    let e = c.as_bitslice-view.ensures in
    c.read_binary.ensures.digits
    ∙ shown_at c.as_bitslice-view.result c.args.at c.args.n (omega (arith, e.len, c.requires.within))
    ∙ ap (λ l. slice_range l c.args.at (c.args.at + c.args.n)) e.list

pub returns-clause-value : goal.returns-clause-value
returns-clause-value g c = sym (ap value (sym (returns-clause-digits g c)) ∙ value_of_binary c.args.n _ c.read_binary.ensures.below)
