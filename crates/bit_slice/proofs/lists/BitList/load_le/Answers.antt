use Rattle.std.proofs.Common.{◌∙◌, ap}
use Rattle.bit_addressing.specs.Row.{number_bits}
use Rattle.bit_slice.specs.BitSlice.{list_of}
use Rattle.bit_slice.proofs.Parts.{view_length}
use Rattle.bit_slice.proofs.Writing.{bits_of_number}
use Rattle.bit_slice.proofs.lists.BitList.load_le.Goals as goal

pub returns-clause-bits : goal.returns-clause-bits
returns-clause-bits g c =
    rw (← c.as_bitslice-view.ensures.list, ← c.as_bitslice-view.ensures.len) (
    let v = c.as_bitslice-view.result in
    ap (λ x. number_bits x v.len) c.read_chunk.ensures ∙ bits_of_number (list_of v) v.len (view_length v))
