use Rattle.std.proofs.Common.{◌≡◌, false, get_or, slice_range, ◌∙◌, ap, arith}
use Rattle.bit_slice.specs.BitSlice.{len_of}
use Rattle.bit_matrix.proofs.Grids.{get_or-first_bits}
use Rattle.bit_matrix.proofs.matrix.Matrix.write_part.Goals as goal

pub returns-clause-part : goal.returns-clause-part
returns-clause-part c j below =
    let many : len_of c.get_range.result ≡ c.args.count = (let n = c.get_range.ensures.len in omega arith) in
    c.write_bits.ensures.part j (omega arith)
    ∙ ap (λ l. get_or l j false) (c.get_range.ensures.list ∙ ap (λ l. slice_range l 0 c.args.count) c.from_slice.ensures.list) ∙ get_or-first_bits c.args.number c.args.count j below c.requires.few
