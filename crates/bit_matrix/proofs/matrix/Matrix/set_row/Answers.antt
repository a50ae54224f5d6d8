use Rattle.std.proofs.Common.{◌≡◌, ◌∙◌, sym, ap, inl, arith, length, ◌+◌}
use Rattle.bit_slice.specs.BitSlice.{list_of}
use Rattle.bit_slice.proofs.Parts.{view_length}
use Rattle.bit_matrix.specs.Matrix.{Grid, item}
use Rattle.bit_matrix.proofs.Filled.{row_kept, row_written}
use Rattle.bit_matrix.proofs.matrix.Matrix.set_row.Goals as goal

pub returns-clause-list : goal.returns-clause-list
returns-clause-list g c =
    let new : Grid = c.write_bits.new.self in
    let row = c.args.row in
    let done = c.write_bits.ensures in
    let tall = done.alike.0 in
    let inside = c.requires.row in
    let wide : length (list_of c.args.bits) ≡ new.columns = view_length c.args.bits ∙ c.requires.len ∙ sym done.alike.1 in
    let shown = view_length c.args.bits in
    row_written new row (list_of c.args.bits) (omega arith) done.size wide
    (λ j low. (let at : j ≡ 0 + j = omega arith in ap (item new row) at ∙ done.part j (omega arith)))

pub returns-clause-rows : goal.returns-clause-rows
returns-clause-rows g c i tall apart =
    let done = c.write_bits.ensures in
    row_kept c.args.self.now c.write_bits.new.self i tall done.alike.0 done.alike.1 done.old_size done.size (λ j short. done.others i j tall short (inl apart))
