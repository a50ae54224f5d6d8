use Rattle.std.proofs.Common.{◌-◌, [], ◌∷◌, ◌++◌, length, length-append, map, sym, ◌∙◌, ap, arith}
use Rattle.std.specs.List.{range_with_len}
use Rattle.bit_slice.proofs.Pieces.{part_last}
use Rattle.bit_matrix.specs.Matrix.{row_bits}
use Rattle.bit_matrix.proofs.matrix.iter.RowsDoubleEndedIterator.next_back.Goals as goal

pub returns-clause-steps : goal.returns-clause-steps
returns-clause-steps c =
    let s = c.args.self.now in
    part_last (row_bits s.matrix.now) s.from s.upto (omega (arith, s.fits.0))
    ∙ ap (λ l. map (row_bits s.matrix.now) (range_with_len s.from (s.upto - 1 - s.from)) ++ l ∷ []) (sym c.at-row.ensures)

pub returns-clause-goes : goal.returns-clause-goes
returns-clause-goes c =
    let s = c.args.self.now in
    let before = map (row_bits s.matrix.now) (range_with_len s.from (s.upto - 1 - s.from)) in
    let size = ap length (part_last (row_bits s.matrix.now) s.from s.upto (omega (arith, s.fits.0))) ∙ length-append before (row_bits s.matrix.now (s.upto - 1) ∷ []) in
    record { on = λ _. (tt, tt, omega (arith, size)); keeps = tt; rests = λ _. tt }
