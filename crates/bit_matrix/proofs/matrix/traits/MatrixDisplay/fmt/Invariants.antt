use Rattle.std.specs.Fmt.{HasWrittenStyled, IsFlush}
use Rattle.bit_matrix.specs.Matrix.{rows_text}
use Rattle.bit_matrix.proofs.matrix.traits.MatrixDisplay.fmt.Given as goal

abbrev pub invariant-loop-row : goal.invariant-loop-row
invariant-loop-row g l = IsFlush l.initial.f → HasWrittenStyled g.W.Write.write_str_gives l.initial.f (rows_text l.self l.row) l.f
