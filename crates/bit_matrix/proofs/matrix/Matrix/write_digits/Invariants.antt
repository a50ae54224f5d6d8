use Rattle.std.proofs.Common.{◌+◌, ◌*◌, map, slice_range}
use Rattle.std.specs.Fmt.{HasWrittenStyled, IsFlush}
use Rattle.bit_addressing.specs.Text.{digit_of}
use Rattle.bit_matrix.proofs.matrix.Matrix.write_digits.Given as goal

abbrev pub invariant-loop-column : goal.invariant-loop-column
invariant-loop-column g l = IsFlush l.initial.f → HasWrittenStyled g.W.Write.write_str_gives l.initial.f (map digit_of (slice_range l.self.bits (l.row * l.self.columns) (l.row * l.self.columns + l.column))) l.f
