use Rattle.std.proofs.Common.{◌*◌, ◌∷◌}
use Rattle.std.specs.Fmt.{HasWrittenStyled, IsFlush}
use Rattle.bit_addressing.specs.Row.{words_for}
use Rattle.bit_slice.specs.BitSlice.{list_of}
use Rattle.bit_slice.specs.Texts.{digits_from}
use Rattle.bit_slice.proofs.texts.write_digits.Given as goal

abbrev pub invariant-loop-t : goal.invariant-loop-t
invariant-loop-t g l = IsFlush l.fn.f → HasWrittenStyled g.W.Write.write_str_gives l.fn.f (91 ∷ digits_from l.size l.upper (l.t * 4 * words_for l.size 60) (list_of l.view)) l.f

abbrev pub invariant-loop-t-2 : goal.invariant-loop-t-2
invariant-loop-t-2 g l = IsFlush l.fn.f → HasWrittenStyled g.W.Write.write_str_gives l.fn.f (91 ∷ digits_from l.size l.upper (l.t * words_for l.size 60) (list_of l.view)) l.f
