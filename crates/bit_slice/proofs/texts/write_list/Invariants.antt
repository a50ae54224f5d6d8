use Rattle.std.proofs.Common.{◌+◌, ◌*◌, slice_range}
use Rattle.std.specs.Fmt.{HasWrittenStyled, IsFlush}
use Rattle.bit_slice.specs.BitSlice.{list_of}
use Rattle.bit_slice.specs.Texts.{spaced}
use Rattle.bit_slice.proofs.texts.write_list.Given as goal

abbrev pub invariant-loop-t : goal.invariant-loop-t
invariant-loop-t g l = IsFlush l.initial.f → HasWrittenStyled g.W.Write.write_str_gives l.initial.f (spaced (slice_range (list_of l.view) 1 (1 + l.t * 64))) l.f
