use Rattle.std.proofs.Common.{◌≡◌, ◌+◌, ◌*◌, take, slice_range}
use Rattle.std.specs.Str.{IsAscii}
use Rattle.bit_addressing.specs.Row.{words_for}
use Rattle.bit_slice.specs.BitSlice.{list_of}
use Rattle.bit_slice.specs.Texts.{digits_from}
use Rattle.bit_slice.proofs.texts.write_blocks.Given as goal

abbrev pub invariant-loop-k : goal.invariant-loop-k
invariant-loop-k g l = record {
  text : take (l.k * words_for l.size 60) l.piece ≡ digits_from l.size l.upper (l.k * words_for l.size 60) (slice_range (list_of l.view) l.from (l.from + 240));
  ascii : IsAscii (take (l.k * words_for l.size 60) l.piece);
}
