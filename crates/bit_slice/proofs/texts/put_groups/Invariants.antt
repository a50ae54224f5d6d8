use Rattle.std.proofs.Common.{◌≡◌, ◌+◌, ◌++◌, take, slice_range}
use Rattle.std.specs.Str.{IsAscii}
use Rattle.bit_slice.specs.BitSlice.{list_of}
use Rattle.bit_slice.specs.Texts.{digits_from}
use Rattle.bit_slice.proofs.texts.put_groups.Given as goal

abbrev pub invariant-loop-i : goal.invariant-loop-i
invariant-loop-i g l = record {
  text : take (l.at + l.i) l.piece ≡ take l.at l.initial.piece ++ digits_from l.size l.upper l.i (slice_range (list_of l.view) l.from (l.from + l.n));
  ascii : IsAscii (take l.at l.initial.piece) → IsAscii (take (l.at + l.i) l.piece);
}
