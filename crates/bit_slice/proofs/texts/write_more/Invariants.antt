use Rattle.std.proofs.Common.{◌≡◌, ◌*◌, take}
use Rattle.std.specs.Str.{IsAscii}
use Rattle.bit_addressing.specs.Row.{number_bits}
use Rattle.bit_slice.specs.Texts.{spaced}
use Rattle.bit_slice.proofs.texts.write_more.Given as goal

abbrev pub invariant-loop-k : goal.invariant-loop-k
invariant-loop-k g l = record {
  text : take (l.k * 3) l.piece ≡ spaced (number_bits l.chunk l.k);
  ascii : IsAscii (take (l.k * 3) l.piece);
}
