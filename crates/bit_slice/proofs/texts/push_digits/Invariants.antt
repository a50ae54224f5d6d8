use Rattle.std.proofs.Common.{◌≡◌, map, take}
use Rattle.std.specs.Str.{IsAscii}
use Rattle.bit_addressing.specs.Row.{number_bits}
use Rattle.bit_addressing.specs.Text.{digit_of}
use Rattle.bit_slice.proofs.texts.push_digits.Given as goal

abbrev pub invariant-loop-k : goal.invariant-loop-k
invariant-loop-k g l = record {
  text : take l.k l.piece ≡ map digit_of (number_bits l.chunk l.k);
  ascii : IsAscii (take l.k l.piece);
}
