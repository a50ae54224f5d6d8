use Rattle.std.proofs.Common.{◌≡◌, ◌+◌, ◌-◌, ◌*◌, ◌≤◌, ◌++◌, length, take, vec_capacity}
use Rattle.std.specs.List.{flat_map}
use Rattle.bit_portable.specs.Stored.{eight}
use Rattle.bit_portable.proofs.writing.with_words.Given as goal

abbrev pub invariant-loop-word : goal.invariant-loop-word
invariant-loop-word l = record {
  so_far : l.out.items ≡ l.fn.bytes.items ++ flat_map eight (take l.word-index l.words);
  room : length l.out.items + 8 * (length l.words - l.word-index) ≤ vec_capacity l.out;
}

abbrev pub invariant-loop-byte : goal.invariant-loop-byte
invariant-loop-byte l = record {
  so_far : l.out.items ≡ l.initial.out.items ++ take l.byte-index l.byte-items;
  room : length l.initial.out.items + 8 ≤ vec_capacity l.out;
  stays : vec_capacity l.out ≡ vec_capacity l.initial.out;
}
