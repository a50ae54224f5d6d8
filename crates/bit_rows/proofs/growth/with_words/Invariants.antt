use Rattle.std.proofs.Common.{◌≡◌, ◌++◌, replicate, vec_capacity}
use Rattle.bit_rows.proofs.growth.with_words.Given as goal

abbrev pub invariant-loop : goal.invariant-loop
invariant-loop g l = record {
  items : l.words.items ≡ l.fn.words.items ++ replicate l.counter l.word;
  capacity : vec_capacity l.words ≡ vec_capacity l.fn.words;
}
