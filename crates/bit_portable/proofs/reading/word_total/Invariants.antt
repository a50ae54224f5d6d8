use Rattle.std.proofs.Common.{◌≡◌, ◌+◌, ◌*◌, ◌≤◌, drop}
use Rattle.bit_portable.specs.Stored.{word_total}
use Rattle.bit_portable.proofs.reading.word_total.Given as goal

abbrev pub invariant-loop-word : goal.invariant-loop-word
invariant-loop-word l = record {
  so_far : l.total + word_total (drop l.word-index l.words) ≡ word_total l.words;
  bound : l.total ≤ 64 * l.word-index;
}
