use Rattle.std.proofs.Common.{◌≡◌, ◌+◌, ◌≤◌, count_by, slice_range}
use Rattle.bit_addressing.specs.Typed.{row}
use Rattle.bit_slice.proofs.Counting.{begin}
use Rattle.bit_slice.proofs.counted.ones_between.Given as goal

abbrev pub invariant-loop-k : goal.invariant-loop-k
invariant-loop-k g l = record {
  value : l.count ≡ count_by (λ b. b) (slice_range (row g.T.BitStore g.O.BitOrder l.initial.words.words.now) l.head (begin g.T.BitStore.BITS l.head l.end l.k));
  words : l.words.words ≡ l.initial.words.words;
  least : l.initial.words.meter.reads ≤ l.words.meter.reads;
  most : l.words.meter.reads ≤ l.initial.words.meter.reads + l.k;
}
