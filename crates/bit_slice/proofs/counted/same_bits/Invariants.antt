use Rattle.std.proofs.Common.{◌≡◌, ◌+◌, ◌-◌, ◌≤◌, slice_range}
use Rattle.bit_addressing.specs.Typed.{row}
use Rattle.bit_slice.proofs.Counting.{begin}
use Rattle.bit_slice.proofs.counted.same_bits.Given as goal

abbrev pub invariant-loop-k : goal.invariant-loop-k
invariant-loop-k g l = record {
  same : slice_range (row g.T.BitStore g.O.BitOrder l.initial.left.words.now) l.head (begin g.T.BitStore.BITS l.head l.end l.k)
      ≡ slice_range (row g.T.BitStore g.O.BitOrder l.initial.right.words.now) l.begin (l.begin + (begin g.T.BitStore.BITS l.head l.end l.k - l.head));
  left_words : l.left.words ≡ l.initial.left.words;
  right_words : l.right.words ≡ l.initial.right.words;
  left_least : l.initial.left.meter.reads ≤ l.left.meter.reads;
  right_least : l.initial.right.meter.reads ≤ l.right.meter.reads;
  left_most : l.left.meter.reads ≤ l.initial.left.meter.reads + l.k;
  right_most : l.begin ≡ l.head → l.right.meter.reads ≤ l.initial.right.meter.reads + l.k;
}
