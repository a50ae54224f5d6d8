use Rattle.std.proofs.Common.{◌≡◌, ◌-◌, ◌*◌, replicate, length}
use Rattle.bit_addressing.specs.Row.{put}
use Rattle.bit_addressing.specs.Typed.{row}
use Rattle.bit_rows.proofs.single.fill_bits.Given as goal

abbrev pub invariant-loop-k : goal.invariant-loop-k
invariant-loop-k g l = record {
  bits : row g.T.BitStore g.O.BitOrder l.words ≡ put (row g.T.BitStore g.O.BitOrder l.fn.words) l.from (replicate (l.k * g.T.BitStore.BITS - l.from) l.bit);
  size : length l.words ≡ length l.fn.words;
}
