use Rattle.std.proofs.Common.{◌≡◌, ◌≤◌, length}
use Rattle.bit_addressing.specs.Row.{sized, words_for}
use Rattle.bit_addressing.specs.Typed.{row}
use Rattle.bit_addressing.specs.declared.length.TheConstants.{MAX_BITS}
use Rattle.bit_boxed.proofs.boxed.BitBox.from_bits.Given as goal

abbrev pub invariant-loop-bit : goal.invariant-loop-bit
invariant-loop-bit g l = record {
  can : (goal.iterator-loop-bit g).can_next l.bit-iterator;
  finite : (goal.iterator-loop-bit g).is_finite l.bit-iterator;
  count : length l.words.items ≡ words_for g.T.BitStore.BITS l.len;
  row : row g.T.BitStore g.O.BitOrder l.words.items ≡ sized g.T.BitStore.BITS l.yielded l.len;
  size : length l.yielded ≡ l.len;
  few : l.len ≤ MAX_BITS;
}
