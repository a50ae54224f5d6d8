use Rattle.std.proofs.Common.{◌≡◌, ◌≢◌, ℕ, ◌-◌, ◌<◌, ◌≤◌, IfNone, IfSome}
use Rattle.bit_slice.specs.BitSlice.{len_of, list_of}
use Rattle.bit_slice.specs.Pieces.{part}
use Rattle.bit_slice.proofs.slice.BitSlice.find_last_between.Given as goal

abbrev pub invariant-loop-at : goal.invariant-loop-at
invariant-loop-at g l = record {
  begins : l.from ≤ l.at;
  ends : l.at ≤ l.upto;
  first : IfSome l.last (λ i. l.from ≤ i);
  below : IfSome l.last (λ i. i < l.at);
  found : IfSome l.last (λ i. part (len_of l.other) (list_of l.self) i ≡ list_of l.other);
  after : IfSome l.last (λ i. (j : ℕ) → i < j → j < l.at → part (len_of l.other) (list_of l.self) j ≢ list_of l.other);
  none : IfNone l.last ((j : ℕ) → l.from ≤ j → j < l.at → part (len_of l.other) (list_of l.self) j ≢ list_of l.other);
}

-- proposed from the loop's first test
abbrev pub decreases-loop-at : goal.decreases-loop-at
decreases-loop-at g l = l.upto - l.at
