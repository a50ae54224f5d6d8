use Rattle.std.proofs.Common.{◌≡◌, ◌-◌, ◌≤◌, map, take}
use Rattle.std.specs.String.{string_bytes}
use Rattle.bit_addressing.specs.Text.{digit_of}
use Rattle.bit_slice.specs.BitSlice.{len_of, list_of}
use Rattle.bit_slice.proofs.texts.digits_of.Given as goal

abbrev pub invariant-loop-at : goal.invariant-loop-at
invariant-loop-at g l = record {
  ends : l.at ≤ len_of l.view;
  text : string_bytes l.text ≡ map digit_of (take l.at (list_of l.view));
}

abbrev pub decreases-loop-at : goal.decreases-loop-at
decreases-loop-at g l = len_of l.view - l.at
