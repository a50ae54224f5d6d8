use Rattle.std.specs.Prelude.{◌≡◌, length}
use Rattle.bit_slice.specs.Places.{ones_of}
use Rattle.bit_blocks.proofs.Bits.{AreChanged}
use Rattle.bit_blocks.proofs.mapped.change_list.Given as goal

abbrev pub invariant-loop-number : goal.invariant-loop-number
invariant-loop-number l = record {
  changed : AreChanged l.operation l.initial.bits.list l.bits.list l.numbers l.number-index;
  count : l.count ≡ length (ones_of l.bits.list);
}
