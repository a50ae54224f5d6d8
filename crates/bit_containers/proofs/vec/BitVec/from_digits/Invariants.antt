use Rattle.std.proofs.Common.{◌≡◌, ◌-◌, ◌≤◌, drop, length}
use Rattle.bit_containers.specs.BitVec.{IsClean}
use Rattle.bit_containers.specs.DigitTexts.{digits_of_text, digits_said}
use Rattle.bit_containers.proofs.DigitTexts.{read_on}
use Rattle.bit_containers.proofs.vec.BitVec.from_digits.Given as goal

abbrev pub invariant-loop-at : goal.invariant-loop-at
invariant-loop-at g l = record {
  begins : l.first ≤ l.at;
  said : digits_said l.size l.len (digits_of_text l.bytes) ≡ read_on l.v.list (l.at - l.first) (digits_said l.size (l.len - length l.v.list) (drop (l.at - l.first) (digits_of_text l.bytes)));
  few : length l.v.list ≤ l.len;
  head : l.v.head ≡ 0;
  clean : IsClean g.T.BitStore.BITS l.v;
}
