use Rattle.std.proofs.Common.{◌≡◌, ◌≤◌, ◌-◌, ℕ, List, Option, Some, None, Ok, length, suc}
use Rattle.std.specs.Borrow.{Bor}
use Rattle.std.specs.Prelude.{⊤, MatchOption}
use Rattle.bit_containers.specs.BitVec.{IsClean}
use Rattle.bit_containers.specs.TextParts.{parts_of}
use Rattle.bit_containers.specs.RangesRead.{ranges_read, ranges_set}
use Rattle.bit_containers.proofs.vec.BitVec.from_ranges_text.Given as goal

abbrev pub invariant-loop-rest : goal.invariant-loop-rest
invariant-loop-rest g l = record {
  head : l.v.head ≡ 0;
  clean : IsClean g.T.BitStore.BITS l.v;
  size : length l.v.list ≡ l.len;
  within : MatchOption l.rest ⊤ (λ left. length left.now ≤ length l.bytes);
  read : MatchOption l.rest (ranges_read l.len l.bytes ≡ Ok l.v.list)
      (λ left. ranges_read l.len l.bytes ≡ ranges_set l.len l.v.list (length l.bytes - length left.now) (parts_of 44 left.now));
}

-- the bytes that are left, and one more where a part is
abbrev left_bytes : Option (Bor (List ℕ)) → ℕ
left_bytes None = 0
left_bytes (Some left) = suc (length left.now)

abbrev pub decreases-loop-rest : goal.decreases-loop-rest
decreases-loop-rest g l = left_bytes l.rest
