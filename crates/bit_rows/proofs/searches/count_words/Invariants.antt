use Rattle.std.proofs.Common.{◌≡◌, ◌+◌, ◌*◌, slice_range}
use Rattle.std.specs.List.{count_by}
use Rattle.bit_addressing.specs.Typed.{row}
use Rattle.bit_rows.proofs.searches.count_words.Given as goal

abbrev pub invariant-loop-t : goal.invariant-loop-t
invariant-loop-t g l = record { counted : l.count ≡ count_by (λ b. b) (slice_range (row g.T.BitStore g.O.BitOrder l.words) (l.first * g.T.BitStore.BITS) (l.first * g.T.BitStore.BITS + l.t * 64)) }

abbrev pub invariant-loop-k : goal.invariant-loop-k
invariant-loop-k g l = record { counted : l.count ≡ count_by (λ b. b) (slice_range (row g.T.BitStore g.O.BitOrder l.words) (l.first * g.T.BitStore.BITS) (l.k * g.T.BitStore.BITS)) }
