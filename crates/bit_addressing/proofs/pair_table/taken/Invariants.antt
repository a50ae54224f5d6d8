use Rattle.std.proofs.Common.{◌≡◌, ℕ, Bool, ◌/◌, ◌&&◌, ltb}
use Rattle.bit_addressing.specs.Bits.{has_bit}
use Rattle.bit_addressing.specs.Table.{IsTaken}
use Rattle.bit_addressing.proofs.pair_table.taken.Given as goal

-- the groups of four places below `k` are taken
abbrev pub invariant-loop-k : goal.invariant-loop-k
invariant-loop-k l = (p q : ℕ) (b : Bool) → IsTaken l.entries p q b → has_bit l.made q ≡ (ltb (p / 4) l.k && (b && has_bit l.word p))
