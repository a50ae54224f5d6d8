use Rattle.std.proofs.Common.{◌≡◌, ℕ, ◌-◌, ◌^◌, ◌<◌, map, get_or, bit_and, refl, ap, ◌∙◌, arith}
use Rattle.std.proofs.lemmas.List.FromFn.{get_or-map-range_with_len}
use Rattle.std.proofs.lemmas.Nat.{and_mask}
use Rattle.std.specs.List.{range_with_len}
use Rattle.bit_streams.specs.declared.register.TheConstants.{ONES}
use Rattle.bit_streams.proofs.register.low_digits.Goals as goal

-- the number that k binary ones write
abbrev ones : ℕ → ℕ
ones k = 2 ^ k - 1

-- the table has them
table_is : ONES ≡ map ones (range_with_len 0 64)
table_is = refl

read : (k : ℕ) → k < 64 → get_or ONES k 0 ≡ ones k
read k h = ap (λ t. get_or t k 0) table_is ∙ get_or-map-range_with_len ones 0 64 k k 0 h (omega arith)

pub returns : goal.returns
returns c = ap (bit_and c.args.x) (read c.args.n c.requires) ∙ and_mask c.args.x c.args.n
