-- A count of which a part was added up.
use Rattle.std.proofs.Common.{◌≡◌, ℕ, ◌+◌}

-- what was added up and the rest are the whole
pub record SummedTo (count rest whole : ℕ) : Type 0 where
  pub sum : count + rest ≡ whole
