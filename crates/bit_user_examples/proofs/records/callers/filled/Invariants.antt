use Rattle.std.proofs.Common.{◌≡◌, ◌++◌, take}
use Rattle.bit_user_examples.proofs.records.callers.filled.Given as goal

-- the numbers below `i` were appended
abbrev pub invariant-loop-i : goal.invariant-loop-i
invariant-loop-i g l = (l.records.list ≡ l.fn.records.list ++ take l.i l.fn.numbers) × (l.records.width ≡ l.fn.records.width)
