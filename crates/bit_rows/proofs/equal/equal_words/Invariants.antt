use Rattle.std.proofs.Common.{◌≡◌, take}
use Rattle.bit_rows.proofs.equal.equal_words.Given as goal

abbrev pub invariant-loop-i : goal.invariant-loop-i
invariant-loop-i g l = take l.i l.left ≡ take l.i l.right
