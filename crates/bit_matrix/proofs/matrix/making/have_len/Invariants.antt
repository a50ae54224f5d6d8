use Rattle.std.proofs.Common.{◌≡◌, All, length, take}
use Rattle.bit_matrix.proofs.matrix.making.have_len.Given as goal

abbrev pub invariant-loop-row : goal.invariant-loop-row
invariant-loop-row g l = All (λ row. length (g.B.BitList.list row) ≡ l.len) (take l.row-index l.rows)
