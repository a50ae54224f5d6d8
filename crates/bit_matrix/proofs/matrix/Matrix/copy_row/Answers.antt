use Rattle.std.proofs.Common.{◌≡◌, ◌+◌, ◌-◌, ◌*◌, arith}
use Rattle.bit_matrix.proofs.Padding.{row_copied, row_uncopied}
use Rattle.bit_matrix.proofs.matrix.Matrix.copy_row.Goals as goal

pub returns-clause-row : goal.returns-clause-row
returns-clause-row c j inside =
    let m = c.self.inside in
    let start = c.args.from * m.stride in
    let n : start + m.stride - start ≡ m.stride = omega arith in
    rw (← c.self.view_is)
    (row_copied m.bits.list c.copy_within.new.self.list m.rows m.columns m.stride m.bits.head c.args.from c.args.to (start + m.stride - start) c.self.invariant c.copy_within.ensures.stayed.len (rw (← c.self.view_is) at c.requires.from) (rw (← c.self.view_is) at c.requires.to) n c.copy_within.ensures.list j (rw (← c.self.view_is) at inside) c.copy_within.ensures.landed)

pub returns-clause-others : goal.returns-clause-others
returns-clause-others c =
    let m = c.self.inside in
    let start = c.args.from * m.stride in
    let n : start + m.stride - start ≡ m.stride = omega arith in
    rw (← c.self.view_is)
    (row_uncopied m.bits.list c.copy_within.new.self.list m.rows m.columns m.stride m.bits.head c.args.from c.args.to (start + m.stride - start) c.self.invariant c.copy_within.ensures.stayed.len (rw (← c.self.view_is) at c.requires.from) (rw (← c.self.view_is) at c.requires.to) n c.copy_within.ensures.list)
