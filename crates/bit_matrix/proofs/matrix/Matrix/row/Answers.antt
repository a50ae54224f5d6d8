use Rattle.std.proofs.Common.{slice_get, sym, ◌∙◌, ap}
use Rattle.bit_matrix.proofs.Padding.{row_aligned, row_shows, row_unpadded, wide}
use Rattle.bit_matrix.proofs.matrix.Matrix.row.Goals as goal

pub returns-clause-list : goal.returns-clause-list
returns-clause-list c =
    let m = c.self.inside in
    rw (← c.self.view_is) (c.get_range.ensures.list ∙ sym (row_unpadded m.bits.list m.rows m.columns m.stride c.self.invariant.count (wide m.rows m.columns m.stride m.bits.head _ c.self.invariant) c.args.row (rw (← c.self.view_is) at c.requires)))

pub returns-clause-head : goal.returns-clause-head
returns-clause-head c =
    let m = c.self.inside in
    c.get_range.ensures.head ∙ row_aligned m.rows m.columns m.stride m.bits.head _ c.args.row c.self.invariant (rw (← c.self.view_is) at c.requires)

pub returns-clause-items : goal.returns-clause-items
returns-clause-items c j inside =
    let m = c.self.inside in
    rw (← c.self.view_is)
    (ap (λ l. slice_get l j) c.get_range.ensures.list ∙ row_shows m.bits.list m.rows m.columns m.stride m.bits.head c.args.row j c.self.invariant (rw (← c.self.view_is) at c.requires) (rw (← c.self.view_is) at inside))
