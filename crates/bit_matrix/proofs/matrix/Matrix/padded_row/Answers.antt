use Rattle.std.proofs.Common.{false, get_or, ◌∙◌, ap}
use Rattle.bit_matrix.proofs.Padding.{item_padded}
use Rattle.bit_matrix.proofs.matrix.Matrix.padded_row.Goals as goal

pub returns-clause-items : goal.returns-clause-items
returns-clause-items c j inside =
    let m = c.self.inside in
    rw (← c.self.view_is)
    (ap (λ l. get_or l j false) c.get_range.ensures.list ∙ item_padded m.bits.list m.rows m.columns m.stride m.bits.head c.args.row j c.self.invariant (rw (← c.self.view_is) at c.requires) (rw (← c.self.view_is) at inside))
