use Rattle.std.proofs.Common.{◌<◌, ◌||◌, Bool, refl, sym, subst, ◌∙◌, ap}
use Rattle.bit_slice.specs.BitSlice.{list_of}
use Rattle.bit_matrix.specs.Matrix.{item}
use Rattle.bit_matrix.proofs.Padding.{row_combined, row_uncombined}
use Rattle.bit_matrix.proofs.matrix.Matrix.or_row_of.Goals as goal
use Rattle.bit_matrix.specs.contracts.matrix.Matrix.{the_view}

pub returns-clause-row : goal.returns-clause-row
returns-clause-row c j inside =
    let m = c.self.inside in
    rw (← c.self.view_is)
    (row_combined (λ x y. x || y) m.bits.list c.or_range.new.self.list (list_of c.padded_row.result) m.rows m.columns m.stride m.bits.head c.args.into m.stride c.self.invariant c.or_range.ensures.stays.len (rw (← c.self.view_is) at c.requires.into) refl c.or_range.ensures.list j (rw (← c.self.view_is) at inside)
    ∙ ap (λ (y : Bool). item (the_view m) c.args.into j || y) (c.padded_row.ensures.items j (subst (λ k. j < k) (sym c.requires.columns) inside)))

pub returns-clause-others : goal.returns-clause-others
returns-clause-others c =
    let m = c.self.inside in
    rw (← c.self.view_is)
    (row_uncombined (λ x y. x || y) m.bits.list c.or_range.new.self.list (list_of c.padded_row.result) m.rows m.columns m.stride m.bits.head c.args.into m.stride c.self.invariant c.or_range.ensures.stays.len (rw (← c.self.view_is) at c.requires.into) refl c.or_range.ensures.list)
