use Rattle.std.proofs.Common.{◌<◌, not, refl, sym, subst, ◌∙◌, ap}
use Rattle.std.specs.Prelude.{if◌then◌else◌}
use Rattle.bit_slice.specs.BitSlice.{list_of}
use Rattle.bit_matrix.specs.Matrix.{item, plus_mod_2}
use Rattle.bit_matrix.proofs.Padding.{row_combined, row_uncombined}
use Rattle.bit_matrix.proofs.matrix.Matrix.xor_row_of.Goals as goal
use Rattle.bit_matrix.specs.contracts.matrix.Matrix.{the_view}

pub returns-clause-row : goal.returns-clause-row
returns-clause-row c j inside =
    let m = c.self.inside in
    rw (← c.self.view_is)
    (row_combined (λ x y. if x then not y else y) m.bits.list c.xor_range.new.self.list (list_of c.padded_row.result) m.rows m.columns m.stride m.bits.head c.args.into m.stride c.self.invariant c.xor_range.ensures.stays.len (rw (← c.self.view_is) at c.requires.into) refl c.xor_range.ensures.list j (rw (← c.self.view_is) at inside)
    ∙ ap (plus_mod_2 (item (the_view m) c.args.into j)) (c.padded_row.ensures.items j (subst (λ k. j < k) (sym c.requires.columns) inside)))

pub returns-clause-others : goal.returns-clause-others
returns-clause-others c =
    let m = c.self.inside in
    rw (← c.self.view_is)
    (row_uncombined (λ x y. if x then not y else y) m.bits.list c.xor_range.new.self.list (list_of c.padded_row.result) m.rows m.columns m.stride m.bits.head c.args.into m.stride c.self.invariant c.xor_range.ensures.stays.len (rw (← c.self.view_is) at c.requires.into) refl c.xor_range.ensures.list)
