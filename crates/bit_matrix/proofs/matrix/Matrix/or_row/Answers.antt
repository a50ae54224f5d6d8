use Rattle.std.proofs.Common.{◌≡◌, ◌+◌, ◌-◌, ◌*◌, ◌||◌, Bool, slice_range, ◌∙◌, ap, arith}
use Rattle.bit_matrix.specs.Matrix.{item}
use Rattle.bit_matrix.proofs.Padding.{item_padded, row_combined, row_uncombined}
use Rattle.bit_matrix.proofs.matrix.Matrix.or_row.Goals as goal
use Rattle.bit_matrix.specs.contracts.matrix.Matrix.{the_view}

pub returns-clause-row : goal.returns-clause-row
returns-clause-row c j inside =
    let m = c.self.inside in
    let start = c.args.from * m.stride in
    let n : start + m.stride - start ≡ m.stride = omega arith in
    let within = rw (← c.self.view_is) at inside in
    rw (← c.self.view_is)
    (row_combined (λ x y. x || y) m.bits.list c.or_within.new.self.list (slice_range m.bits.list start (start + m.stride)) m.rows m.columns m.stride m.bits.head c.args.into (start + m.stride - start) c.self.invariant c.or_within.ensures.stays.len (rw (← c.self.view_is) at c.requires.into) n c.or_within.ensures.list j within
    ∙ ap (λ (y : Bool). item (the_view m) c.args.into j || y) (item_padded m.bits.list m.rows m.columns m.stride m.bits.head c.args.from j c.self.invariant (rw (← c.self.view_is) at c.requires.from) within))

pub returns-clause-others : goal.returns-clause-others
returns-clause-others c =
    let m = c.self.inside in
    let start = c.args.from * m.stride in
    let n : start + m.stride - start ≡ m.stride = omega arith in
    rw (← c.self.view_is)
    (row_uncombined (λ x y. x || y) m.bits.list c.or_within.new.self.list (slice_range m.bits.list start (start + m.stride)) m.rows m.columns m.stride m.bits.head c.args.into (start + m.stride - start) c.self.invariant c.or_within.ensures.stays.len (rw (← c.self.view_is) at c.requires.into) n c.or_within.ensures.list)
