use Rattle.std.proofs.Common.{◌≡◌, ◌+◌, ◌-◌, ◌*◌, not, slice_range, ◌∙◌, ap, arith}
use Rattle.std.specs.Prelude.{if◌then◌else◌}
use Rattle.bit_matrix.specs.Matrix.{item, plus_mod_2}
use Rattle.bit_matrix.proofs.Padding.{item_padded, row_combined, row_uncombined}
use Rattle.bit_matrix.proofs.matrix.Matrix.xor_row.Goals as goal
use Rattle.bit_matrix.specs.contracts.matrix.Matrix.{the_view}

pub returns-clause-row : goal.returns-clause-row
returns-clause-row c j inside =
    let m = c.self.inside in
    let start = c.args.from * m.stride in
    let n : start + m.stride - start ≡ m.stride = omega arith in
    let within = rw (← c.self.view_is) at inside in
    rw (← c.self.view_is)
    (row_combined (λ x y. if x then not y else y) m.bits.list c.xor_within.new.self.list (slice_range m.bits.list start (start + m.stride)) m.rows m.columns m.stride m.bits.head c.args.into (start + m.stride - start) c.self.invariant c.xor_within.ensures.stays.len (rw (← c.self.view_is) at c.requires.into) n c.xor_within.ensures.list j within
    ∙ ap (plus_mod_2 (item (the_view m) c.args.into j)) (item_padded m.bits.list m.rows m.columns m.stride m.bits.head c.args.from j c.self.invariant (rw (← c.self.view_is) at c.requires.from) within))

pub returns-clause-others : goal.returns-clause-others
returns-clause-others c =
    let m = c.self.inside in
    let start = c.args.from * m.stride in
    let n : start + m.stride - start ≡ m.stride = omega arith in
    rw (← c.self.view_is)
    (row_uncombined (λ x y. if x then not y else y) m.bits.list c.xor_within.new.self.list (slice_range m.bits.list start (start + m.stride)) m.rows m.columns m.stride m.bits.head c.args.into (start + m.stride - start) c.self.invariant c.xor_within.ensures.stays.len (rw (← c.self.view_is) at c.requires.into) n c.xor_within.ensures.list)
