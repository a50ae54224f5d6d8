use Rattle.std.proofs.Common.{◌≡◌, ◌+◌, ◌*◌, ◌<◌, ◌≤◌, false, get_or, slice_range, refl, sym, ◌∙◌, ap, arith}
use Rattle.std.proofs.lemmas.List.{get_or_past}
use Rattle.bit_addressing.specs.Bits.{has_bit}
use Rattle.bit_addressing.proofs.Chunks.{has_number}
use Rattle.bit_addressing.proofs.lists.Shown.{length-run}
use Rattle.bit_matrix.proofs.Grids.{row_item}
use Rattle.bit_matrix.proofs.Padding.{item_unpadded, row_padded, wide}
use Rattle.bit_matrix.proofs.matrix.Matrix.read_part.Goals as goal

pub returns-clause-bits : goal.returns-clause-bits
returns-clause-bits c j below =
    let m = c.self.inside in
    let count = c.args.count in
    let start = c.args.row * m.stride + c.args.column in
    let at : start + j ≡ c.args.row * m.stride + (c.args.column + j) = omega arith in
    let row : c.args.row < m.rows = rw (← c.self.view_is) at c.requires.row in
    let within : c.args.column + count ≤ m.columns = rw (← c.self.view_is) at c.requires.within in
    rw (← c.self.view_is)
    (ap (λ n. has_bit n j) c.load_le_at.ensures.value ∙ has_number (slice_range m.bits.list start (start + count)) j
    ∙ row_item m.bits.list start count (start + count) j refl below ∙ ap (λ k. get_or m.bits.list k false) at
    ∙ sym (item_unpadded m.bits.list m.rows m.columns m.stride c.self.invariant.count (wide m.rows m.columns m.stride m.bits.head _ c.self.invariant) c.args.row (c.args.column + j) row (omega arith)))

pub returns-clause-above : goal.returns-clause-above
returns-clause-above c j past =
    let m = c.self.inside in
    let count = c.args.count in
    let start = c.args.row * m.stride + c.args.column in
    let row : c.args.row < m.rows = rw (← c.self.view_is) at c.requires.row in
    let within : c.args.column + count ≤ m.columns = rw (← c.self.view_is) at c.requires.within in
    let ends = row_padded m.rows m.columns m.stride m.bits.head _ c.args.row c.self.invariant row in
    let long = length-run m.bits.list start count (omega arith) in
    ap (λ n. has_bit n j) c.load_le_at.ensures.value ∙ has_number (slice_range m.bits.list start (start + count)) j
    ∙ get_or_past (slice_range m.bits.list start (start + count)) j false (omega arith)
