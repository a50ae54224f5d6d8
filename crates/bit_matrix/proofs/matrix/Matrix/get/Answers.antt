use Rattle.std.proofs.Common.{◌+◌, ◌*◌, sym, ◌∙◌}
use Rattle.bit_matrix.proofs.Padding.{item_unpadded, wide}
use Rattle.bit_matrix.proofs.Grids.{bit_loaded}
use Rattle.bit_matrix.proofs.matrix.Matrix.get.Goals as goal

bit : goal.returns-clause-bit
bit c =
    let m = c.self.inside in
    let there = item_unpadded m.bits.list m.rows m.columns m.stride c.self.invariant.count (wide m.rows m.columns m.stride m.bits.head _ c.self.invariant) c.args.row c.args.column (rw (← c.self.view_is) at c.requires.row) (rw (← c.self.view_is) at c.requires.column) in
    rw (← c.self.view_is) (bit_loaded m.bits.list (c.args.row * m.stride + c.args.column) c.load_le_at.result c.load_le_at.ensures.value c.load_le_at.ensures.below ∙ sym there)

pub returns-clause-bit : goal.returns-clause-bit
returns-clause-bit = bit

pub returns-clause-set : goal.returns-clause-set
returns-clause-set c = (λ is. (c.requires.row, c.requires.column, sym (bit c) ∙ is), λ s. bit c ∙ s.2)
