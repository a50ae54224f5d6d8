use Rattle.std.proofs.Common.{not, ◌∙◌, ap}
use Rattle.std.specs.Prelude.{if◌then◌else◌}
use Rattle.bit_slice.specs.Operators.{combined}
use Rattle.bit_matrix.proofs.Padding.{all_combined}
use Rattle.bit_matrix.proofs.matrix.Matrix.add_mod_2.Goals as goal

pub returns-clause-items : goal.returns-clause-items
returns-clause-items c i j tall short =
    let m = c.self.inside in
    let n = c.other.inside in
    rw (← c.self.view_is)
    (rw (← c.other.view_is)
    (all_combined (λ x y. if x then not y else y) m.bits.list n.bits.list c.xor_bits.new.self.list m.rows m.columns m.stride n.rows n.columns n.stride m.bits.head n.bits.head c.self.invariant c.other.invariant (rw (← c.self.view_is, ← c.other.view_is) at c.requires) (c.xor_bits.ensures.list ∙ ap (λ l. combined (λ x y. if x then not y else y) m.bits.list l) c.as_bitslice.ensures.list) i j (rw (← c.self.view_is) at tall) (rw (← c.self.view_is) at short)))
