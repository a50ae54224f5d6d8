use Rattle.bit_matrix.proofs.Padding.{bits_set, item_not_set, item_set}
use Rattle.bit_matrix.proofs.matrix.Matrix.set.Goals as goal

pub returns-clause-bits : goal.returns-clause-bits
returns-clause-bits c =
    let m = c.self.inside in
    rw (← c.self.view_is)
    (bits_set m.bits.list c.set.new.self.list m.rows m.columns m.stride m.bits.head c.args.row c.args.column c.args.bit c.self.invariant (rw (← c.self.view_is) at c.requires.row) (rw (← c.self.view_is) at c.requires.column) c.set.ensures.list)

pub returns-clause-here : goal.returns-clause-here
returns-clause-here c =
    let m = c.self.inside in
    item_set m.bits.list c.set.new.self.list m.rows m.columns m.stride m.bits.head c.args.row c.args.column c.args.bit c.self.invariant (rw (← c.self.view_is) at c.requires.row) (rw (← c.self.view_is) at c.requires.column) c.set.ensures.list

pub returns-clause-others : goal.returns-clause-others
returns-clause-others c i j tall wide apart =
    let m = c.self.inside in
    rw (← c.self.view_is)
    (item_not_set m.bits.list c.set.new.self.list m.rows m.columns m.stride m.bits.head c.args.row c.args.column c.args.bit c.self.invariant (rw (← c.self.view_is) at c.requires.row) (rw (← c.self.view_is) at c.requires.column) c.set.ensures.list i j (rw (← c.self.view_is) at wide) apart)
