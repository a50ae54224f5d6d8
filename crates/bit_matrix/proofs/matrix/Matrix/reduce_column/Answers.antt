use Rattle.std.proofs.Common.{ℕ, sym, subst}
use Rattle.bit_matrix.specs.Elimination.{AreLinked}
use Rattle.bit_matrix.specs.Matrix.{Grid, item}
use Rattle.bit_matrix.proofs.matrix.Matrix.reduce_column.Goals as goal

pub returns-clause-linked : goal.returns-clause-linked
returns-clause-linked c a linked =
    let work : Grid = c.set_pivot.new.self in
    let made : Grid = c.set_pivot.new.made in
    let done : Grid = c.clear_column.new.self in
    let all : Grid = c.clear_column.new.made in
    let wide = c.set_pivot.ensures.alike.1 in
    subst (λ (n : ℕ). AreLinked a (item done) (item all) n) wide (c.clear_column.ensures.linked a (subst (λ (n : ℕ). AreLinked a (item work) (item made) n) (sym wide) (c.set_pivot.ensures.linked a linked)))
