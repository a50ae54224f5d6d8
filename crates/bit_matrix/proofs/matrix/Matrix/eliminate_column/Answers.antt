use Rattle.std.proofs.Common.{◌≡◌, ◌<◌, ℕ, refl, ◌∙◌, arith}
use Rattle.bit_matrix.specs.Matrix.{Grid, item}
use Rattle.bit_matrix.proofs.Echelons.{made_sized, made_then, none_in_column, one_in_column}
use Rattle.bit_matrix.proofs.matrix.Matrix.eliminate_column.Goals as goal

pub returns-in_default-clause-none : goal.returns-in_default-clause-none
returns-in_default-clause-none c is =
    let m : Grid = c.args.self.now in
    none_in_column (item m) (item m) m.rows c.args.column c.args.rank c.requires.before (λ i j h l. refl) (λ i past h. c.in_default.ensures i h past)

pub returns-clause-reduced : goal.returns-clause-reduced
returns-clause-reduced c is =
    let m : Grid = c.args.self.now in
    let new : Grid = c.clear_others.new.self in
    let add = c.add_pivot.ensures in
    let clear = c.clear_others.ensures in
    let tall = add.alike.0 in
    let inside = c.in-Some.ensures.0 in
    let later = c.in-Some.ensures.1 in
    let same : (i j : ℕ) → i < m.rows → j < c.args.column → item new i j ≡ item m i j = λ i j h l. clear.before i j (omega arith) l ∙ add.before i j h l in
    one_in_column (item m) (item new) m.rows c.args.column c.args.rank c.requires.before same (omega arith) clear.bit (λ i h apart. clear.cleared i (omega arith) apart)

pub returns-clause-made : goal.returns-clause-made
returns-clause-made c =
    let m : Grid = c.args.self.now in
    let mid : Grid = c.add_pivot.new.self in
    let new : Grid = c.clear_others.new.self in
    let add = c.add_pivot.ensures in
    made_then (item m) (item mid) (item new) m.rows m.columns add.made (made_sized (item mid) (item new) m.rows m.columns mid.rows mid.columns add.alike.0 add.alike.1 c.clear_others.ensures.made)
