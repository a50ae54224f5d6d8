use Rattle.std.proofs.Common.{◌≡◌, ◌<◌, ◌≤◌, ◌&&◌, ℕ, false, true, refl, sym, ◌∙◌, ap, subst, rules, arith}
use Rattle.std.specs.Prelude.{◌==◌}
use Rattle.std.proofs.lemmas.Bool.{true≢false}
use Rattle.bit_matrix.specs.Elimination.{AreLinked}
use Rattle.bit_matrix.specs.Matrix.{Grid, item, sum_mod_2}
use Rattle.bit_matrix.specs.Rank.{IsBasis, count_chosen}
use Rattle.bit_matrix.proofs.FullRank.{count_all, full_basis, not_full}
use Rattle.bit_matrix.proofs.ModTwo.{inverse_left, inverse_right, linked_first, made_back, stuck}
use Rattle.bit_matrix.proofs.matrix.Matrix.inverse_mod_2.Goals as goal

pub loop-column-init : goal.loop-column-init
loop-column-init c =
    let m : Grid = c.args.self.now in
    let work : Grid = c.in_ok-work.work in
    let made : Grid = c.in-Ok.made in
    let same : work ≡ m = search rules in
    record {
      alike = (ap (λ (g : Grid). g.rows) same, ap (λ (g : Grid). g.columns) same);
      made_alike = (c.in-Ok.ensures.rows ∙ c.rows.ensures.value, c.in-Ok.ensures.columns ∙ c.rows.ensures.value ∙ c.requires);
      linked = linked_first (item m) (item work) (item made) m.columns (λ i j h l. ap (λ (g : Grid). item g i j) same) (λ i j h l. c.in-Ok.ensures.items i j (omega arith) (omega arith));
      units = λ i j h l. absurd (omega arith);
    }

pub loop-column-preserved : goal.loop-column-preserved
loop-column-preserved c =
    let m : Grid = c.args.self.now in
    let was = c.loop-column.invariant in
    let now = c.reduce_column.ensures in
    let work : Grid = c.reduce_column.new.self in
    let made : Grid = c.reduce_column.new.made in
    record {
      alike = (now.alike.0 ∙ was.alike.0, now.alike.1 ∙ was.alike.1);
      made_alike = (now.made_alike.0 ∙ was.made_alike.0, now.made_alike.1 ∙ was.made_alike.1);
      linked = subst (λ (n : ℕ). AreLinked (item m) (item work) (item made) n) was.alike.1 (now.linked (item m) (subst (λ (n : ℕ). AreLinked (item m) (item c.loop-column.work) (item c.loop-column.made) n) (sym was.alike.1) was.linked));
      units = λ i j h l. now.reduced c.if-not-reduce_column.false i j (omega arith) l;
    }

pub returns-then-not-reduce_column-clause-none : goal.returns-then-not-reduce_column-clause-none
returns-then-not-reduce_column-clause-none c b inverse =
    let m : Grid = c.args.self.now in
    let was = c.loop-column.invariant in
    let inside : c.loop-column.column < m.columns = omega arith in
    let none : (i : ℕ) → i < m.columns → c.loop-column.column ≤ i → item c.loop-column.work i c.loop-column.column ≡ false = λ i h l. c.reduce_column.ensures.stuck c.if-not-reduce_column.true i (omega arith) l in
    let left : (i j : ℕ) → i < m.columns → j < m.columns → sum_mod_2 (λ k. item b i k && item m k j) m.columns ≡ (i == j) =
    λ i j h l. subst (λ (n : ℕ). sum_mod_2 (λ k. item b i k && item m k j) n ≡ (i == j)) inverse.alike.1 (inverse.left i j (let e = inverse.alike.0 in omega arith) l) in
    stuck (item m) (item c.loop-column.work) (item c.loop-column.made) m.columns was.linked c.loop-column.column inside was.units none (item b) left

pub returns-then-not-reduce_column-clause-full_rank : goal.returns-then-not-reduce_column-clause-full_rank
returns-then-not-reduce_column-clause-full_rank c = (
  (λ some. absurd (true≢false (sym some))),
  (λ rank.
      let m : Grid = c.args.self.now in
      let was = c.loop-column.invariant in
      let inside : c.loop-column.column < m.columns = omega arith in
      let none : (i : ℕ) → i < m.columns → c.loop-column.column ≤ i → item c.loop-column.work i c.loop-column.column ≡ false = λ i h l. c.reduce_column.ensures.stuck c.if-not-reduce_column.true i (omega arith) l in
      absurd (not_full (item m) m.columns (item c.loop-column.work) was.linked.undone.0 c.loop-column.column inside
      (λ k j h l. made_back (item m) (item c.loop-column.work) (item c.loop-column.made) m.columns was.linked k j h l) was.units none
      rank.0 (subst (λ (n : ℕ). IsBasis (item m) n m.columns rank.0) c.requires rank.1) (subst (λ (n : ℕ). count_chosen rank.0 n ≡ n) c.requires rank.2))),
)

pub returns-clause-full_rank : goal.returns-clause-full_rank
returns-clause-full_rank c = (
  (λ some.
      let m : Grid = c.args.self.now in
      let made : Grid = c.loop-column.made in
      let was = c.loop-column.invariant in
      let one : (i j : ℕ) → i < m.columns → j < m.columns → item c.loop-column.work i j ≡ (i == j) = λ i j h l. was.units i j h (omega arith) in (
        (λ k. true),
        subst (λ (n : ℕ). IsBasis (item m) n m.columns (λ k. true)) (sym c.requires) (full_basis (item m) m.columns (item made) (inverse_right (item m) (item c.loop-column.work) (item made) m.columns was.linked one)),
        count_all m.rows,
      )),
  (λ rank. refl),
)

pub returns-clause-inverse : goal.returns-clause-inverse
returns-clause-inverse c =
    let m : Grid = c.args.self.now in
    let made : Grid = c.loop-column.made in
    let was = c.loop-column.invariant in
    let one : (i j : ℕ) → i < m.columns → j < m.columns → item c.loop-column.work i j ≡ (i == j) = λ i j h l. was.units i j h (omega arith) in
    record {
      alike = was.made_alike;
      left = λ i j h l.
          subst (λ (n : ℕ). sum_mod_2 (λ k. item made i k && item m k j) n ≡ (i == j)) (sym was.made_alike.1) (inverse_left (item m) (item c.loop-column.work) (item made) m.columns was.linked one i j (let e = was.made_alike.0 in omega arith) l);
      right = λ i j h l. inverse_right (item m) (item c.loop-column.work) (item made) m.columns was.linked one i j (omega arith) (let e = was.made_alike.1 in omega arith);
    }
