use Rattle.std.proofs.Common.{◌≡◌, ◌<◌, false, sym, subst, ◌∙◌, ap, refl, arith, rules}
use Rattle.bit_matrix.specs.Matrix.{Grid, item}
use Rattle.bit_matrix.specs.Rank.{IsRank, count_chosen}
use Rattle.bit_matrix.specs.Reduction.{AreReduced, IsReducing, is_left}
use Rattle.bit_matrix.proofs.FullRank.{count_none, one_rank, rank_few, rank_none}
use Rattle.bit_matrix.proofs.Ranks.{count_most, counted_left, counted_out, left_told, reduced_all, reduced_more, reduced_none, reducing_sized}
use Rattle.bit_matrix.proofs.matrix.Matrix.rank_mod_2.Goals.{then-is_some, else-is_some}
use Rattle.bit_matrix.proofs.matrix.Matrix.rank_mod_2.Goals as goal

none : (c : goal.Then-columns-eq0) → IsRank c.args.self.now 0
none c =
    let m : Grid = c.args.self.now in
    ((λ k. false), rank_none (item m) m.rows m.columns (omega arith), count_none m.rows)

pub returns-then-columns-eq0-clause-rank : goal.returns-then-columns-eq0-clause-rank
returns-then-columns-eq0-clause-rank c = none c

pub returns-then-columns-eq0-clause-one : goal.returns-then-columns-eq0-clause-one
returns-then-columns-eq0-clause-one c q other = one_rank c.args.self.now 0 q (none c) other

pub loop-row-init : goal.loop-row-init
loop-row-init c =
    let m : Grid = c.args.self.now in
    let work : Grid = c.in_ok-work.work in
    let same : work ≡ m = search rules in
    record {
      alike = (ap (λ (g : Grid). g.rows) same, ap (λ (g : Grid). g.columns) same);
      reduced = reduced_none (item m) (item work) m.rows m.columns (λ k j h l. ap (λ (g : Grid). item g k j) same);
      count = refl;
    }

pub overflow_add-rank : goal.overflow_add-rank
overflow_add-rank c =
    let most = count_most (is_left (item c.loop-row.work) c.args.self.now.columns) c.loop-row.row in
    let is = c.loop-row.invariant.count in
    omega arith

pub loop-row-preserved : goal.loop-row-preserved
loop-row-preserved c =
    let m : Grid = c.args.self.now in
    let was = c.loop-row.invariant in
    let now = c.reduce_row.ensures in
    let work : Grid = c.loop-row.work in
    let next : Grid = c.reduce_row.new.self in
    let row = c.loop-row.row in
    let inside : row < m.rows = omega arith in
    let wide : next.columns ≡ m.columns = now.alike.1 ∙ was.alike.1 in
    let done : IsReducing (item m) (item work) (item next) m.rows m.columns row row =
    reducing_sized (item m) (item work) (item next) m.rows m.columns work.rows work.columns row was.alike.0 was.alike.1 (now.reduced (item m)) was.reduced in
    let left = ap (is_left (item next)) (sym wide) in
    let told = left_told (item next row) next.columns c.first_in_row.result c.first_in_row.ensures in
    record {
      alike = (now.alike.0 ∙ was.alike.0, wide);
      reduced = reduced_more (item m) (item work) (item next) m.rows m.columns row inside was.reduced done;
      count = elim c.if-is_some.branch [
        | then-is_some w ↦ w.rank-is ∙ counted_left (item m) (item work) (item next) m.rows m.columns row inside was.reduced done c.loop-row.rank was.count (ap (λ n. is_left (item next) n row) (sym wide) ∙ told ∙ sym c.is_some.ensures ∙ w.if-is_some.true)
        | else-is_some w ↦ w.rank-is ∙ counted_out (item m) (item work) (item next) m.rows m.columns row inside was.reduced done c.loop-row.rank was.count (ap (λ n. is_left (item next) n row) (sym wide) ∙ told ∙ sym c.is_some.ensures ∙ w.if-is_some.false)
      ];
    }

-- the rows that are left of the copy
basis : (c : goal.After-drop-work-inside) → IsRank c.args.self.now c.loop-row.rank
basis c =
    let m : Grid = c.args.self.now in
    let work : Grid = c.loop-row.work in
    let was = c.loop-row.invariant in
    let all : c.loop-row.row ≡ m.rows = omega arith in
    (is_left (item work) m.columns, reduced_all (item m) (item work) m.rows m.columns (subst (AreReduced (item m) (item work) m.rows m.columns) all was.reduced), ap (count_chosen (is_left (item work) m.columns)) (sym all) ∙ sym was.count)

pub returns-clause-rank : goal.returns-clause-rank
returns-clause-rank c = basis c

pub returns-clause-one : goal.returns-clause-one
returns-clause-one c q other = one_rank c.args.self.now c.loop-row.rank q (basis c) other

pub returns-clause-rows : goal.returns-clause-rows
returns-clause-rows c = let b = basis c in let most = count_most b.0 c.args.self.now.rows in let is = b.2 in omega arith

pub returns-clause-columns : goal.returns-clause-columns
returns-clause-columns c =
    let m : Grid = c.args.self.now in
    let b = basis c in
    let few = rank_few (item m) m.rows m.columns b.0 b.1 in
    let is = b.2 in
    omega arith
