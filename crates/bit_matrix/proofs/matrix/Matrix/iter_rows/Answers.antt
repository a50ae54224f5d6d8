use Rattle.std.proofs.Common.{◌≡◌, ◌-◌, ◌∙◌, arith}
use Rattle.std.proofs.lemmas.List.FromFn.{length-map-range_with_len}
use Rattle.bit_matrix.specs.Matrix.{row_bits}
use Rattle.bit_matrix.proofs.MatrixRuns.{rows_runs, rows_runs_back}
use Rattle.bit_matrix.proofs.matrix.Matrix.iter_rows.Goals as goal

pub returns-clause-count : goal.returns-clause-count
returns-clause-count c =
    let all : c.rows-upto.result - 0 ≡ c.args.self.now.rows = omega (arith, c.rows-upto.ensures) in
    length-map-range_with_len (row_bits c.args.self.now) 0 (c.rows-upto.result - 0) ∙ all

pub returns-clause-few : goal.returns-clause-few
returns-clause-few c = omega (arith, length-map-range_with_len (row_bits c.args.self.now) 0 (c.rows-upto.result - 0), c.rows-upto.type_inv)

pub returns-clause-runs : goal.returns-clause-runs
returns-clause-runs c = rows_runs _ _

pub returns-clause-runs_back : goal.returns-clause-runs_back
returns-clause-runs_back c = rows_runs_back _ _
