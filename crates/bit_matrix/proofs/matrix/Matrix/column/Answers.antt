use Rattle.std.proofs.Common.{◌≡◌, ◌-◌, ◌∙◌, arith}
use Rattle.std.proofs.lemmas.List.FromFn.{length-map-range_with_len}
use Rattle.bit_matrix.specs.Matrix.{item}
use Rattle.bit_matrix.proofs.MatrixRuns.{column_runs, column_runs_back}
use Rattle.bit_matrix.proofs.matrix.Matrix.column.Goals as goal

pub returns-clause-count : goal.returns-clause-count
returns-clause-count c =
    let all : c.rows-upto.result - 0 ≡ c.args.self.now.rows = omega (arith, c.rows-upto.ensures) in
    length-map-range_with_len (λ i. item c.args.self.now i c.args.column) 0 (c.rows-upto.result - 0) ∙ all

pub returns-clause-few : goal.returns-clause-few
returns-clause-few c = omega (arith, length-map-range_with_len (λ i. item c.args.self.now i c.args.column) 0 (c.rows-upto.result - 0), c.rows-upto.type_inv)

pub returns-clause-runs : goal.returns-clause-runs
returns-clause-runs c = column_runs

pub returns-clause-runs_back : goal.returns-clause-runs_back
returns-clause-runs_back c = column_runs_back
