use Rattle.std.proofs.Common.{ap, arith}
use Rattle.std.proofs.lemmas.List.{get_or_default}
use Rattle.bit_blocks.specs.declared.ranged.Run.{Run}
use Rattle.bit_blocks.proofs.Combined.{past_all, in_run, before_run}
use Rattle.bit_blocks.proofs.Runs.{run_ordered}
use Rattle.bit_blocks.proofs.stretches.stretch.Goals as goal

pub returns-then-i-runs-clause-stretch : goal.returns-then-i-runs-clause-stretch
returns-then-i-runs-clause-stretch c = past_all c.args.runs.now c.args.at c.args.i c.requires.runs c.requires.place c.requires.low c.if-i-runs.true

pub returns-then-run-at-clause-stretch : goal.returns-then-run-at-clause-stretch
returns-then-run-at-clause-stretch c = in_run c.args.runs.now c.args.at c.args.i c.requires.runs c.requires.place _ (omega arith) c.if-run-at.true

pub returns-else-run-at-clause-stretch : goal.returns-else-run-at-clause-stretch
returns-else-run-at-clause-stretch c = before_run c.args.runs.now c.args.at c.args.i c.requires.runs c.requires.place _ (omega arith) (omega arith)

pub returns-else-run-at-clause-near : goal.returns-else-run-at-clause-near
returns-else-run-at-clause-near c =
    λ d inside.
    let up = (run_ordered 0 c.args.runs.now c.args.i d c.requires.runs inside).0 in
    omega (arith, ap (λ (r : Run). r.first) (get_or_default c.args.runs.now c.args.i (record { first = 0; last = 0 }) d inside))
