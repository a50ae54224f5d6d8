use Rattle.std.proofs.Common.{arith}
use Rattle.bit_blocks.specs.declared.ranged.Run.{Run}
use Rattle.bit_blocks.proofs.Combined.{ended_here, one_ends}
use Rattle.bit_blocks.proofs.stretches.advanced.Goals as goal
use Rattle.bit_blocks.proofs.stretches.advanced.Goals.{else-i-runs-via-then-i-runs+else-runs-i, else-i-runs-via-else-i-runs}

abbrev none : Run
none = record { first = 0; last = 0 }

pub returns-then-runs-i-clause-place : goal.returns-then-runs-i-clause-place
returns-then-runs-i-clause-place c =
    one_ends c.args.runs.now c.args.upto c.args.i none c.requires.runs c.if-i-runs.true c.requires.before (omega (arith, c.if-runs-i.true)) (c.requires.near none c.if-i-runs.true)

pub returns-else-i-runs-clause-place : goal.returns-else-i-runs-clause-place
returns-else-i-runs-clause-place c = elim c.else-i-runs.branch [
  | else-i-runs-via-then-i-runs+else-runs-i w ↦ ended_here c.args.runs.now c.args.upto c.args.i none c.requires.runs c.requires.before (λ inside. omega (arith, w.if-runs-i.false))
  | else-i-runs-via-else-i-runs w ↦ ended_here c.args.runs.now c.args.upto c.args.i none c.requires.runs c.requires.before (λ inside. absurd (omega (arith, w.if-i-runs.false)))
]
