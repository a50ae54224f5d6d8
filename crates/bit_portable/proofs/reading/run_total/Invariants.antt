use Rattle.std.proofs.Common.{◌≡◌, ◌+◌, ◌*◌, ◌≤◌, drop}
use Rattle.bit_portable.specs.Stored.{run_total}
use Rattle.bit_portable.proofs.reading.run_total.Given as goal

abbrev pub invariant-loop-run : goal.invariant-loop-run
invariant-loop-run l = record {
  so_far : l.total + run_total (drop l.run-index l.runs) ≡ run_total l.runs;
  bound : l.total ≤ 65536 * l.run-index;
}
