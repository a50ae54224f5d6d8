use Rattle.std.proofs.Common.{◌≡◌, ◌<◌, ℕ, length, true}
use Rattle.bit_matrix.specs.Matrix.{bit_of, item}
use Rattle.bit_matrix.specs.Reduction.{IsLead}
use Rattle.bit_matrix.proofs.matrix.Matrix.read_solution.Given as goal

abbrev pub invariant-loop-row : goal.invariant-loop-row
invariant-loop-row l = record {
  len : length l.solution.list ≡ length l.fn.solution.list;
  given : (i p : ℕ) → i < l.row → IsLead (item l.self i) p → (p < length l.fn.solution.list) × (bit_of l.solution.list p ≡ item l.self i (length l.fn.solution.list));
  from : (j : ℕ) → bit_of l.solution.list j ≡ true → (k : ℕ) × (k < l.rank) × IsLead (item l.self k) j;
}
