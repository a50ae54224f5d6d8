use Rattle.std.proofs.Common.{◌≡◌, ◌≢◌, ℕ, ◌-◌, ◌*◌, ◌<◌, ◌≤◌, Bool, List, false, get_or, length}
use Rattle.bit_slice.specs.Closures.{ResultsFrom}
use Rattle.bit_matrix.specs.Matrix.{AreAlike, item}
use Rattle.bit_matrix.proofs.matrix.Matrix.fill_row_by.Given as goal

abbrev pub invariant-loop-column : goal.invariant-loop-column
invariant-loop-column g l = record {
  ends : l.column ≤ l.columns;
  alike : AreAlike l.self l.fn.self;
  size : length l.self.bits ≡ l.self.rows * l.self.columns;
  written : (results : List Bool) × (length results ≡ l.column) × ResultsFrom (λ s j given t. goal.F-step g s l.row j given t) l.fn.f 0 results l.f
      × ((j : ℕ) → j < l.column → item l.self l.row j ≡ get_or results j false);
  others : (i j : ℕ) → i < l.fn.self.rows → j < l.fn.self.columns → i ≢ l.row → item l.self i j ≡ item l.fn.self i j;
}

abbrev pub decreases-loop-column : goal.decreases-loop-column
decreases-loop-column g l = l.columns - l.column
