use Rattle.std.proofs.Common.{◌+◌, ◌∙◌, arith}
use Rattle.bit_matrix.specs.Matrix.{IsSet, IsClosed}
use Rattle.bit_matrix.proofs.Paths.{all_led, block_closed, inner, row_over, still_closed}
use Rattle.bit_matrix.proofs.matrix.Matrix.lead_over.Goals as goal
use Rattle.bit_matrix.proofs.matrix.Matrix.lead_over.Goals.{After-close_block}

closed : (c : After-close_block) → IsClosed (IsSet c.close_block.new.self) c.args.start c.args.end
closed c = block_closed (IsSet c.args.self.now) (IsSet c.close_block.new.self) c.args.start c.args.end (record { inside = c.close_block.ensures.inside; outside = c.close_block.ensures.outside })

pub lead_row-requires-clause-closed : goal.lead_row-requires-clause-closed
lead_row-requires-clause-closed c = still_closed (IsSet c.close_block.new.self) (IsSet c.loop-row.self) c.args.start c.args.end c.loop-row.row (closed (goal.at.lead_row-requires-clause-closed c).After-close_block) c.loop-row.invariant.edges

pub lead_row-requires-clause-leading : goal.lead_row-requires-clause-leading
lead_row-requires-clause-leading c p j inside leads =
    c.leading-leading.ensures p j inside
    (inner (IsSet c.close_block.new.self) (IsSet c.loop-row.self) c.args.start c.args.end c.loop-row.row (closed (goal.at.lead_row-requires-clause-leading c).After-close_block) c.loop-row.invariant.edges (c.args.start + p) j (omega arith) inside leads)

pub loop-row-preserved : goal.loop-row-preserved
loop-row-preserved c =
    let was = c.loop-row.invariant in
    let now = c.lead_row.ensures in
    record {
      alike = (now.alike.0 ∙ was.alike.0, now.alike.1 ∙ was.alike.1);
      edges = row_over (IsSet c.close_block.new.self) (IsSet c.loop-row.self) c.args.start c.args.end c.loop-row.row (closed (goal.at.loop-row-preserved c).After-close_block) was.edges (IsSet c.lead_row.new.self) now.edges;
    }

pub returns-clause-paths : goal.returns-clause-paths
returns-clause-paths c =
    (all_led (IsSet c.args.self.now) (IsSet c.close_block.new.self) (IsSet c.loop-row.self) c.args.start c.args.end c.loop-row.row c.args.self.now.rows (λ x y e. e.0) (omega arith)
    (record { inside = c.close_block.ensures.inside; outside = c.close_block.ensures.outside }) c.loop-row.invariant.edges).paths
