use Rattle.std.proofs.Common.{◌∙◌, refl, arith}
use Rattle.bit_matrix.specs.Matrix.{IsSet}
use Rattle.bit_matrix.proofs.Grids.{closed}
use Rattle.bit_matrix.proofs.Paths.{edge_alone, one_block_more}
use Rattle.bit_matrix.proofs.matrix.Matrix.close.Goals as goal

pub loop-start-init : goal.loop-start-init
loop-start-init c = record { alike = (refl, refl); inside = omega arith; paths = edge_alone (IsSet c.args.self.now) }

pub loop-start-preserved : goal.loop-start-preserved
loop-start-preserved c =
    let was = c.loop-start.invariant in
    let now = c.lead_over.ensures in
    record {
      alike = (now.alike.0 ∙ was.alike.0, now.alike.1 ∙ was.alike.1);
      inside = omega arith;
      paths = one_block_more (IsSet c.args.self.now) (IsSet c.loop-start.self) c.loop-start.start _ (omega arith) was.paths (IsSet c.lead_over.new.self) (record { paths = now.paths });
    }

pub returns-clause-paths : goal.returns-clause-paths
returns-clause-paths c = closed c.args.self.now c.loop-start.self c.loop-start.start (omega arith) c.loop-start.invariant.paths
