use Rattle.std.proofs.Common.{◌≡◌, arith, refl, ◌∙◌, subst}
use Rattle.bit_matrix.specs.Matrix.{IsSet}
use Rattle.bit_matrix.proofs.Paths.{IsClosing, none_closed, one_node_more}
use Rattle.bit_matrix.proofs.matrix.Matrix.close_block.Goals as goal

pub loop-middle-init : goal.loop-middle-init
loop-middle-init c = record { alike = (refl, refl); edges = none_closed (IsSet c.args.self.now) c.args.start c.args.end }

pub loop-middle-preserved : goal.loop-middle-preserved
loop-middle-preserved c =
    let was = c.loop-middle.invariant in
    let now = c.lead_through.ensures in
    record {
      alike = (now.alike.0 ∙ was.alike.0, now.alike.1 ∙ was.alike.1);
      edges = one_node_more (IsSet c.args.self.now) (IsSet c.loop-middle.self) (IsSet c.lead_through.new.self) c.args.start c.args.end c.loop-middle.middle (omega arith) (omega arith) was.edges (record { led = now.edges });
    }

pub returns-clause-inside : goal.returns-clause-inside
returns-clause-inside c =
    let past : c.loop-middle.middle ≡ c.args.end = omega arith in
    (subst (λ k. IsClosing (IsSet c.args.self.now) (IsSet c.loop-middle.self) c.args.start c.args.end k) past c.loop-middle.invariant.edges).inside
