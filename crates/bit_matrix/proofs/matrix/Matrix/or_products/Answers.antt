use Rattle.std.proofs.Common.{◌||◌, ◌∙◌, ap, arith}
use Rattle.bit_matrix.specs.Matrix.{Grid, item}
use Rattle.bit_matrix.proofs.Tabled.{part_summed}
use Rattle.bit_matrix.proofs.matrix.Matrix.or_products.Goals as goal

pub loop-start-preserved : goal.loop-start-preserved
loop-start-preserved c =
    let at = c.loop-start in
    let i = at.invariant in
    let filled = c.fill_sums.ensures in
    let done = c.or_sums.ensures in
    let old : Grid = c.args.self.now in
    let new : Grid = c.or_sums.new.self in
    let left : Grid = c.args.left.now in
    let right : Grid = c.args.right.now in
    let tall = i.alike.0 in
    let wide = i.alike.1 in
    let table = i.sums.1 in
    let as_wide = c.requires.wide in
    let few = c.min-count.ensures in
    let test = c.loop-start-test.true in
    record {
      ends = omega arith;
      alike = (done.alike.0 ∙ i.alike.0, done.alike.1 ∙ i.alike.1);
      sums = (filled.alike.0 ∙ i.sums.0, filled.alike.1 ∙ i.sums.1);
      empty = λ j low. filled.empty j (omega arith);
      items = λ r j inside low.
          let d = done.items r j (omega arith) (omega arith) in
          part_summed (λ k. item left r k) (λ k. item right k j) at.start c.min-count.result d.0 (item old r j) (item at.self r j) (item new r j)
          (i.items r j inside low) d.2 (d.3 ∙ ap (λ b. item at.self r j || b) (filled.sums d.0 j d.1 (omega arith)));
    }
