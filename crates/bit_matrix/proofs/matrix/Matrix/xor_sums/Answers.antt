use Rattle.std.proofs.Common.{◌≡◌, ◌+◌, Bool, sym, ◌∙◌, ap, inl, inr, arith}
use Rattle.std.proofs.lemmas.Bool.{cases_lt}
use Rattle.bit_matrix.specs.Matrix.{Grid, item, plus_mod_2}
use Rattle.bit_matrix.proofs.matrix.Matrix.xor_sums.Goals as goal

pub loop-row-preserved : goal.loop-row-preserved
loop-row-preserved c =
    let at = c.loop-row in
    let i = at.invariant in
    let done = c.xor_row_of.ensures in
    let new : Grid = c.xor_row_of.new.self in
    let old : Grid = c.args.self.now in
    let left : Grid = c.args.left.now in
    let part = c.low_part-part.result in
    let tall = i.alike.0 in
    let wide = i.alike.1 in
    let rows = c.rows-row-end.ensures.value in
    let test = c.loop-row-test.true in
    record {
      alike = (done.alike.0 ∙ i.alike.0, done.alike.1 ∙ i.alike.1);
      done = λ k j below low. elim (cases_lt k at.row) [
        | inl l ↦ let d = i.done k j l low in (d.0, d.1, d.2, done.others k j (omega arith) (omega arith) (λ e. absurd (omega arith)) ∙ d.3)
        | inr h ↦
            let e : k ≡ at.row = omega arith in
            let added : Bool = item c.args.sums.now part j in (
              part,
              c.low_part-part.ensures.low,
              λ p few. c.low_part-part.ensures.bits p few ∙ c.read_part.ensures.bits p few ∙ ap (λ r. item left r (c.args.start + p)) (sym e),
              ap (λ r. item new r j) e ∙ done.row j (omega arith) ∙ ap (λ b. plus_mod_2 b added) (i.rest at.row j (omega arith) (omega arith) low) ∙ ap (λ r. plus_mod_2 (item old r j) added) (sym e),
            )
      ];
      rest = λ k j above inside low. done.others k j (omega arith) (omega arith) (λ e. absurd (omega arith)) ∙ i.rest k j (omega arith) inside low;
    }
