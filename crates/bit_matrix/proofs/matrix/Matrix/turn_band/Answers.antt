use Rattle.std.proofs.Common.{◌≡◌, ◌+◌, ◌-◌, ◌*◌, sym, ◌∙◌, ap, inl, inr, arith}
use Rattle.std.proofs.lemmas.Bool.{cases_lt}
use Rattle.bit_matrix.specs.Matrix.{Grid, item}
use Rattle.bit_matrix.proofs.matrix.Matrix.turn_band.Goals as goal

pub loop-part-preserved : goal.loop-part-preserved
loop-part-preserved c =
    let m : Grid = c.args.self.now in
    let new : Grid = c.write_square.new.self in
    let was = c.loop-part.invariant in
    let now = c.write_square.ensures in
    let left = c.args.left in
    let top = 64 * c.loop-part.part in
    record {
      alike = (now.alike.0 ∙ was.alike.0, now.alike.1 ∙ was.alike.1);
      band = λ i j low high wide below tall. elim (cases_lt j top) [
        | inl before ↦ now.others i j (omega arith) (omega arith) (inr (inr (inl before))) ∙ was.band i j low high wide before tall
        | inr after ↦
            let row : i ≡ left + (i - left) = omega arith in
            let column : j ≡ top + (j - top) = omega arith in
            ap (λ n. item new n j) row ∙ ap (item new (left + (i - left))) column ∙ now.inside (i - left) (j - top) (omega arith) (omega arith) (omega arith) (omega arith) ∙ c.turn.ensures (i - left) (j - top) (omega arith) (omega arith)
            ∙ c.read_square-square.ensures (j - top) (i - left) (omega arith) (omega arith) (omega arith) (omega arith)
            ∙ sym (ap (λ n. item m n i) column ∙ ap (item m (top + (j - top))) row)
      ];
      others = λ i j wide tall out. now.others i j (omega arith) (omega arith) (elim out [ inl above ↦ inl above | inr below ↦ inr (inl below) ]) ∙ was.others i j wide tall out;
    }
