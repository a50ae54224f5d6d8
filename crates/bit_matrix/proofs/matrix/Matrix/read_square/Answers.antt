use Rattle.std.proofs.Common.{◌+◌, sym, ◌∙◌, ap, inl, inr, arith, set}
use Rattle.std.proofs.lemmas.Bool.{cases_eq}
use Rattle.std.proofs.lemmas.List.{get_or-set_same, get_or-set_other, length-set}
use Rattle.bit_addressing.specs.Bits.{has_bit}
use Rattle.bit_matrix.specs.Matrix.{item}
use Rattle.bit_matrix.specs.Squares.{square_bit}
use Rattle.bit_matrix.proofs.matrix.Matrix.read_square.Goals as goal

pub loop-row-preserved : goal.loop-row-preserved
loop-row-preserved c =
    let row = c.loop-row.row in
    let square = c.loop-row.square in
    let word = c.read_part.result in
    record {
      long = length-set square row word ∙ c.loop-row.invariant.long;
      items = λ i j h k l. elim (cases_eq i row) [
        | inl same ↦
            ap (λ n. square_bit (set square row word) n j) same ∙ ap (λ w. has_bit w j) (get_or-set_same square row word 0 (omega arith)) ∙ c.read_part.ensures.bits j (omega arith)
            ∙ ap (λ n. item c.args.self.now (c.args.top + n) (c.args.left + j)) (sym same)
        | inr other ↦ ap (λ w. has_bit w j) (get_or-set_other square row i word 0 other) ∙ c.loop-row.invariant.items i j (omega arith) k l
      ];
    }
