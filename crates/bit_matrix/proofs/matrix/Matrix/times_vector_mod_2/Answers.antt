use Rattle.std.proofs.Common.{◌&&◌, Bool, List, false, get_or, length, sym, ◌∙◌, ap, inl, inr, arith}
use Rattle.std.proofs.lemmas.Bool.{cases_eq}
use Rattle.std.proofs.lemmas.List.{get_or-set_other, get_or-set_same, length-set}
use Rattle.bit_slice.specs.BitSlice.{list_of}
use Rattle.bit_matrix.specs.Matrix.{Grid, bit_of, item, sum_mod_2}
use Rattle.bit_matrix.proofs.matrix.Matrix.times_vector_mod_2.Goals as goal

pub loop-row-preserved : goal.loop-row-preserved
loop-row-preserved g c =
    let m : Grid = c.args.self.now in
    let row = c.loop-row.row in
    let was = c.loop-row.invariant in
    let old : List Bool = c.loop-row.product.list in
    let bit = c.row_times_mod_2.result in
    let made = c.set.ensures.list in
    let long = was.len in
    record {
      len = ap length made ∙ length-set old row bit ∙ was.len;
      done = λ i h. elim (cases_eq i row) [
        | inl here ↦
            ap (λ k. sum_mod_2 (λ j. item m k j && bit_of (list_of c.args.vector) j) m.columns) here ∙ sym c.row_times_mod_2.ensures ∙ sym (get_or-set_same old row bit false (omega arith)) ∙ ap (λ l. get_or l row false) (sym made) ∙ ap (bit_of c.set.new.self.list) (sym here)
        | inr apart ↦ was.done i (omega arith) ∙ sym (get_or-set_other old row i bit false apart) ∙ ap (λ l. get_or l i false) (sym made)
      ];
    }
