use Rattle.std.proofs.Common.{◌≡◌, ◌*◌, length, slice_range, sym, ◌∙◌, ap, arith}
use Rattle.bit_addressing.specs.Typed.{row}
use Rattle.bit_addressing.proofs.Typed.{length_row}
use Rattle.bit_addressing.proofs.lists.Shown.{length-between}
use Rattle.bit_array.proofs.array.iter.IntoIter.as_mut_bitslice.Goals as goal

pub returns : goal.returns
returns g c =
    let s = c.self.inside in
    let w = g.A.Store.BitStore.BITS in
    let ws = g.A.BitWords.words s.array in
    let bits = row g.A.Store.BitStore g.O.BitOrder in
    let size : length (bits ws) ≡ w * g.A.BitWords.count = length_row g.A.Store.BitStore.value g.O.BitOrder.place w ws ∙ ap (λ n. w * n) (sym (ap length c.as_raw_mut_slice.ensures.words) ∙ c.as_raw_mut_slice.ensures.len) in
    record {
      list = c.run_mut.ensures.list ∙ ap (λ l. slice_range (bits l) s.from s.upto) c.as_raw_mut_slice.ensures.words ∙ c.self.view_is;
      len = c.run_mut.ensures.len ∙ sym (length-between (bits ws) s.from s.upto (omega (arith, c.self.invariant.1, size))) ∙ ap length c.self.view_is;
    }
