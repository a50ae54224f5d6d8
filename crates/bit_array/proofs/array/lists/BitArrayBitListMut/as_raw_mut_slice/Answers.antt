use Rattle.std.proofs.Common.{◌*◌, refl, ap, sym, ◌∙◌, arith}
use Rattle.bit_addressing.specs.Typed.{row}
use Rattle.bit_slice.proofs.Parts.{all_shown}
use Rattle.bit_array.proofs.array.lists.BitArrayBitListMut.as_raw_mut_slice.Goals as goal

pub returns : goal.returns
returns g c =
    let W = g.A.Store.BitStore in
    let P = g.O.BitOrder in
    let e = c.as_raw_mut_slice.ensures in (
      (refl, λ w. refl),
      record {
        writes_back = tt;
        value = e.words;
        len = e.len;
        row = ap (row W P) e.words;
        fits = rw e.len (omega arith);
        few = rw e.len (omega (arith, e.few));
        shows = all_shown W P c.as_raw_mut_slice.result.now (W.BITS * g.A.BitWords.count) (ap (λ n. W.BITS * n) (sym e.len)) ∙ ap (row W P) e.words;
      },
    )
