use Rattle.std.proofs.Common.{◌+◌, ◌/◌, ◌%◌, List, length, slice_range, refl, sym, ◌∙◌, ap}
use Rattle.std.specs.List.{refill}
use Rattle.bit_addressing.specs.Row.{words_for}
use Rattle.bit_addressing.proofs.lists.Shown.{length-between}
use Rattle.bit_slice.specs.BitSliceMut.{head_of, len_of}
use Rattle.bit_boxed.specs.Lends.{written_over}
use Rattle.bit_boxed.specs.LendsLeft.{with_words}
use Rattle.bit_boxed.proofs.Leaving.{left_lands}
use Rattle.bit_boxed.proofs.boxed.iter.IntoIter.as_mut_bitslice.Goals as goal

pub returns : goal.returns
returns g c =
    let s = c.self.inside in
    let b = s.inner in
    let inv = c.self.invariant in
    let W = g.T.BitStore in
    let w = W.BITS in
    let view = c.part_mut.result in
    let made = c.part_mut.ensures in (
      (
        refl,
        λ ws.
            let over : List g.row.T.Denot = written_over b.words ((b.head + s.from) / w) ws in
            ap (λ l. record { words = refill (length b.words) b.words over; head = b.head + s.from; list = l }) (left_lands W g.O.BitOrder b.words over b.list b.head s.from s.upto made.fits inv.0 inv.1)
            ∙ ap (λ v. with_words W g.O.BitOrder v (written_over v.words (v.head / w) ws)) c.self.view_is,
      ),
      record {
        writes_back = tt;
        list = made.list ∙ ap (λ v. v.list) c.self.view_is;
        len = made.len ∙ sym (length-between b.list s.from s.upto inv.1) ∙ ap (λ v. length v.list) c.self.view_is;
        head = made.head ∙ ap (λ v. v.head % w) c.self.view_is;
        words = made.words ∙ ap (λ v. slice_range v.words (v.head / w) (v.head / w + words_for w (head_of view + len_of view))) c.self.view_is;
      },
    )
