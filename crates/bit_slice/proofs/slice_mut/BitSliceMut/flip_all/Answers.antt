use Rattle.std.proofs.Common.{◌+◌, map, not, slice_range, sym, ◌∙◌, ap}
use Rattle.std.proofs.lemmas.List.{length-map}
use Rattle.bit_addressing.specs.Typed.{row}
use Rattle.bit_slice.proofs.Parts.{in_row, row_size, shown_length}
use Rattle.bit_slice.proofs.Shown.{shown_filled, put_all}
use Rattle.bit_slice.specs.BitSliceMut.{list_of}
use Rattle.bit_slice.proofs.slice_mut.BitSliceMut.flip_all.Goals as goal

pub returns-clause-list : goal.returns-clause-list
returns-clause-list g c =
    let v = c.args.self.now in
    let old = row g.T.BitStore g.O.BitOrder v.words.now in
    let size = shown_length g.T.BitStore g.O.BitOrder v.words.now v.head v.len v.fits.room in
    ap (λ r. slice_range r v.head (v.head + v.len)) c.flip_bits.ensures.bits
    ∙ shown_filled old (map not (list_of v)) v.head v.len (sym (length-map (list_of v) not ∙ size)) (in_row g.T.BitStore g.O.BitOrder v.words.now (v.head + v.len) v.fits.room)

pub returns-clause-whole : goal.returns-clause-whole
returns-clause-whole g c h l =
    let v = c.args.self.now in
    let old = row g.T.BitStore g.O.BitOrder v.words.now in
    let size = shown_length g.T.BitStore g.O.BitOrder v.words.now v.head v.len v.fits.room in
    c.flip_bits.ensures.bits ∙ put_all old (map not (list_of v)) v.head h (length-map (list_of v) not ∙ size ∙ l ∙ sym (row_size g.T.BitStore g.O.BitOrder v.words.now))
