use Rattle.std.proofs.Common.{not, count_by, sym, ◌∙◌, ap, arith}
use Rattle.bit_slice.specs.BitSlice.{list_of}
use Rattle.bit_slice.proofs.Parts.{view_length}
use Rattle.bit_slice.proofs.Places.{places_count}
use Rattle.bit_slice.proofs.slice.indices.IterZeros.count_left.Goals as goal

pub returns : goal.returns
returns g c =
    let s = c.args.self.now in
    let v = s.view in
    c.count_zeros.ensures.value ∙ ap (count_by not) c.get_range.ensures.list ∙ sym (places_count not (list_of v) s.from s.upto s.fits.0 (omega (arith, (view_length v), s.fits)))
