use Rattle.std.proofs.Common.{count_by, slice_range, sym, ◌∙◌, ap, arith}
use Rattle.bit_slice.specs.BitSlice.{list_of}
use Rattle.bit_slice.specs.Indices.{next_of}
use Rattle.bit_slice.proofs.Parts.{view_length}
use Rattle.bit_slice.proofs.Places.{places_count}
use Rattle.bit_slice.proofs.slice.indices.IterOnes.count_left.Goals as goal

pub returns : goal.returns
returns g c =
    let s = c.args.self.now in
    let v = s.view in
    c.count_ones.ensures.value ∙ ap (count_by (λ b. b)) (c.get_range.ensures.list ∙ ap (λ n. slice_range (list_of v) n s.upto) c.next_at.ensures)
    ∙ sym (places_count (λ b. b) (list_of v) (next_of s) s.upto (omega (arith, s.fits.0)) (omega (arith, (view_length v), s.fits)))
