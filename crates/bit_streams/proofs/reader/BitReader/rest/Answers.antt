use Rattle.std.proofs.Common.{◌≡◌, ◌-◌, ◌*◌, length, slice_range, ◌∙◌, ap, arith}
use Rattle.bit_addressing.specs.Typed.{row}
use Rattle.bit_addressing.proofs.Typed.{length_row}
use Rattle.bit_streams.proofs.Windows.{rest_taken}
use Rattle.bit_streams.proofs.reader.BitReader.rest.Goals as goal

pub returns : goal.returns
returns g c =
    let i = c.self.inside in
    let r = c.self.invariant.reading in
    let rows = row g.T.BitStore g.O.BitOrder i.words.now in
    let w = g.T.BitStore.BITS in
    let count = length i.words.now in
    let long : length rows ≡ w * count = length_row g.T.BitStore.value g.O.BitOrder.place w i.words.now in
    let within = r.within in
    let begins = r.begins in
    c.get_range.ensures.list ∙ ap (λ l. slice_range l (i.end - i.left - i.start) (i.end - i.start)) c.from_parts-all.ensures.list
    ∙ rest_taken rows i.start (i.end - i.left) i.end (omega arith) (omega arith) (omega arith) ∙ ap (λ v. v.rest) c.self.view_is
