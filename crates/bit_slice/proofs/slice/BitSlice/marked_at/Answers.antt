use Rattle.std.proofs.Common.{◌≡◌, ◌+◌, map, true, slice_range, sym, ap, ◌∙◌, arith}
use Rattle.std.proofs.lemmas.List.{map-id}
use Rattle.bit_addressing.specs.Row.{number_of}
use Rattle.bit_slice.specs.BitSlice.{list_of}
use Rattle.bit_slice.specs.Numbered.{is_bit}
use Rattle.bit_slice.proofs.Numbered.{flipped}
use Rattle.bit_slice.proofs.Parts.{view_length}
use Rattle.bit_addressing.proofs.lists.Shown.{length-run}
use Rattle.bit_slice.proofs.slice.BitSlice.marked_at.Goals as goal

pub returns-then-bit : goal.returns-then-bit
returns-then-bit g c =
    let xs = slice_range (list_of c.args.self) c.args.at (c.args.at + c.args.n) in
    let same : number_of xs ≡ number_of (map (is_bit true) xs) = ap number_of (sym (map-id xs)) in
    c.chunk_at-number.ensures.number ∙ same ∙ ap (λ b. number_of (map (is_bit b) xs)) (sym c.if-bit.true)

pub returns-else-bit : goal.returns-else-bit
returns-else-bit g c =
    let xs = slice_range (list_of c.args.self) c.args.at (c.args.at + c.args.n) in
    let inside = c.requires.inside in
    let size = length-run (list_of c.args.self) c.args.at c.args.n (omega (arith, view_length c.args.self)) in
    flipped xs c.args.n c.chunk_at-number.result size c.requires.some c.requires.few c.chunk_at-number.ensures.number
    ∙ ap (λ b. number_of (map (is_bit b) xs)) (sym c.if-bit.false)
