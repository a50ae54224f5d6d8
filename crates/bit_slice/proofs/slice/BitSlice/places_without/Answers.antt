use Rattle.std.proofs.Common.{◌<◌, w64, sym, ◌∙◌, arith}
use Rattle.std.proofs.lemmas.Bool.{true≢false}
use Rattle.std.proofs.lemmas.Nat.{trailing_le}
use Rattle.bit_rows.proofs.Lowest.{has_below_lowest}
use Rattle.bit_slice.specs.BitSlice.{list_of}
use Rattle.bit_slice.proofs.Parts.{view_length}
use Rattle.bit_slice.proofs.Patterns.{has_at}
use Rattle.bit_slice.proofs.slice.BitSlice.places_without.Goals as goal

pub returns-clause-none : goal.returns-clause-none
returns-clause-none g c j below room same =
    let v = c.args.self in
    let left = c.places.result in
    let near : j < 64 = omega (arith, below, trailing_le 64 left) in
    let size = view_length v in
    let here = has_at (list_of v) c.args.at j c.args.m c.args.pattern _ _ c.requires.few near (omega (arith, size, room)) (λ q few inside. c.two_chunks-low.ensures q few (omega (arith, size, inside))) same in
    true≢false (sym (c.places.ensures j near here) ∙ has_below_lowest w64 left c.places.type_inv j below)
