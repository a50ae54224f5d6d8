use Rattle.std.proofs.Common.{◌≡◌, ℕ, ◌+◌, ◌-◌, min, w64, ◌∷◌, ap, refl, sym, true, ◌∙◌, arith, bit_and}
use Rattle.std.specs.Int.{trailing_zeros}
use Rattle.bit_slice.specs.BitSlice.{list_of}
use Rattle.bit_slice.specs.Places.{places_between}
use Rattle.bit_slice.proofs.Chunked.{chunk_after, first_inside, first_set, next_after, none_until}
use Rattle.bit_slice.proofs.Places.{places_from, places_later}
use Rattle.bit_slice.proofs.slice.indices.IterOnes.take_first.Goals as goal

pub invariant_of-self : goal.invariant_of-self
invariant_of-self g c =
    let s = c.args.self.now in
    record { fits = s.fits; read = chunk_after (list_of s.view) s.base s.end s.chunk s.read c.requires (omega arith); blocks = s.blocks }

pub returns : goal.returns
returns g c =
    let s = c.args.self.now in
    let xs = list_of s.view in
    let first : ℕ = s.base + trailing_zeros w64 s.chunk in
    let inside = first_inside xs s.base s.end s.chunk s.read c.requires (omega arith) in
    let next = next_after xs s.base s.end s.chunk s.read c.requires (omega arith) in
    let here : min s.end first ≡ first = omega arith in
    ap (λ n. places_between (λ b. b) xs n s.upto) here
    ∙ places_from (λ b. b) xs first s.upto (omega (arith, s.fits.0)) (first_set xs s.base s.end s.chunk s.read c.requires (omega arith))
    ∙ ap (λ l. first ∷ l) (sym (places_later (λ b. b) true refl refl xs (first + 1) (min s.end (s.base + trailing_zeros w64 (bit_and s.chunk (s.chunk - 1)))) s.upto next (omega (arith, s.fits.0))
    (none_until xs s.base s.end s.chunk s.read c.requires (omega arith))))
