use Rattle.std.proofs.Common.{◌≡◌, ◌≢◌, ℕ, ◌+◌, ◌-◌, ◌<◌, ◌≤◌, sym, ◌∙◌, ap, inl, inr, arith}
use Rattle.std.proofs.lemmas.Bool.{true≢false, cases_lt}
use Rattle.bit_addressing.specs.Bits.{has_bit}
use Rattle.bit_addressing.specs.Row.{number_bits}
use Rattle.bit_addressing.proofs.Words.{has_none}
use Rattle.bit_slice.specs.BitSlice.{list_of}
use Rattle.bit_slice.specs.Pieces.{part}
use Rattle.bit_slice.proofs.Parts.{view_length}
use Rattle.bit_slice.proofs.Patterns.{has_at, items_of_two}
use Rattle.bit_slice.proofs.slice.BitSlice.skip_words.Given as given
use Rattle.bit_slice.proofs.slice.BitSlice.skip_words.Goals as goal
use Rattle.bit_slice.proofs.slice.BitSlice.skip_words.Goals.{Else-places-ne0}

-- it begins nowhere before the next 64 indices
passed : (g : given.Over) (c : Else-places-ne0 g) → (j : ℕ) → c.args.at ≤ j → j < c.loop-i.i + 64 → j + c.args.m ≤ c.args.self.len → part c.args.m (list_of c.args.self) j ≢ number_bits c.args.pattern c.args.m
passed g c j from below room same =
    let v = c.args.self in
    let xs = list_of v in
    let m = c.args.m in
    let i = c.loop-i.i in
    let kept = c.loop-i.invariant in
    let low = c.loop-i.low in
    let high = c.chunk_at-high.result in
    elim (cases_lt j i) [
      | inl l ↦ kept.3 j from l room same
      | inr l ↦
          let place : i + (j - i) ≡ j = omega arith in
          let near : j - i < 64 = omega arith in
          let here = has_at xs i (j - i) m c.args.pattern low high c.requires.few near (omega (arith, view_length v, room)) (λ q few inside. items_of_two xs i low high kept.2.number c.chunk_at-high.ensures.number q few) (ap (part m xs) place ∙ same) in
          true≢false (sym (c.places.ensures (j - i) near here) ∙ ap (λ x. has_bit x (j - i)) c.if-places-ne0.false ∙ has_none (j - i))
    ]

pub loop-i-preserved : goal.loop-i-preserved
loop-i-preserved g c =
    let kept = c.loop-i.invariant in
    (omega (arith, kept.0), omega arith, c.chunk_at-high.ensures, passed g c)
