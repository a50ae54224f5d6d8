use Rattle.std.proofs.Common.{◌≡◌, ◌+◌, ◌-◌, ◌*◌, false, ◌++◌, ◌⊎◌, inl, inr, length, replicate, sym, ◌∙◌, ap, arith}
use Rattle.std.proofs.lemmas.Bool.{cases_lt}
use Rattle.bit_addressing.specs.Typed.{row}
use Rattle.bit_addressing.proofs.Typed.{length_row}
use Rattle.bit_streams.proofs.Padded.{digits_padded, padded_begin}
use Rattle.bit_streams.proofs.reader.last_bits.Goals as goal

pub returns : goal.returns
returns g c =
    let rows = row g.T.BitStore g.O.BitOrder c.args.words.now in
    let long : length rows ≡ g.T.BitStore.BITS * length c.args.words.now = length_row g.T.BitStore.value g.O.BitOrder.place g.T.BitStore.BITS c.args.words.now in
    let size : length c.args.words.now * c.BITS.result ≡ g.T.BitStore.BITS * length c.args.words.now = grind arith in
    let n = c.min-n.result in
    let least = c.min-n.ensures in
    let inside = c.requires.inside in
    let end : (n ≡ 64) ⊎ (c.args.at + n ≡ length rows) = elim (cases_lt 64 (length c.args.words.now * c.BITS.result - c.args.at)) [
      | inl l ↦ inl (omega arith)
      | inr l ↦ inr (omega arith)
    ] in
    digits_padded n c.read_binary.result (omega arith) c.read_binary.ensures.below
    ∙ ap (λ l. l ++ replicate (64 - n) false) c.read_binary.ensures.digits
    ∙ sym (padded_begin rows c.args.at n (omega arith) (omega arith) end)

pub overflow_mul-words : goal.overflow_mul-words
overflow_mul-words g c =
    let size : length c.args.words.now * c.BITS.result ≡ g.T.BitStore.BITS * length c.args.words.now = grind arith in
    let fits = c.requires.fits in
    omega (arith, size, fits)
