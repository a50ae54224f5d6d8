use Rattle.std.proofs.Common.{◌≡◌, ◌+◌, ◌*◌, ◌/◌, ◌%◌, [], ◌∷◌, slice_range, sym, ◌∙◌, ap}
use Rattle.std.proofs.lemmas.Nat.{div-add-mod'}
use Rattle.bit_addressing.specs.Row.{number_bits, put}
use Rattle.bit_addressing.specs.Typed.{row}
use Rattle.bit_addressing.proofs.lists.Put.{put_none}
use Rattle.bit_rows.proofs.Binary.{number_bits_none}
use Rattle.bit_addressing.proofs.Chunks.{lowest_bits}
use Rattle.bit_rows.proofs.chunks.write_chunk.Goals as goal

pub returns-then-n-eq0-clause-bits : goal.returns-then-n-eq0-clause-bits
returns-then-n-eq0-clause-bits g c =
    let old = row g.T.BitStore g.O.BitOrder c.args.words.now in
    sym (ap (put old c.args.at) (ap (number_bits c.args.chunk) c.if-n-eq0.true ∙ number_bits_none c.args.chunk) ∙ put_none old c.args.at)

pub returns-clause-bits : goal.returns-clause-bits
returns-clause-bits g c =
    let old = row g.T.BitStore g.O.BitOrder c.args.words.now in
    let d = div-add-mod' c.args.at c.BITS-width.result in
    let begin : c.args.at / c.BITS-width.result * g.T.BitStore.BITS + c.args.at % c.BITS-width.result ≡ c.args.at = ap (λ w. c.args.at / c.BITS-width.result * w + c.args.at % c.BITS-width.result) (sym c.BITS-width.ensures) ∙ d in
    c.write_part.ensures.bits
    ∙ ap (λ m. put old m (slice_range (row g.T.BitStore g.O.BitOrder (c.word_of_run-new.result ∷ [])) (c.args.at % c.BITS-width.result) (c.args.at % c.BITS-width.result + c.args.n))) begin
    ∙ ap (put old c.args.at) (c.word_of_run-new.ensures ∙ lowest_bits c.args.chunk c.args.n c.requires.few)
