use Rattle.std.proofs.Common.{◌≡◌, ℕ, ◌+◌, ◌*◌, ap, arith}
use Rattle.bit_addressing.specs.Typed.{row}
use Rattle.bit_addressing.proofs.Chunks.{whole_is}
use Rattle.bit_rows.proofs.Wholes.{word_follows}
use Rattle.bit_rows.proofs.chunks.word_after_by_bits.Goals as goal

pub word_of_window-requires-clause-word : goal.word_of_window-requires-clause-word
word_of_window-requires-clause-word g c = word_follows c.args.begin c.args.t c.args.skip (omega arith) c.requires.source

pub word_by_bits-requires-clause-word : goal.word_by_bits-requires-clause-word
word_by_bits-requires-clause-word g c = word_follows c.args.begin c.args.t c.args.skip (omega arith) c.requires.source

pub returns : goal.returns
returns g c =
    let w = g.T.BitStore.BITS in
    let u = g.U.BitStore.BITS in
    let begin = c.args.begin in
    let skip = c.args.skip in
    let t = c.args.t in
    let zs = row g.U.BitStore g.P.BitOrder c.args.source.now in
    let at : ℕ = c.in_row.result + c.in_row-2.result in
    let from : begin * u + skip + t * w ≡ at = omega arith in
    whole_is g.O.BitOrder.place w (g.T.BitStore.value c.word_of_run.result) zs c.BITS-3.result at (begin * u + skip + t * w) (begin * u + skip + t * w + w) c.BITS-3.ensures from (ap (λ n. n + w) from) c.word_of_run.ensures
