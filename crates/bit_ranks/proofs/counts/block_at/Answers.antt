use Rattle.std.proofs.Common.{◌+◌, slice_range, ◌∙◌, ap, arith}
use Rattle.bit_addressing.specs.Row.{number_of}
use Rattle.bit_addressing.specs.Typed.{row}
use Rattle.bit_slice.proofs.Chunked.{word_begins}
use Rattle.bit_slice.proofs.Writing.{chunk_of_list}
use Rattle.bit_ranks.proofs.counts.block_at.Goals as goal

pub returns : goal.returns
returns g c =
    let W = g.T.BitStore in
    let P = g.O.BitOrder in
    let v = c.args.view in
    c.read_block.ensures
    ∙ ap (λ ws. number_of (slice_range (row W P ws) (c.head.result + c.args.at) (c.head.result + c.args.at + 64))) c.as_raw_slice.ensures.words
    ∙ ap (λ h. number_of (slice_range (row W P v.words.now) (h + c.args.at) (h + c.args.at + 64))) c.head.ensures.value
    ∙ ap number_of (chunk_of_list W P v c.args.at 64 c.requires.inside)

pub read_block-requires-clause-begins : goal.read_block-requires-clause-begins
read_block-requires-clause-begins g c = word_begins g.T.BitStore.BITS (c.head.result + c.args.at) g.met.T.BitStore.width (omega (arith, c.head.ensures.value, c.requires.begins))
