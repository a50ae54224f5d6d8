use Rattle.std.proofs.Common.{◌+◌, ◌*◌, count_by, length, map, slice_range, ◌∙◌, ap, arith}
use Rattle.std.proofs.lemmas.List.{length-map}
use Rattle.bit_addressing.specs.Typed.{row}
use Rattle.bit_slice.proofs.Chunked.{word_begins}
use Rattle.bit_slice.proofs.Writing.{chunk_of_list}
use Rattle.bit_ranks.proofs.Blocks.{block_alike}
use Rattle.bit_ranks.proofs.counts.ones_of_block.Goals as goal

pub returns : goal.returns
returns g c =
    let W = g.T.BitStore in
    let P = g.O.BitOrder in
    let v = c.args.view in
    let words = c.as_raw_slice.result.now in
    let at = c.head.result + c.args.at in
    let size = ap (λ n. W.BITS * n) (length-map words W.value ∙ ap length c.as_raw_slice.ensures.words) in
    let begins = word_begins W.BITS at g.met.T.BitStore.width (omega (arith, c.head.ensures.value, c.requires.begins)) in
    block_alike P.place W.BITS (map W.value words) at c.read_block-block.result g.met.T.BitStore.width (g.met.O.BitOrder.lawful W.BITS g.met.T.BitStore.width) begins
    (omega (arith, v.fits.room, c.head.ensures.value, size, c.requires.inside)) c.read_block-block.ensures
    ∙ ap (λ ws. count_by (λ b. b) (slice_range (row W P ws) at (at + 64))) c.as_raw_slice.ensures.words
    ∙ ap (λ h. count_by (λ b. b) (slice_range (row W P v.words.now) (h + c.args.at) (h + c.args.at + 64))) c.head.ensures.value
    ∙ ap (count_by (λ b. b)) (chunk_of_list W P v c.args.at 64 c.requires.inside)

pub read_block-block-requires-clause-begins : goal.read_block-block-requires-clause-begins
read_block-block-requires-clause-begins g c = word_begins g.T.BitStore.BITS (c.head.result + c.args.at) g.met.T.BitStore.width (omega (arith, c.head.ensures.value, c.requires.begins))
