use Rattle.std.proofs.Common.{◌≡◌, [], ◌∷◌, length, ◌∙◌, arith}
use Rattle.bit_addressing.specs.Row.{row_of}
use Rattle.bit_addressing.proofs.Rows.{length-row_of}
use Rattle.bit_streams.proofs.Held.{row_more}
use Rattle.bit_streams.proofs.Lists.{slice_whole}
use Rattle.bit_streams.proofs.register.bytes_of.Goals as goal

pub returns : goal.returns
returns g c =
    let place = g.O.BitOrder.place in
    let b = row_of place 64 (c.block_of-block.result ∷ []) in
    let long : length b ≡ 64 = length-row_of place 64 (c.block_of-block.result ∷ []) in
    let one = c.word_of_block.result in
    let two = c.word_of_block-2.result in
    let three = c.word_of_block-3.result in
    let four = c.word_of_block-4.result in
    let five = c.word_of_block-5.result in
    let six = c.word_of_block-6.result in
    let seven = c.word_of_block-7.result in
    let upto2 = row_more place (one ∷ []) two b 8 c.word_of_block.ensures c.word_of_block-2.ensures (omega arith) in
    let upto3 = row_more place (one ∷ two ∷ []) three b 16 upto2 c.word_of_block-3.ensures (omega arith) in
    let upto4 = row_more place (one ∷ two ∷ three ∷ []) four b 24 upto3 c.word_of_block-4.ensures (omega arith) in
    let upto5 = row_more place (one ∷ two ∷ three ∷ four ∷ []) five b 32 upto4 c.word_of_block-5.ensures (omega arith) in
    let upto6 = row_more place (one ∷ two ∷ three ∷ four ∷ five ∷ []) six b 40 upto5 c.word_of_block-6.ensures (omega arith) in
    let upto7 = row_more place (one ∷ two ∷ three ∷ four ∷ five ∷ six ∷ []) seven b 48 upto6 c.word_of_block-7.ensures (omega arith) in
    row_more place (one ∷ two ∷ three ∷ four ∷ five ∷ six ∷ seven ∷ []) c.word_of_block-8.result b 56 upto7 c.word_of_block-8.ensures (omega arith)
    ∙ slice_whole 64 b long ∙ c.block_of-block.ensures
