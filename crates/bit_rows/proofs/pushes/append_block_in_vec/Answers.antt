use Rattle.std.proofs.Common.{◌≡◌, ◌+◌, ◌*◌, ◌/◌, ◌++◌, [], ◌∷◌, length, map, slice_range, ◌∙◌, ap, arith}
use Rattle.std.proofs.lemmas.List.{map-append, length_push}
use Rattle.bit_addressing.specs.Row.{row_of}
use Rattle.bit_addressing.specs.Typed.{row}
use Rattle.bit_addressing.proofs.Rows.{row_append, width_positive, length-row_of}
use Rattle.bit_addressing.proofs.Runs.{mul_mono}
use Rattle.bit_addressing.proofs.Packs.{pack_fills}
use Rattle.bit_rows.proofs.Pushed.{all_of, one_more}
use Rattle.bit_rows.proofs.pushes.append_block_in_vec.Goals as goal

pub loop-i-preserved : goal.loop-i-preserved
loop-i-preserved g c =
    let w = g.T.BitStore.BITS in
    let value = g.T.BitStore.value in
    let place = g.O.BitOrder.place in
    let items = c.loop-i.words.items in
    let word = c.word_of_block.result in
    let b = row_of place 64 (c.args.block ∷ []) in
    let positive = width_positive w g.met.T.BitStore.width in
    let whole = pack_fills w g.met.T.BitStore.width in
    let size : length b ≡ 64 * 1 = length-row_of place 64 (c.args.block ∷ []) in
    let count : 64 / c.BITS-i-end.result ≡ 64 / w = ap (λ n. 64 / n) c.BITS-i-end.ensures in
    let most = mul_mono (c.loop-i.i + 1) (64 / w) w (omega arith) in
    let added : row g.T.BitStore g.O.BitOrder c.push_reserved.new.self.items ≡ row g.T.BitStore g.O.BitOrder items ++ row g.T.BitStore g.O.BitOrder (word ∷ []) =
    ap (row g.T.BitStore g.O.BitOrder) c.push_reserved.ensures.items
    ∙ ap (row_of place w) (map-append value items (word ∷ [])) ∙ row_append place w (map value items) (value word ∷ []) positive in
    let more = ap length c.push_reserved.ensures.items ∙ length_push items word in
    let long = c.loop-i.invariant.size in
    record {
      bits = added ∙ one_more (row g.T.BitStore g.O.BitOrder c.args.words.now.items) (row g.T.BitStore g.O.BitOrder items) b (row g.T.BitStore g.O.BitOrder (word ∷ [])) c.loop-i.i w c.loop-i.invariant.bits c.word_of_block.ensures (omega arith);
      size = omega arith;
      capacity = c.push_reserved.ensures.capacity ∙ c.loop-i.invariant.capacity;
    }

pub returns-clause-bits : goal.returns-clause-bits
returns-clause-bits g c =
    let w = g.T.BitStore.BITS in
    let b = row_of g.O.BitOrder.place 64 (c.args.block ∷ []) in
    let whole = pack_fills w g.met.T.BitStore.width in
    let size : length b ≡ 64 * 1 = length-row_of g.O.BitOrder.place 64 (c.args.block ∷ []) in
    let count : 64 / c.BITS-i-end.result ≡ 64 / w = ap (λ n. 64 / n) c.BITS-i-end.ensures in
    let end : c.loop-i.i ≡ 64 / w = omega arith in
    let all : c.loop-i.i * w ≡ 64 = ap (λ n. n * w) end ∙ whole in
    c.loop-i.invariant.bits
    ∙ ap (λ l. row g.T.BitStore g.O.BitOrder c.args.words.now.items ++ l) (ap (slice_range b 0) all ∙ all_of 64 b (omega arith))
