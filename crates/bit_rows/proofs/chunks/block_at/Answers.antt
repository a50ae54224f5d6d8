use Rattle.std.proofs.Common.{◌≡◌, ◌+◌, ◌*◌, ◌/◌, [], ◌∷◌, length, slice_range, ◌∙◌, ap, arith}
use Rattle.bit_addressing.specs.Row.{row_bit}
use Rattle.bit_addressing.specs.Typed.{row}
use Rattle.bit_addressing.proofs.Blocks.{block_is}
use Rattle.bit_addressing.proofs.Packs.{pack_fills}
use Rattle.bit_addressing.proofs.Rows.{width_small}
use Rattle.bit_addressing.proofs.Typed.{length_row}
use Rattle.bit_addressing.proofs.lists.Sized.{right_sum}
use Rattle.bit_rows.proofs.chunks.block_at.Goals as goal

pub returns : goal.returns
returns g c =
    let u = g.U.BitStore.BITS in
    let place = g.P.BitOrder.place in
    let k = c.args.k in
    let skip = c.args.skip in
    let source = c.args.source.now in
    let zs = row g.U.BitStore g.P.BitOrder source in
    let low = c.pack-low.result in
    let high = c.pack-high.result in
    let long : length zs ≡ u * length source = length_row g.U.BitStore.value place u source in
    let small = width_small u g.met.U.BitStore.width in
    let fills : 64 / u * u ≡ 64 = pack_fills u g.met.U.BitStore.width in
    let next : (k + 64 / u) * u ≡ k * u + 64 = right_sum k (64 / u) u ∙ ap (λ n. k * u + n) fills in
    let same : k + 64 / c.BITS.result ≡ k + 64 / u = ap (λ n. k + 64 / n) c.BITS.ensures in
    block_is place g.O.BitOrder.place low high c.window-word.result c.to_lsb0.result c.from_lsb0.result (k * u) ((k + 64 / u) * u) skip zs (omega arith) next (omega arith)
    c.pack-low.ensures (c.pack-high.ensures ∙ ap (λ n. slice_range zs (n * u) (n * u + 64)) same)
    (λ i h. c.window-word.ensures i h ∙ ap (λ n. row_bit place 64 (low ∷ high ∷ []) (n + i)) c.new_unchecked.ensures)
    c.to_lsb0.ensures c.from_lsb0.ensures

pub new_unchecked-requires : goal.new_unchecked-requires
new_unchecked-requires g c = let small = width_small _ g.met.U.BitStore.width in omega (arith, c.requires.within)

pub pack-high-requires : goal.pack-high-requires
pack-high-requires g c =
    let u = g.U.BitStore.BITS in
    let fills : 64 / u * u ≡ 64 = pack_fills u g.met.U.BitStore.width in
    let sum = right_sum c.args.k (64 / u) u in
    rw c.BITS.ensures (omega arith)
