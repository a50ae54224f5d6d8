use Rattle.std.proofs.Common.{ℕ, ◌+◌, ◌*◌, ◌/◌, ◌%◌, ◌<◌, eqb, refl, ◌∙◌, ap, arith, ◌&&◌}
use Rattle.std.proofs.Math.Nat.{mod-lt}
use Rattle.bit_addressing.proofs.Rows.{width_positive}
use Rattle.bit_addressing.proofs.Tables.{fours, pair_made}
use Rattle.bit_addressing.proofs.Words.{has_or}
use Rattle.bit_addressing.proofs.pair_table.PairTable.window.Goals as goal

pub returns : goal.returns
returns g c =
    let w = g.T.BitStore.BITS in
    let u = g.U.BitStore.BITS in
    let place = g.O.BitOrder.place in
    let given = g.P.BitOrder.place in
    let low = g.U.BitStore.value c.args.low in
    let high = g.U.BitStore.value c.args.high in
    let positive = width_positive w g.met.T.BitStore.width in
    λ at i h k table.
    let j : ℕ = at + i in
    let s : ℕ = given w (j % w) in
    let lawful = g.met.O.BitOrder.lawful w g.met.T.BitStore.width in
    let there = g.met.P.BitOrder.lawful w g.met.T.BitStore.width in
    let inside : s < w = there.in_range (j % w) (mod-lt j positive) in
    let within : s < u = omega (arith, c.requires.width) in
    let grouped : s < 4 * (w / 4) = fours w s g.met.T.BitStore.width inside in
    let q : ℕ = place w i in
    let below : q < w = lawful.in_range i k in
    let taken = table i k in
    let first = c.taken.ensures s q (eqb (j / w) 0) (omega arith) taken.0 ∙ ap (λ x. eqb (j / w) 0 && x) (c.to_u64.ensures.low s within) in
    let second = c.taken-2.ensures s q (eqb (j / w) 1) (omega arith) taken.1 ∙ ap (λ x. eqb (j / w) 1 && x) (c.to_u64-2.ensures.low s within) in
    pair_made place given w at i low high c.taken.result c.taken-2.result (g.T.BitStore.value c.from_u64.result) h k
    (c.from_u64.ensures q below ∙ has_or c.taken.result c.taken-2.result q) first second
    ∙ rw c.requires.width refl
