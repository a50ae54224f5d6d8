use Rattle.std.proofs.Common.{◌≡◌, ◌-◌, ◌*◌, ◌/◌, ◌%◌, ◌^◌, ◌<◌, sym, subst, arith}
use Rattle.std.proofs.Math.Pow.{pow_mono}
use Rattle.bit_streams.specs.Streamed.{Stays, bits_made}
use Rattle.bit_streams.proofs.Held.{first_put, high_part, wide_rest}
use Rattle.bit_streams.proofs.Windows.{front_below}
use Rattle.bit_streams.proofs.sink.BitSink.push_some.Goals as goal

pub give_number-requires-clause-small : goal.give_number-requires-clause-small
give_number-requires-clause-small g c =
    let i = c.self.inside in
    let rest : i.held - 8 * (i.held / 8) ≡ i.held % 8 = omega arith in
    subst (λ k. i.pending / 2 ^ k < 2 ^ (8 * (i.held / 8))) rest (front_below i.held (8 * (i.held / 8)) i.pending (omega arith) c.self.invariant.small)

pub overflow_cast-number-2 : goal.overflow_cast-number-2
overflow_cast-number-2 g c =
    let i = c.self.inside in
    let few = c.self.invariant.few in
    let rest : i.held - 8 * (i.held / 8) ≡ i.held % 8 = omega arith in
    let below = subst (λ k. i.pending / 2 ^ k < 2 ^ (8 * (i.held / 8))) rest (front_below i.held (8 * (i.held / 8)) i.pending (omega arith) c.self.invariant.small) in
    let most = pow_mono {i = 8 * (i.held / 8)} {j = 64} (omega arith) in
    omega (arith, below, most)

pub returns-in-Ok-clause-list : goal.returns-in-Ok-clause-list
returns-in-Ok-clause-list g c =
    let i = c.self.inside in
    let place = g.O.BitOrder.place in
    let taken = c.in-Ok.taken in
    let within = c.in-Ok.ensures.within in
    let left = i.held - 8 * taken in
    let more = 8 * (i.held / 8) - 8 * taken in
    let few = c.self.invariant.few in
    let new = g.W.Write.contents c.give_number.new.inner in
    let whole = high_part i.pending (i.held % 8) more left (omega (arith, within)) in
    subst (λ k. Stays c.args.self.now.list (bits_made place left k new)) (sym (wide_rest left i.pending (omega arith)))
    (subst (λ v. Stays v.list (bits_made place left (i.pending % 2 ^ left) new)) c.self.view_is
    (first_put place (g.W.Write.contents i.inner) new i.held i.pending (8 * taken) left (i.pending / 2 ^ (i.held % 8) / 2 ^ more) (omega (arith, within)) whole c.in-Ok.ensures.ok))
