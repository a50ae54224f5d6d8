use Rattle.std.proofs.Common.{◌≡◌, ◌+◌, ◌*◌, ◌%◌, ◌^◌, ◌<◌, sym, ap, subst, arith}
use Rattle.bit_addressing.specs.Row.{binary}
use Rattle.bit_streams.specs.Streamed.{Gains, bits_made}
use Rattle.bit_streams.proofs.Held.{more_held}
use Rattle.bit_streams.proofs.Lists.{joined_below}
use Rattle.bit_streams.proofs.sink.BitSink.hold.Goals as goal

pub invariant_of-self : goal.invariant_of-self
invariant_of-self g c =
    let i = c.self.inside in
    let n = c.args.n in
    let room = c.requires.room in
    let held : i.held ≡ c.args.self.now.held = ap (λ v. v.held) c.self.view_is in
    record { few = omega arith; small = subst (λ k. k < 2 ^ (i.held + n)) (sym c.held_with-self-inside.ensures) (joined_below i.held n i.pending c.args.x c.self.invariant.small) }

pub returns-clause-list : goal.returns-clause-list
returns-clause-list g c =
    let i = c.self.inside in
    let n = c.args.n in
    let place = g.O.BitOrder.place in
    let bytes = g.W.Write.contents i.inner in
    subst (λ k. Gains c.args.self.now.list (bits_made place (i.held + n) k bytes) (binary n c.args.x)) (sym c.held_with-self-inside.ensures)
    (subst (λ v. Gains v.list (bits_made place (i.held + n) (i.pending * 2 ^ n + c.args.x % 2 ^ n) bytes) (binary n c.args.x)) c.self.view_is (more_held place bytes i.held i.pending n c.args.x))
