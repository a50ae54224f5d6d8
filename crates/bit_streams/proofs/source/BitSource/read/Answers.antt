use Rattle.std.proofs.Common.{◌-◌, ◌/◌, ◌%◌, ◌^◌, sym, subst, arith}
use Rattle.bit_addressing.specs.Row.{binary}
use Rattle.bit_streams.specs.Streamed.{Passes, bits_left}
use Rattle.bit_streams.proofs.Held.{front_taken}
use Rattle.bit_streams.proofs.Windows.{front_below}
use Rattle.bit_streams.proofs.source.BitSource.read.Goals as goal

pub returns-then-n-self-clause-digits : goal.returns-then-n-self-clause-digits
returns-then-n-self-clause-digits g c =
    let i = c.self.inside in
    let place = g.O.BitOrder.place in
    let bytes = i.inner.left in
    let left = i.count - c.args.n in
    let within = c.if-n-self.true in
    subst (λ k. Passes c.args.self.now.rest (bits_left place left k bytes) (binary c.args.n (i.pending / 2 ^ left))) (sym c.low_digits-self-inside.ensures)
    (subst (λ v. Passes v.rest (bits_left place left (i.pending % 2 ^ left) bytes) (binary c.args.n (i.pending / 2 ^ left))) c.self.view_is (front_taken place bytes i.count i.pending c.args.n left (omega arith)))

pub returns-then-n-self-clause-below : goal.returns-then-n-self-clause-below
returns-then-n-self-clause-below g c = front_below c.self.inside.count c.args.n c.self.inside.pending c.if-n-self.true c.self.invariant.small
