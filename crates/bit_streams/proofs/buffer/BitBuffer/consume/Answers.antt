use Rattle.std.proofs.Common.{◌+◌, drop, take, subst}
use Rattle.bit_streams.specs.Buffers.{bits_ahead}
use Rattle.bit_streams.specs.Streamed.{Passes}
use Rattle.bit_streams.proofs.Buffers.{held_passed}
use Rattle.bit_streams.proofs.buffer.BitBuffer.consume.Goals as goal

pub returns-clause-rest : goal.returns-clause-rest
returns-clause-rest g c =
    let i = c.self.inside in
    let place = g.O.BitOrder.place in
    let bytes = g.R.Read.remaining i.inner in
    subst (λ v. Passes v.rest (bits_ahead place (drop (i.passed + c.args.n) i.bits.list) bytes) (take c.args.n v.held)) c.self.view_is (held_passed place bytes i.passed c.args.n i.bits.list)
