use Rattle.std.proofs.Common.{◌*◌, arith}
use Rattle.bit_streams.specs.Streamed.{bits_left}
use Rattle.bit_streams.proofs.Held.{end_left, none_taken, stays_on, too_few}
use Rattle.bit_streams.proofs.source.read_on.Goals as goal

pub returns-then-bytes-eq0-clause-kept : goal.returns-then-bytes-eq0-clause-kept
returns-then-bytes-eq0-clause-kept g c =
    let place = g.O.BitOrder.place in
    let old = c.loop.inner.left in
    let new = c.next.new.self.left in
    let none = c.if-bytes-eq0.true in
    stays_on (bits_left place c.args.count c.args.pending c.args.inner.now.left) (bits_left place c.loop.count c.loop.pending old) (bits_left place c.loop.count c.loop.pending new) c.loop.invariant.rest
    (none_taken place old new c.loop.count c.loop.pending (8 * c.in-Ok.next.1) c.in-Ok.next.0 (omega arith) c.in-Ok.ensures.bits)

pub returns-then-bytes-eq0-clause-ended : goal.returns-then-bytes-eq0-clause-ended
returns-then-bytes-eq0-clause-ended g c is =
    let place = g.O.BitOrder.place in
    let old = c.loop.inner.left in
    too_few (bits_left place c.args.count c.args.pending c.args.inner.now.left) (bits_left place c.loop.count c.loop.pending old) c.loop.count c.args.n c.loop.invariant.rest
    (end_left place old c.loop.count c.loop.pending (c.in-Ok.ensures.end c.if-bytes-eq0.true)) c.loop.invariant.need
