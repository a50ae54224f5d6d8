use Rattle.std.proofs.Common.{arith}
use Rattle.bit_lines.proofs.Going.{byte_more, byte_stops}
use Rattle.bit_lines.proofs.session.Session.take_bytes.Goals as goal

pub returns-in-Err-clause-ended : goal.returns-in-Err-clause-ended
returns-in-Err-clause-ended g c =
    byte_stops c.args.self.now c.loop-count.self c.take_byte.new.self c.args.bytes.now c.loop-count.count c.loop-count-test.true c.loop-count.invariant.advances c.in-Err.ending c.in-Err.ensures.ended

pub returns-then-waiting-ge-FULL-clause-ok : goal.returns-then-waiting-ge-FULL-clause-ok
returns-then-waiting-ge-FULL-clause-ok g c =
    byte_more c.args.self.now c.loop-count.self c.take_byte.new.self c.args.bytes.now c.loop-count.count c.loop-count-test.true c.loop-count.invariant.advances c.in_default.ensures.ok

pub loop-count-preserved : goal.loop-count-preserved
loop-count-preserved g c = record {
  advances = byte_more c.args.self.now c.loop-count.self c.take_byte.new.self c.args.bytes.now c.loop-count.count c.loop-count-test.true c.loop-count.invariant.advances c.in_default.ensures.ok;
  number = omega (arith, c.in_default.ensures.number);
}
