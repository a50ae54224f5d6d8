use Rattle.bit_streams.proofs.Leading.{begun_last, begun_none, begun_on}
use Rattle.bit_streams.proofs.codes.leb128.first_bytes.Goals as goal

pub loop-i-init : goal.loop-i-init
loop-i-init c = begun_none c.args.x

pub returns-then-left-lt128-clause-whole : goal.returns-then-left-lt128-clause-whole
returns-then-left-lt128-clause-whole c none = (begun_last c.args.x c.loop-i.i c.loop-i.code c.loop-i.left c.loop-i-test.true c.if-left-lt128.true c.loop-i.invariant).0

pub loop-i-preserved : goal.loop-i-preserved
loop-i-preserved c = begun_on c.args.x c.loop-i.i c.loop-i.code c.loop-i.left c.loop-i-test.true c.if-left-lt128.false c.loop-i.invariant
