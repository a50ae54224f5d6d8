use Rattle.bit_slice.proofs.Signed.{none_turned}
use Rattle.bit_slice.proofs.numbers.reversed.Goals as goal

pub returns-then-n-eq0-clause-written : goal.returns-then-n-eq0-clause-written
returns-then-n-eq0-clause-written c = (none_turned c.args.n c.args.x c.if-n-eq0.true).0

pub returns-then-n-eq0-clause-read : goal.returns-then-n-eq0-clause-read
returns-then-n-eq0-clause-read c = (none_turned c.args.n c.args.x c.if-n-eq0.true).1
