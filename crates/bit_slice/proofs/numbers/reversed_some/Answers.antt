use Rattle.std.proofs.Common.{arith}
use Rattle.bit_rows.proofs.Binary.{chunk_of, digits_below}
use Rattle.bit_slice.proofs.Signed.{turned_digits}
use Rattle.bit_slice.proofs.numbers.reversed_some.Goals as goal

pub returns-clause-written : goal.returns-clause-written
returns-clause-written c = turned_digits c.args.n c.args.x c.reverse.result c.requires.some c.requires.few c.reverse.ensures

pub returns-clause-read : goal.returns-clause-read
returns-clause-read c = chunk_of c.args.n c.args.x c.reverse.result c.requires.some c.requires.few c.reverse.ensures

pub returns-clause-below : goal.returns-clause-below
returns-clause-below c = digits_below c.args.n c.args.x c.reverse.result c.requires.some c.requires.few c.reverse.ensures (omega arith)
