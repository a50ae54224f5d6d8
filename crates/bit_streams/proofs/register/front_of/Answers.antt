use Rattle.bit_streams.proofs.Windows.{front_digits, front_below}
use Rattle.bit_streams.proofs.register.front_of.Goals as goal

pub returns-clause-digits : goal.returns-clause-digits
returns-clause-digits c = front_digits c.args.count c.args.n c.args.pending c.requires.inside

pub returns-clause-below : goal.returns-clause-below
returns-clause-below c = front_below c.args.count c.args.n c.args.pending c.requires.inside c.requires.small
