use Rattle.bit_matrix.proofs.Lowest.{fewer_left, has_left}
use Rattle.bit_matrix.proofs.matrix.graph.left_of.Goals as goal

pub returns-clause-bits : goal.returns-clause-bits
returns-clause-bits c = has_left c.args.chunk c.args.place c.args.covered c.ranges.chunk.fits c.ranges.covered.fits c.requires

pub returns-clause-smaller : goal.returns-clause-smaller
returns-clause-smaller c = fewer_left c.args.chunk c.args.place c.args.covered c.ranges.chunk.fits c.ranges.covered.fits c.requires
