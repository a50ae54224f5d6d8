use Rattle.bit_addressing.proofs.Runs.{span_of}
use Rattle.bit_addressing.proofs.Rows.{width_positive}
use Rattle.bit_addressing.proofs.length.Span.of.Goals as goal

pub returns : goal.returns
returns g c = span_of g.T.BitStore.BITS c.BITS-width.result c.args.from c.args.upto (width_positive g.T.BitStore.BITS g.met.T.BitStore.width) c.BITS-width.ensures c.requires
