use Rattle.bit_streams.proofs.Late.{none_late}
use Rattle.bit_streams.proofs.words.Words.of.Goals as goal

pub returns-clause-list : goal.returns-clause-list
returns-clause-list g c = none_late g.T.BitStore g.O.BitOrder c.args.words.items
