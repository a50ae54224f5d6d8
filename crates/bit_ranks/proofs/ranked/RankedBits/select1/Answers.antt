use Rattle.std.proofs.Common.{true}
use Rattle.bit_slice.proofs.Numbered.{given_value, given_found, given_only}
use Rattle.bit_ranks.proofs.ranked.RankedBits.select1.Goals as goal

pub returns-clause-value : goal.returns-clause-value
returns-clause-value g c = given_value true c.args.self.now.list c.args.k c.select.result c.select.ensures.some c.select.ensures.none

pub returns-clause-found : goal.returns-clause-found
returns-clause-found g c = given_found true c.args.self.now.list c.args.k c.select.result c.select.ensures.some

pub returns-clause-only : goal.returns-clause-only
returns-clause-only g c = given_only true c.args.self.now.list c.args.k c.select.result c.select.ensures.some c.select.ensures.none
