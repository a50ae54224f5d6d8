use Rattle.bit_addressing.proofs.Lookups.{first_turned, second_turned}
use Rattle.bit_addressing.proofs.vectors.reverse_both.Goals as goal

pub returns-clause-first : goal.returns-clause-first
returns-clause-first c = first_turned c.reverse_bytes.result c.args.first c.args.second c.reverse_bytes.ensures.bytes c.ranges.first.fits c.ranges.second.fits c.reverse_bytes.ensures.bits

pub returns-clause-second : goal.returns-clause-second
returns-clause-second c = second_turned c.reverse_bytes.result c.args.first c.args.second c.reverse_bytes.ensures.bytes c.ranges.first.fits c.ranges.second.fits c.reverse_bytes.ensures.bits
