use Rattle.bit_addressing.proofs.Lookups.{low_ok, high_ok, bytes_stay, bytes_turned}
use Rattle.bit_addressing.proofs.vectors.reverse_bytes.Goals as goal

pub swizzle-lowest : goal.swizzle-lowest
swizzle-lowest c = low_ok c.args.bytes c.fits-bytes

pub swizzle-highest : goal.swizzle-highest
swizzle-highest c = high_ok c.args.bytes c.fits-bytes

pub returns-clause-bytes : goal.returns-clause-bytes
returns-clause-bytes c = bytes_stay c.args.bytes c.fits-bytes

pub returns-clause-bits : goal.returns-clause-bits
returns-clause-bits c = λ i p h k. bytes_turned c.args.bytes c.fits-bytes i p h k
