use Rattle.std.proofs.Common.{◌≡◌, ◌+◌, ◌++◌, false, length, replicate}
use Rattle.bit_streams.proofs.reader.BitReader.read_zeros.Given as goal

abbrev pub invariant-loop-zeros : goal.invariant-loop-zeros
invariant-loop-zeros g l = (l.fn.self.rest ≡ replicate l.zeros false ++ l.self.rest) × (length l.self.rest + l.zeros ≡ length l.fn.self.rest)
