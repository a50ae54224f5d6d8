use Rattle.std.proofs.Common.{length}
use Rattle.bit_portable.proofs.writing.+flag_byte.Given as goal

abbrev pub decreases-flag_byte : goal.decreases-flag_byte
decreases-flag_byte l = length l.blocks.now
