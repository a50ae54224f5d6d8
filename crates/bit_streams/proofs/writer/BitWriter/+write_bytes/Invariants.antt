use Rattle.bit_streams.proofs.writer.BitWriter.+write_bytes.Given as goal

abbrev pub decreases-write_bytes : goal.decreases-write_bytes
decreases-write_bytes g l = l.more
