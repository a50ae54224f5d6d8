use Rattle.bit_streams.proofs.reader.BitReader.+read_bytes.Given as goal

abbrev pub decreases-read_bytes : goal.decreases-read_bytes
decreases-read_bytes g l = l.most
