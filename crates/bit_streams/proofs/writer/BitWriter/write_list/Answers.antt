use Rattle.bit_slice.specs.BitSlice.{list_of}
use Rattle.bit_streams.specs.Formats.{listed_bits}
use Rattle.bit_streams.proofs.Parted.{listed_least, listed_written}
use Rattle.bit_streams.proofs.Steps.{refused_first}
use Rattle.bit_streams.proofs.writer.BitWriter.write_list.Goals as goal

pub returns-in-Ok-write-clause-list : goal.returns-in-Ok-write-clause-list
returns-in-Ok-write-clause-list g c =
    listed_written c.args.self.now.list c.write.new.self.list c.write_bits.new.self.list c.write-2.new.self.list (list_of c.args.bits) c.len-len.result c.in-Ok.ensures.list c.in-Ok-write_bits.ensures.list c.in-Ok-write.ensures.list c.len-len.ensures.list

pub returns-in-Err-clause-refusal : goal.returns-in-Err-clause-refusal
returns-in-Err-clause-refusal g c =
    let bits = list_of c.args.bits in
    refused_first c.in-Err.why (listed_bits bits) 64 c.args.self.now c.write.new.self c.in-Err.ensures.refusal (listed_least bits)
