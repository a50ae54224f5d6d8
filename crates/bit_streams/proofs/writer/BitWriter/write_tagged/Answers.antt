use Rattle.std.proofs.Common.{◌≡◌, ◌+◌, length, refl, ◌∙◌, arith}
use Rattle.bit_slice.specs.BitSlice.{list_of}
use Rattle.bit_streams.specs.Formats.{tagged_bits}
use Rattle.bit_streams.proofs.Parted.{tagged_size}
use Rattle.bit_streams.proofs.Steps.{one_step}
use Rattle.bit_streams.proofs.writer.BitWriter.write_tagged.Goals as goal

pub returns-then-len-le40-clause-refusal : goal.returns-then-len-le40-clause-refusal
returns-then-len-le40-clause-refusal g c =
    let bits = list_of c.args.value in
    let len = c.len-len.ensures.list in
    let size : length (tagged_bits c.args.tag bits) ≡ 24 + c.len-len.result = tagged_size c.args.tag bits ∙ omega arith in
    one_step c.write.result (tagged_bits c.args.tag bits) (tagged_bits c.args.tag bits) (24 + c.len-len.result) c.args.self.now c.write.new.self refl size c.write.ensures.refusal
