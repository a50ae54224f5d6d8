use Rattle.std.proofs.Common.{refl}
use Rattle.std.specs.Int.{cast_unsigned, w64}
use Rattle.bit_rows.proofs.Binary.{length-binary}
use Rattle.bit_slice.specs.Signed.{signed_binary}
use Rattle.bit_streams.proofs.Steps.{one_step}
use Rattle.bit_streams.proofs.fields.SignedFields.write.Goals as goal

pub returns-clause-refusal : goal.returns-clause-refusal
returns-clause-refusal g c =
    let bits = signed_binary g.row.N c.args.self.now.value in
    one_step c.write_signed.result bits bits g.row.N c.args.writer.now c.write_signed.new.self refl (length-binary g.row.N (cast_unsigned w64 c.args.self.now.value)) c.write_signed.ensures.refusal
