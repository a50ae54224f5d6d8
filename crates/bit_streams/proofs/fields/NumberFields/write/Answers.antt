use Rattle.std.proofs.Common.{refl}
use Rattle.bit_addressing.specs.Row.{binary}
use Rattle.bit_rows.proofs.Binary.{length-binary}
use Rattle.bit_streams.proofs.Steps.{one_step}
use Rattle.bit_streams.proofs.fields.NumberFields.write.Goals as goal

pub returns-clause-refusal : goal.returns-clause-refusal
returns-clause-refusal g c =
    let bits = binary g.row.N c.args.self.now.value in
    one_step c.write.result bits bits g.row.N c.args.writer.now c.write.new.self refl (length-binary g.row.N c.args.self.now.value) c.write.ensures.refusal
