use Rattle.std.proofs.Common.{◌/◌, ◌^◌, arith}
use Rattle.std.proofs.lemmas.List.{length-append}
use Rattle.bit_addressing.specs.Row.{binary}
use Rattle.bit_rows.proofs.Binary.{length-binary}
use Rattle.bit_streams.specs.Codes.{rice, unary}
use Rattle.bit_streams.proofs.Steps.{refused_after}
use Rattle.bit_streams.proofs.writer.BitWriter.write_rice.Goals as goal

pub returns-in-Err-write-clause-refusal : goal.returns-in-Err-write-clause-refusal
returns-in-Err-write-clause-refusal g c =
    let k = c.args.k in
    let x = c.args.x in
    let size = length-append (unary (x / 2 ^ k)) (binary k x) in
    let digits = length-binary k x in
    refused_after c.in-Err-write.why (rice k x) (unary (x / 2 ^ k)) k c.len-before.result c.args.self.now c.truncate.new.self c.write_unary.new.self c.write.new.self
    c.in-Err-write.ensures.refusal c.in-Ok.ensures.list (omega arith) c.in-Ok.ensures.capacity c.truncate.ensures.list c.len-before.ensures.value
