use Rattle.std.proofs.Common.{length, ap, arith}
use Rattle.std.proofs.lemmas.List.{length-append}
use Rattle.bit_addressing.specs.Row.{binary}
use Rattle.bit_rows.proofs.Binary.{length-binary}
use Rattle.bit_streams.specs.Codes.{gamma, top_place, unary}
use Rattle.bit_streams.proofs.Steps.{refused_after}
use Rattle.bit_streams.proofs.writer.BitWriter.write_long_gamma.Goals as goal

pub returns-in-Err-write-clause-refusal : goal.returns-in-Err-write-clause-refusal
returns-in-Err-write-clause-refusal g c =
    let x = c.args.x in
    let top = c.args.top in
    let front = ap (λ k. length (unary k)) c.requires in
    let size = length-append (unary (top_place x)) (binary (top_place x) x) in
    let digits = length-binary (top_place x) x in
    let place = c.requires in
    refused_after c.in-Err-write.why (gamma x) (unary top) top c.len-before.result c.args.self.now c.truncate.new.self c.write_unary.new.self c.write.new.self
    c.in-Err-write.ensures.refusal c.in-Ok.ensures.list (omega arith) c.in-Ok.ensures.capacity c.truncate.ensures.list c.len-before.ensures.value
