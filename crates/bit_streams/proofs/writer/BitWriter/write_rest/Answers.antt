use Rattle.std.proofs.Common.{◌+◌, length, ◌∙◌, ap, arith}
use Rattle.std.proofs.Math.Pow.{pow_mono}
use Rattle.bit_rows.proofs.Binary.{length-binary}
use Rattle.bit_streams.specs.Codes.{rest_code}
use Rattle.bit_streams.proofs.Rests.{long_rest, short_rest}
use Rattle.bit_streams.proofs.Steps.{refused_first}
use Rattle.bit_streams.proofs.writer.BitWriter.write_rest.Goals as goal

pub overflow_add-rest : goal.overflow_add-rest
overflow_add-rest g c =
    let sum = c.short_rests-short.ensures.within in
    let few = c.short_rests-short.ensures.few in
    let most = pow_mono {i = c.top_of-top.result + 1} {j = 64} (omega arith) in
    omega arith

pub returns-in-Err-clause-refusal : goal.returns-in-Err-clause-refusal
returns-in-Err-clause-refusal g c =
    let m = c.args.m in
    let rest = c.args.rest in
    let top = c.top_of-top.result in
    let size = ap length (short_rest m top c.short_rests-short.result rest c.top_of-top.ensures.place c.short_rests-short.ensures.value c.if-rest-short.true) ∙ length-binary top rest in
    refused_first c.in-Err.why (rest_code m rest) top c.args.self.now c.write.new.self c.in-Err.ensures.refusal (omega arith)

pub returns-in-Err-write-clause-refusal : goal.returns-in-Err-write-clause-refusal
returns-in-Err-write-clause-refusal g c =
    let m = c.args.m in
    let rest = c.args.rest in
    let top = c.top_of-top.result in
    let short = c.short_rests-short.result in
    let size = ap length (long_rest m top short rest c.top_of-top.ensures.place c.short_rests-short.ensures.value c.if-rest-short.false) ∙ length-binary (top + 1) (rest + short) in
    refused_first c.in-Err-write.why (rest_code m rest) (top + 1) c.args.self.now c.write-2.new.self c.in-Err-write.ensures.refusal (omega arith)
