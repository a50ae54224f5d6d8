use Rattle.std.proofs.Common.{◌+◌, ◌++◌, length, sym, ap, arith}
use Rattle.std.proofs.lemmas.List.{length-append}
use Rattle.bit_addressing.specs.Row.{binary}
use Rattle.bit_rows.proofs.Binary.{length-binary}
use Rattle.bit_streams.specs.Codes.{delta, gamma, top_place}
use Rattle.bit_streams.proofs.Steps.{may_refuse_first, refused_after}
use Rattle.bit_streams.proofs.writer.BitWriter.write_delta.Goals as goal

pub returns-in-Err-clause-refusal : goal.returns-in-Err-clause-refusal
returns-in-Err-clause-refusal g c =
    let x = c.args.x in
    may_refuse_first c.in-Err.why (delta x) (gamma (c.top_of-top.result + 1)) (binary (top_place x) x) c.args.self.now c.write_gamma.new.self c.in-Err.ensures.refusal
    (ap (λ k. gamma (k + 1) ++ binary (top_place x) x) (sym c.top_of-top.ensures.place))

pub returns-in-Err-write-clause-refusal : goal.returns-in-Err-write-clause-refusal
returns-in-Err-write-clause-refusal g c =
    let x = c.args.x in
    let top = c.top_of-top.result in
    let front = ap (λ k. length (gamma (k + 1))) c.top_of-top.ensures.place in
    let size = length-append (gamma (top_place x + 1)) (binary (top_place x) x) in
    let digits = length-binary (top_place x) x in
    let place = c.top_of-top.ensures.place in
    refused_after c.in-Err-write.why (delta x) (gamma (top + 1)) top c.len-before.result c.args.self.now c.truncate.new.self c.write_gamma.new.self c.write.new.self
    c.in-Err-write.ensures.refusal c.in-Ok.ensures.list (omega arith) c.in-Ok.ensures.capacity c.truncate.ensures.list c.len-before.ensures.value
