use Rattle.std.proofs.Common.{◌/◌, ◌%◌, refl}
use Rattle.bit_streams.specs.Codes.{golomb, rest_code, unary}
use Rattle.bit_streams.proofs.Steps.{may_refuse_after}
use Rattle.bit_streams.proofs.writer.BitWriter.write_golomb.Goals as goal

pub returns-in-Err-write_rest-clause-refusal : goal.returns-in-Err-write_rest-clause-refusal
returns-in-Err-write_rest-clause-refusal g c =
    let m = c.args.m in
    let x = c.args.x in
    may_refuse_after c.in-Err-write_rest.why (golomb m x) (unary (x / m)) (rest_code m (x % m)) c.len-before.result c.args.self.now c.truncate.new.self c.write_unary.new.self c.write_rest.new.self
    c.in-Err-write_rest.ensures.refusal c.in-Ok.ensures.list refl c.in-Ok.ensures.capacity c.truncate.ensures.list c.len-before.ensures.value
