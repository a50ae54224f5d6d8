use Rattle.std.proofs.Common.{◌++◌, append_assoc, refl, ◌∙◌, ap}
use Rattle.bit_addressing.specs.Row.{binary}
use Rattle.bit_streams.specs.Codes.{leb_bytes}
use Rattle.bit_streams.proofs.Steps.{may_refuse_after, number_refused}
use Rattle.bit_streams.proofs.writer.BitWriter.write_long.Goals as goal

pub returns-in-Err-clause-refusal : goal.returns-in-Err-clause-refusal
returns-in-Err-clause-refusal g c = number_refused c.in-Err.why 64 c.args.code (leb_bytes 1 c.args.left) c.args.self.now c.write.new.self c.in-Err.ensures.refusal

pub returns-in-Ok-write_bytes-clause-list : goal.returns-in-Ok-write_bytes-clause-list
returns-in-Ok-write_bytes-clause-list g c =
    c.in-Ok-write_bytes.ensures.list ∙ ap (λ l. l ++ leb_bytes 1 c.args.left) c.in-Ok.ensures.list ∙ append_assoc c.args.self.now.list (binary 64 c.args.code) (leb_bytes 1 c.args.left)

pub returns-in-Err-write_bytes-clause-refusal : goal.returns-in-Err-write_bytes-clause-refusal
returns-in-Err-write_bytes-clause-refusal g c =
    may_refuse_after c.in-Err-write_bytes.why (binary 64 c.args.code ++ leb_bytes 1 c.args.left) (binary 64 c.args.code) (leb_bytes 1 c.args.left) c.len-before.result c.args.self.now c.truncate.new.self c.write.new.self c.write_bytes.new.self
    c.in-Err-write_bytes.ensures.refusal c.in-Ok.ensures.list refl c.in-Ok.ensures.capacity c.truncate.ensures.list c.len-before.ensures.value
