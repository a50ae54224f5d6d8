use Rattle.std.proofs.Common.{refl, ◌∙◌, arith}
use Rattle.bit_streams.proofs.Zeros.{more_zeros, unary_written}
use Rattle.bit_streams.proofs.writer.BitWriter.write_unary.Goals as goal

pub loop-preserved : goal.loop-preserved
loop-preserved g c =
    let was = c.loop.invariant.1 in
    let grew = c.in-Ok.ensures.capacity in
    (c.in-Ok.ensures.list ∙ more_zeros c.args.self.now.list c.loop.self.list c.loop.counter c.loop.invariant.0, omega arith)

pub returns-in-Ok-write-clause-list : goal.returns-in-Ok-write-clause-list
returns-in-Ok-write-clause-list g c =
    unary_written c.args.self.now.list c.loop.self.list c.write-2.new.self.list c.args.zeros c.loop.counter 0 _ c.loop.invariant.0 (omega arith) refl c.in-Ok-write.ensures.list
