use Rattle.std.proofs.Common.{◌≡◌, ◌-◌, ◌%◌, false, replicate, ◌∙◌, ap, subst, arith}
use Rattle.bit_streams.specs.Streamed.{Gains}
use Rattle.bit_streams.proofs.Zeros.{zeros_of}
use Rattle.bit_streams.proofs.sink.BitSink.pad.Goals as goal

pub returns-clause-list : goal.returns-clause-list
returns-clause-list g c =
    let over = c.held-over.result in
    let is = c.held-over.ensures in
    let some = c.if-over-eq0.false in
    let room = c.requires in
    let rest : 8 - over ≡ (8 - c.args.self.now.held % 8) % 8 = omega arith in
    subst (Gains c.args.self.now.list c.hold.new.self.list) (zeros_of (8 - over) (omega arith) ∙ ap (λ k. replicate k false) rest) c.hold.ensures.list
