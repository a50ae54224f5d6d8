use Rattle.std.proofs.Common.{rules, arith, take, drop, subst}
use Rattle.std.proofs.Math.Seq.{take-add}
use Rattle.std.proofs.lemmas.List.{take-append-drop}
use Rattle.bit_lines.specs.Served.{Concludes}
use Rattle.bit_containers.proofs.TextParts.{rest_whole}
use Rattle.bit_lines.proofs.Written.{sends_more, concludes_within}
use Rattle.bit_lines.proofs.serving.serve_piece.Goals as goal

pub loop-start-preserved : goal.loop-start-preserved
loop-start-preserved g c =
    let held = g.K.Sink.held in
    let i = c.loop-start.invariant in
    let h = c.in-Ok.ensures in
    let w = c.in_ok-send-in-Ok.ensures in
    let piece = c.args.piece.now in
    let start = c.loop-start.start in
    let ok = rw rest_whole at h.ok in
    record {
      going = rw take-add (sends_more c.args.session.now c.loop-start.session c.take_bytes.new.self (take start piece) (take c.in-Ok.count (drop start piece)) (held c.args.output.now) (held c.loop-start.output) (held c.send.new.output) i.going i.blank c.send.new.session ok w.sent w.cleared);
      blank = rw w.cleared (search rules);
      number = rw w.cleared (omega (arith, h.number));
      within = omega (arith, h.count);
      sure = λ ready. (c.send.ensures.sure (i.sure ready)).1;
    }

pub returns-in-Err-clause-served : goal.returns-in-Err-clause-served
returns-in-Err-clause-served g c =
    let held = g.K.Sink.held in
    let i = c.loop-start.invariant in
    let piece = c.args.piece.now in
    let start = c.loop-start.start in
    let ended = rw rest_whole at c.in-Err.ensures.ended in
    subst (λ xs. Concludes c.args.session.now xs c.in-Err.ending (held c.args.output.now) (held c.conclude.new.output)) (take-append-drop start piece)
    (concludes_within c.args.session.now c.loop-start.session c.take_bytes.new.self (take start piece) (drop start piece) (held c.args.output.now) (held c.loop-start.output) (held c.conclude.new.output) i.going i.blank c.in-Err.ending ended c.in_ok-conclude-in-Err.ensures.held)
