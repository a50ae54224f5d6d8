use Rattle.std.proofs.Common.{rules, arith, ◌≡◌, ◌<◌, [], ◌++◌, length, take, subst, refl, ◌+◌, ◌-◌, ◌^◌}
use Rattle.std.specs.Prelude.{flat_map}
use Rattle.std.proofs.lemmas.Grind.{flat_map-append}
use Rattle.std.specs.Io.KnownBytes.{Appends, Consumes}
use Rattle.bit_lines.specs.declared.replying.Ending.TheVariants.{ReadFailed}
use Rattle.bit_lines.specs.Script.{ending_text, with_line_feed}
use Rattle.bit_lines.specs.Served.{IsServed}
use Rattle.bit_lines.proofs.Written.{appends_none, appends_more, going_start, read_start, served_cut, served_here, served_within, concluded, going_more, read_more, read_within, end_apart, end_of_result}
use Rattle.bit_lines.proofs.serving.serve_script.Goals as goal

pub loop-init : goal.loop-init
loop-init g c =
    let s = c.new-session.ensures in
    record {
      total = omega arith;
      number = rw (s.number, s.line) (omega arith);
      blank = s.out;
      sized = refl;
      going = ([], appends_none (g.K.Sink.held c.args.output.now), going_start (g.S.Source.left c.args.input.now) c.new-session.result s.list s.line s.number);
      read = λ ready short. (ready, omega arith, read_start (g.S.Source.left c.args.input.now) short);
      written = λ ready. ready;
    }

pub returns-in-Err-clause-served : goal.returns-in-Err-clause-served
returns-in-Err-clause-served g c =
    let left = g.S.Source.left in let held = g.K.Sink.held in
    let i = c.loop.invariant in
    concluded c.conclude.result ReadFailed
    (λ ending. IsServed (left c.args.input.now) (held c.args.output.now) (held c.conclude.new.output) ending)
    (Appends (held c.loop.output) (held c.conclude.new.output) (c.loop.session.out ++ ending_text ReadFailed))
    c.conclude.ensures.ending c.conclude.ensures.held
    (λ after. served_cut (left c.args.input.now) (left c.loop.input) (held c.args.output.now) (held c.loop.output) i.going.0 c.loop.session i.going.1 i.going.2 (held c.conclude.new.output) i.blank after)

pub returns-then-count-eq0-clause-served : goal.returns-then-count-eq0-clause-served
returns-then-count-eq0-clause-served g c =
    let left = g.S.Source.left in let held = g.K.Sink.held in
    let i = c.loop.invariant in
    let zero : c.in-Ok.count ≡ 0 = c.if-count-eq0.true in
    let room : 0 < length c.give.new.buffer = omega (arith, i.sized) in
    let took : Consumes (left c.loop.input) (left c.give.new.self) [] = subst (λ n. Consumes (left c.loop.input) (left c.give.new.self) (take n c.give.new.buffer)) zero c.in-Ok.ensures.bytes.0 in
    let over = c.in-Ok.ensures.bytes.1 zero room in
    let last = c.conclude-then-count-eq0 in
    concluded last.result c.finish-ending.result
    (λ ending. IsServed (left c.args.input.now) (held c.args.output.now) (held last.new.output) ending)
    (Appends (held c.loop.output) (held last.new.output) (c.finish-ending.new.self.out ++ ending_text c.finish-ending.result))
    last.ensures.ending last.ensures.held
    (λ after. served_here (left c.args.input.now) (left c.loop.input) (held c.args.output.now) (held c.loop.output) i.going.0 c.loop.session i.going.1 i.going.2
    (left c.give.new.self) (held last.new.output) c.finish-ending.new.self c.finish-ending.result i.blank took over c.finish-ending.ensures after)

pub returns-then-count-eq0-clause-read : goal.returns-then-count-eq0-clause-read
returns-then-count-eq0-clause-read g c = λ ready short.
    end_of_result c.conclude-then-count-eq0.result c.finish-ending.result c.conclude-then-count-eq0.ensures.ending
    (end_apart c.finish-ending.result _ _ _ c.finish-ending.ensures.2)

pub returns-then-count-total-clause-served : goal.returns-then-count-total-clause-served
returns-then-count-total-clause-served g c =
    let left = g.S.Source.left in let held = g.K.Sink.held in
    let i = c.loop.invariant in
    let last = c.conclude-then-count-total in
    concluded last.result ReadFailed
    (λ ending. IsServed (left c.args.input.now) (held c.args.output.now) (held last.new.output) ending)
    (Appends (held c.loop.output) (held last.new.output) (c.loop.session.out ++ ending_text ReadFailed))
    last.ensures.ending last.ensures.held
    (λ after. served_cut (left c.args.input.now) (left c.loop.input) (held c.args.output.now) (held c.loop.output) i.going.0 c.loop.session i.going.1 i.going.2 (held last.new.output) i.blank after)

pub returns-then-count-total-clause-read : goal.returns-then-count-total-clause-read
returns-then-count-total-clause-read g c = λ ready short is.
    let left = g.S.Source.left in
    let k = c.in-Ok.ensures in
    let p = c.loop.invariant.read ready short in
    let few : c.loop.total + c.in-Ok.count < 2 ^ 64 - 1 = read_within (left c.args.input.now) (left c.loop.input) (left c.give.new.self) c.loop.total c.in-Ok.count (take c.in-Ok.count c.give.new.buffer) short p.2 k.bytes.0 k.bound.1 in
    omega arith

pub returns-in-Some-clause-served : goal.returns-in-Some-clause-served
returns-in-Some-clause-served g c =
    let left = g.S.Source.left in let held = g.K.Sink.held in
    let i = c.loop.invariant in
    let done = rw c.in-Some.is at c.in_ok-ended.ensures.served in
    served_within (left c.args.input.now) (left c.loop.input) (held c.args.output.now) (held c.loop.output) i.going.0 c.loop.session i.going.1 i.going.2
    (left c.give.new.self) (held c.serve_piece.new.output) (take c.in-Ok.count c.give.new.buffer) c.in-Some.ending c.in-Ok.ensures.bytes.0 done

pub loop-preserved : goal.loop-preserved
loop-preserved g c =
    let left = g.S.Source.left in let held = g.K.Sink.held in
    let i = c.loop.invariant in
    let k = c.in-Ok.ensures in
    let h = c.in_ok-ended.ensures in
    let sent = rw c.in_default.is at h.served in
    let blank = rw c.in_default.is at h.blank in
    let number = rw c.in_default.is at h.number in
    let piece = take c.in-Ok.count c.give.new.buffer in
    record {
      total = omega arith;
      number = omega (arith, number, k.bound.1);
      blank = blank;
      sized = search rules;
      going = (
        i.going.0 ++ sent.0,
        rw (flat_map-append with_line_feed i.going.0 sent.0)
            (appends_more (held c.args.output.now) (held c.loop.output) (held c.serve_piece.new.output) (flat_map with_line_feed i.going.0) (flat_map with_line_feed sent.0) i.going.1 sent.1),
        going_more (left c.args.input.now) (left c.loop.input) (left c.give.new.self) i.going.0 sent.0 c.loop.session c.serve_piece.new.session piece i.going.2 k.bytes.0 sent.2,
      );
      read = λ ready short. (let p = i.read ready short in (
        (k.sure p.0).1,
        omega (arith, p.1),
        read_more (left c.args.input.now) (left c.loop.input) (left c.give.new.self) c.loop.total c.in-Ok.count piece p.2 k.bytes.0 k.bound.1,
      ));
      written = λ ready. (c.serve_piece.ensures.sure (i.written ready)).1;
    }

pub returns-clause-served : goal.returns-clause-served
returns-clause-served g c =
    let left = g.S.Source.left in let held = g.K.Sink.held in
    let i = c.loop.invariant in
    let last = c.conclude-2 in
    concluded last.result ReadFailed
    (λ ending. IsServed (left c.args.input.now) (held c.args.output.now) (held last.new.output) ending)
    (Appends (held c.loop.output) (held last.new.output) (c.loop.session.out ++ ending_text ReadFailed))
    last.ensures.ending last.ensures.held
    (λ after. served_cut (left c.args.input.now) (left c.loop.input) (held c.args.output.now) (held c.loop.output) i.going.0 c.loop.session i.going.1 i.going.2 (held last.new.output) i.blank after)
