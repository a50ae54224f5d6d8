use Rattle.std.proofs.Common.{rules, ◌∙◌}
use Rattle.std.proofs.lemmas.List.{length-set}
use Rattle.bit_frames.proofs.Served.{never_twice, served_all, served_next, served_none}
use Rattle.bit_frames.specs.declared.free_map.serving.Request.TheVariants.{Take}
use Rattle.bit_frames.proofs.free_map.FreeMap.serve.Goals as goal

pub loop-i-preserved : goal.loop-i-preserved
loop-i-preserved c =
    let was = c.loop-i.invariant in
    record {
      size = length-set c.loop-i.replies.items c.loop-i.i c.serve_one.result ∙ was.size;
      served = served_next c.args.self.now c.loop-i.self c.serve_one.new.self c.args.requests.now c.loop-i.replies.items c.loop-i.i (Take 0) c.serve_one.result was.size c.loop-i-test.true was.served c.serve_one.ensures;
    }

pub returns-clause-never_twice : goal.returns-clause-never_twice
returns-clause-never_twice c =
    let was = c.loop-i.invariant in
    never_twice c.args.requests.now c.loop-i.replies.items c.args.self.now c.loop-i.self (served_all c.args.self.now c.loop-i.self c.args.requests.now c.loop-i.replies.items c.loop-i.i was.size c.loop-i-test.false was.served)

pub returns-clause-served : goal.returns-clause-served
returns-clause-served c =
    let was = c.loop-i.invariant in
    served_all c.args.self.now c.loop-i.self c.args.requests.now c.loop-i.replies.items c.loop-i.i was.size c.loop-i-test.false was.served

pub loop-i-init : goal.loop-i-init
loop-i-init c = record { size = search rules; served = served_none c.args.self.now }
