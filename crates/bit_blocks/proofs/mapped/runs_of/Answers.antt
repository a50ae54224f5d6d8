use Rattle.std.proofs.Common.{sym, subst}
use Rattle.bit_blocks.proofs.Scanned.{ScannedTo, all_scanned, none_scanned, run_scanned}
use Rattle.bit_blocks.proofs.mapped.runs_of.Goals as goal

pub loop-first-init : goal.loop-first-init
loop-first-init c =
    let bits = c.args.bits.now.list in
    subst (λ rs. ScannedTo bits rs 0) (sym c.in_ok-runs.ensures.items) (none_scanned bits)

pub loop-first-preserved : goal.loop-first-preserved
loop-first-preserved c =
    run_scanned c.args.bits.now.list c.loop-first.runs.items c.push.new.self.items c.loop-first.from c.in-Some.first c.end_of_run-from.result c.loop-first.invariant
    c.in-Some.ensures.begins c.end_of_run-from.ensures.more c.end_of_run-from.ensures.within c.in-Some.ensures.found c.in-Some.ensures.before
    c.end_of_run-from.ensures.ones c.end_of_run-from.ensures.ends c.in_ok-push.ensures.items

pub returns-clause-numbers : goal.returns-clause-numbers
returns-clause-numbers c =
    all_scanned c.args.bits.now.list c.loop-first.runs.items c.loop-first.from c.requires c.loop-first.invariant c.in_default.ensures.none
