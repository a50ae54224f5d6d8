use Rattle.std.proofs.Common.{◌+◌, sym, ◌∙◌, ap, arith}
use Rattle.std.proofs.lemmas.Result.{err_from_is_err_and}
use Rattle.bit_portable.specs.Reading.{runs_in, one_run}
use Rattle.bit_portable.proofs.Decoded.{after_items, goes_on, stops, is_done, next_run, runs_end}
use Rattle.bit_portable.proofs.reading.runs_in.Goals as goal

pub loop-rest-preserved : goal.loop-rest-preserved
loop-rest-preserved c =
    let step = next_run c.loop-rest.from c.loop-rest.rest.now c.split_at.result.0.now c.split_at.result.1.now c.from_le_bytes-first.result c.from_le_bytes-more.result (omega arith) c.split_at.ensures.front c.split_at.ensures.back c.from_le_bytes-first.ensures c.from_le_bytes-more.ensures in
    record { so_far = rw c.push_reserved.ensures.items (goes_on c.loop-rest.runs.items c.in_ok-run.run' (one_run c.loop-rest.from c.from_le_bytes-first.result c.from_le_bytes-more.result) (λ r. runs_in (r.last + 2) c.split_at.result.1.now) (runs_in 0 c.args.bytes.now) c.in_ok-run.ensures (sym (ap (λ x. after_items c.loop-rest.runs.items x) step) ∙ c.loop-rest.invariant.so_far)); few = omega arith; memory = omega arith; room = omega arith }

pub returns-in_err-run-clause-value : goal.returns-in_err-run-clause-value
returns-in_err-run-clause-value c =
    let step = next_run c.loop-rest.from c.loop-rest.rest.now c.split_at.result.0.now c.split_at.result.1.now c.from_le_bytes-first.result c.from_le_bytes-more.result (omega arith) c.split_at.ensures.front c.split_at.ensures.back c.from_le_bytes-first.ensures c.from_le_bytes-more.ensures in
    let p = err_from_is_err_and c.from_residual-in_err-run.result c.from_residual-in_err-run.ensures.1 in
    rw (p.1, p.2) (stops c.in_err-run.field-0.0 c.loop-rest.runs.items (one_run c.loop-rest.from c.from_le_bytes-first.result c.from_le_bytes-more.result) (λ r. runs_in (r.last + 2) c.split_at.result.1.now) (runs_in 0 c.args.bytes.now) c.in_err-run.ensures (sym (ap (λ x. after_items c.loop-rest.runs.items x) step) ∙ c.loop-rest.invariant.so_far))

pub returns-clause-value : goal.returns-clause-value
returns-clause-value c = is_done c.loop-rest.runs.items (runs_in c.loop-rest.from c.loop-rest.rest.now) (runs_in 0 c.args.bytes.now) (runs_end c.loop-rest.from c.loop-rest.rest.now (omega arith)) c.loop-rest.invariant.so_far
