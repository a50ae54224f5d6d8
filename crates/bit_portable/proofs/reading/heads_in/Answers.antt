use Rattle.std.proofs.Common.{◌+◌, sym, ◌∙◌, ap, arith}
use Rattle.std.proofs.lemmas.Result.{err_from_is_err_and}
use Rattle.bit_portable.specs.Reading.{heads_in, one_head}
use Rattle.bit_portable.proofs.Decoded.{after_items, goes_on, stops, is_done, next_head, heads_end}
use Rattle.bit_portable.proofs.reading.heads_in.Goals as goal

pub loop-rest-preserved : goal.loop-rest-preserved
loop-rest-preserved c =
    let flags = c.args.flags.now in
    let k = c.loop-rest.k in
    let after = c.split_at.result.1.now in
    let key = c.from_le_bytes-key.result in
    let others = c.from_le_bytes-others.result in
    let flag = c.flag_at-as_runs.result in
    let step = next_head flags k c.loop-rest.from c.loop-rest.rest.now c.split_at.result.0.now after key others flag (omega arith) c.split_at.ensures.front c.split_at.ensures.back c.from_le_bytes-key.ensures c.from_le_bytes-others.ensures c.flag_at-as_runs.ensures in
    record {
      so_far = rw c.push_reserved.ensures.items (goes_on c.loop-rest.heads.items c.in_ok-head.head (one_head c.loop-rest.from key others flag) (λ h. heads_in flags (k + 1) (h.key + 1) after) (heads_in flags 0 0 c.args.bytes.now) c.in_ok-head.ensures (sym (ap (λ x. after_items c.loop-rest.heads.items x) step) ∙ c.loop-rest.invariant.so_far));
      bound = omega arith;
      few = omega arith;
      memory = omega arith;
      room = omega arith;
    }

pub returns-in_err-head-clause-value : goal.returns-in_err-head-clause-value
returns-in_err-head-clause-value c =
    let flags = c.args.flags.now in
    let k = c.loop-rest.k in
    let after = c.split_at.result.1.now in
    let key = c.from_le_bytes-key.result in
    let others = c.from_le_bytes-others.result in
    let flag = c.flag_at-as_runs.result in
    let step = next_head flags k c.loop-rest.from c.loop-rest.rest.now c.split_at.result.0.now after key others flag (omega arith) c.split_at.ensures.front c.split_at.ensures.back c.from_le_bytes-key.ensures c.from_le_bytes-others.ensures c.flag_at-as_runs.ensures in
    let p = err_from_is_err_and c.from_residual-in_err-head.result c.from_residual-in_err-head.ensures.1 in
    rw (p.1, p.2) (stops c.in_err-head.field-0.0 c.loop-rest.heads.items (one_head c.loop-rest.from key others flag) (λ h. heads_in flags (k + 1) (h.key + 1) after) (heads_in flags 0 0 c.args.bytes.now) c.in_err-head.ensures (sym (ap (λ x. after_items c.loop-rest.heads.items x) step) ∙ c.loop-rest.invariant.so_far))

pub returns-clause-value : goal.returns-clause-value
returns-clause-value c = is_done c.loop-rest.heads.items (heads_in c.args.flags.now c.loop-rest.k c.loop-rest.from c.loop-rest.rest.now) (heads_in c.args.flags.now 0 0 c.args.bytes.now) (heads_end c.args.flags.now c.loop-rest.k c.loop-rest.from c.loop-rest.rest.now (omega arith)) c.loop-rest.invariant.so_far
