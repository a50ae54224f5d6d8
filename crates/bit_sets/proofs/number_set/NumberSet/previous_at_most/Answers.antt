use Rattle.std.proofs.Common.{◌≡◌, ◌+◌, ◌≤◌, length, ap, arith}
use Rattle.bit_addressing.specs.declared.length.TheConstants.{MAX_BITS}
use Rattle.bit_sets.proofs.Members.{none_between, none_upto}
use Rattle.bit_sets.proofs.number_set.NumberSet.previous_at_most.Goals as goal

pub returns-clause-after : goal.returns-clause-after
returns-clause-after c =
    let same : length c.self.inside.bits.list ≡ length c.args.self.now = ap length c.self.view_is in
    let few : length c.args.self.now ≤ MAX_BITS = (let bound = c.len-len.ensures.bound in let value = c.len-len.ensures.value in omega arith) in
    rw c.self.view_is at (none_between c.self.inside.bits.list MAX_BITS c.args.upto (c.min.result + 1) c.prev_one.result (omega arith) (ap (λ n. n + 1) c.min.ensures) c.prev_one.ensures.between)

pub returns-clause-none : goal.returns-clause-none
returns-clause-none c =
    let same : length c.self.inside.bits.list ≡ length c.args.self.now = ap length c.self.view_is in
    let few : length c.args.self.now ≤ MAX_BITS = (let bound = c.len-len.ensures.bound in let value = c.len-len.ensures.value in omega arith) in
    rw c.self.view_is at (none_upto c.self.inside.bits.list MAX_BITS c.args.upto (c.min.result + 1) c.prev_one.result (omega arith) (ap (λ n. n + 1) c.min.ensures) c.prev_one.ensures.none)
