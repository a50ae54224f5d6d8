use Rattle.std.proofs.Common.{◌≡◌, ◌-◌, ◌*◌, ◌/◌, ◌%◌, ◌^◌, ◌<◌, refl, subst, arith}
use Rattle.bit_streams.proofs.Leading.{front_on, group_above}
use Rattle.bit_streams.proofs.Longest.{front_whole}
use Rattle.bit_streams.proofs.codes.leb128.marked_in.Goals as goal

pub overflow_add-x : goal.overflow_add-x
overflow_add-x c =
    let byte = c.args.block / 2 ^ (56 - 8 * c.loop-i.i) % 256 in
    let group = group_above c.loop-i.i c.loop-i.x (byte % 128) c.loop-i-test.true c.loop-i.invariant.small (omega arith) in
    let whole = group.0 in
    let fits = group.2 in
    omega arith

pub loop-i-preserved : goal.loop-i-preserved
loop-i-preserved c =
    let byte = c.args.block / 2 ^ (56 - 8 * c.loop-i.i) % 256 in
    front_on c.args.block c.loop-i.i c.loop-i.x byte c.loop-i-test.true refl c.if-byte-lt128.false c.loop-i.invariant

pub returns-clause-code : goal.returns-clause-code
returns-clause-code c upper some = front_whole c.args.block c.loop-i.i c.loop-i.x upper (omega arith) some c.loop-i.invariant

pub returns-clause-below : goal.returns-clause-below
returns-clause-below c =
    let all : 7 * c.loop-i.i ≡ 56 = omega arith in
    subst (λ k. c.loop-i.x < 2 ^ k) all c.loop-i.invariant.small
