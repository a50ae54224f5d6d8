use Rattle.std.proofs.Common.{◌≡◌, ◌-◌, ◌*◌, ◌/◌, ◌%◌, ◌^◌, refl, arith}
use Rattle.bit_streams.proofs.Leading.{front_last, front_on, group_above}
use Rattle.bit_streams.proofs.codes.leb128.number_in.Goals as goal
use Rattle.bit_streams.proofs.codes.leb128.number_in.Goals.{else-byte-eq0-via-then-byte-eq0+else-i-gt0, else-byte-eq0-via-else-byte-eq0}

pub overflow_add-result : goal.overflow_add-result
overflow_add-result c =
    let byte = c.args.block / 2 ^ (56 - 8 * c.loop-i.i) % 256 in
    let group = group_above c.loop-i.i c.loop-i.x byte c.loop-i-test.true c.loop-i.invariant.small c.if-byte-lt128.true in
    let whole = group.0 in
    let fits = group.2 in
    omega arith

pub returns-then-byte-lt128-clause-code : goal.returns-then-byte-lt128-clause-code
returns-then-byte-lt128-clause-code c some =
    let byte = c.args.block / 2 ^ (56 - 8 * c.loop-i.i) % 256 in
    let shortest : byte ≡ 0 → c.loop-i.i ≡ 0 = elim c.else-byte-eq0.branch [
      | else-byte-eq0-via-then-byte-eq0+else-i-gt0 w ↦ λ none. omega arith
      | else-byte-eq0-via-else-byte-eq0 w ↦ λ none. absurd (w.if-byte-eq0.false none)
    ] in
    (front_last c.args.block c.loop-i.i c.loop-i.x byte c.loop-i-test.true refl c.if-byte-lt128.true shortest c.loop-i.invariant).0

pub returns-then-byte-lt128-clause-below : goal.returns-then-byte-lt128-clause-below
returns-then-byte-lt128-clause-below c =
    let byte = c.args.block / 2 ^ (56 - 8 * c.loop-i.i) % 256 in
    let group = group_above c.loop-i.i c.loop-i.x byte c.loop-i-test.true c.loop-i.invariant.small c.if-byte-lt128.true in
    let whole = group.0 in
    let fits = group.2 in
    omega arith

pub overflow_add-x : goal.overflow_add-x
overflow_add-x c =
    let byte = c.args.block / 2 ^ (56 - 8 * c.loop-i.i) % 256 in
    let group = group_above c.loop-i.i c.loop-i.x (byte % 128) c.loop-i-test.true c.loop-i.invariant.small (omega arith) in
    let whole = group.0 in
    let fits = group.2 in
    omega arith

pub loop-i-preserved : goal.loop-i-preserved
loop-i-preserved c =
    let byte = c.args.block / 2 ^ (56 - 8 * c.loop-i.i) % 256 in
    front_on c.args.block c.loop-i.i c.loop-i.x byte c.loop-i-test.true refl c.if-byte-lt128.false c.loop-i.invariant
