use Rattle.std.proofs.Common.{◌+◌, arith}
use Rattle.std.proofs.Math.Pow.{pow_mono}
use Rattle.bit_streams.proofs.Held.{wide_joined}
use Rattle.bit_streams.proofs.Lists.{joined_below}
use Rattle.bit_streams.proofs.sink.held_with.Goals as goal

pub overflow_add-result : goal.overflow_add-result
overflow_add-result c =
    let few = c.requires.few in
    let room = c.requires.room in
    let is = wide_joined c.args.held c.args.n c.args.pending c.args.x (omega arith) (omega arith) c.requires.small in
    let below = joined_below c.args.held c.args.n c.args.pending c.args.x c.requires.small in
    let most = pow_mono {i = c.args.held + c.args.n} {j = 128} (omega arith) in
    omega arith

pub returns : goal.returns
returns c =
    let few = c.requires.few in
    let room = c.requires.room in
    wide_joined c.args.held c.args.n c.args.pending c.args.x (omega arith) (omega arith) c.requires.small
