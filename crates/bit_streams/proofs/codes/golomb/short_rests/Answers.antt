use Rattle.std.proofs.Common.{arith}
use Rattle.bit_streams.proofs.Rests.{one_shl, short_is}
use Rattle.bit_streams.proofs.codes.golomb.short_rests.Goals as goal

pub overflow_sub-result : goal.overflow_sub-result
overflow_sub-result c =
    let s = short_is c.args.m c.args.top c.requires.some (omega arith) c.requires.top in
    let one = one_shl c.args.top s.3 in
    let least = s.0 in
    omega arith

pub overflow_sub-result-2 : goal.overflow_sub-result-2
overflow_sub-result-2 c =
    let s = short_is c.args.m c.args.top c.requires.some (omega arith) c.requires.top in
    let one = one_shl c.args.top s.3 in
    let most = s.1 in
    let double = s.2 in
    omega arith

pub returns-clause-value : goal.returns-clause-value
returns-clause-value c =
    let s = short_is c.args.m c.args.top c.requires.some (omega arith) c.requires.top in
    let one = one_shl c.args.top s.3 in
    let least = s.0 in
    let most = s.1 in
    let double = s.2 in
    omega arith

pub returns-clause-within : goal.returns-clause-within
returns-clause-within c =
    let s = short_is c.args.m c.args.top c.requires.some (omega arith) c.requires.top in
    let one = one_shl c.args.top s.3 in
    let least = s.0 in
    let most = s.1 in
    let double = s.2 in
    omega arith
