use Rattle.std.proofs.Common.{◌/◌, sym, ap, arith}
use Rattle.std.proofs.Math.Nat.{div-zero}
use Rattle.bit_sets.proofs.Packed.{log2_is, log2_small}
use Rattle.bit_sets.proofs.sorted.making.width_for.Goals as goal

pub returns-then-len-eq0-clause-value : goal.returns-then-len-eq0-clause-value
returns-then-len-eq0-clause-value c = let none = c.if-len-eq0.true in sym (log2_small (c.args.last / c.args.len) (let e = ap (λ n. c.args.last / n) none in let z = div-zero c.args.last in omega arith))

pub returns-then-gap-eq0-clause-value : goal.returns-then-gap-eq0-clause-value
returns-then-gap-eq0-clause-value c = let none = c.if-gap-eq0.true in sym (log2_small (c.args.last / c.args.len) (omega arith))

pub returns-else-gap-eq0-clause-value : goal.returns-else-gap-eq0-clause-value
returns-else-gap-eq0-clause-value c = let e = c.ilog2.ensures in sym (log2_is (c.args.last / c.args.len) c.ilog2.result e.bound e.power_le e.next_power_gt)
