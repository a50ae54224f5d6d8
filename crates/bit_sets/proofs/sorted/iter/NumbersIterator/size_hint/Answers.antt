use Rattle.std.proofs.Common.{Some, sym, ap, arith}
use Rattle.bit_slice.specs.BitSlice.{list_of}
use Rattle.bit_sets.proofs.Left.{numbers_count}
use Rattle.bit_sets.proofs.sorted.iter.NumbersIterator.size_hint.Goals as goal

pub returns-clause-lower : goal.returns-clause-lower
returns-clause-lower c _ =
    let s = c.args.self.now in
    let size = numbers_count s.len s.width (list_of s.high) (list_of s.low) s.at s.end s.ordered.1 in
    omega arith

pub returns-clause-upper : goal.returns-clause-upper
returns-clause-upper c =
    let s = c.args.self.now in
    let size = numbers_count s.len s.width (list_of s.high) (list_of s.low) s.at s.end s.ordered.1 in
    (tt, omega arith)

pub returns-clause-value : goal.returns-clause-value
returns-clause-value c =
    let s = c.args.self.now in
    let size = numbers_count s.len s.width (list_of s.high) (list_of s.low) s.at s.end s.ordered.1 in
    ap (λ n. (n, Some n)) (sym size)
