use Rattle.std.proofs.Common.{arith, Some, ap, sym}
use Rattle.bit_records.proofs.Running.{left_count}
use Rattle.bit_records.proofs.iter.IterIterator.size_hint.Goals as goal

pub returns-clause-lower : goal.returns-clause-lower
returns-clause-lower g c _ =
    let s = c.args.self.now in
    omega (arith, left_count s.records.now.list s.from s.upto s.fits.1)

pub returns-clause-value : goal.returns-clause-value
returns-clause-value g c =
    let s = c.args.self.now in
    ap (λ n. (n, Some n)) (sym (left_count s.records.now.list s.from s.upto s.fits.1))
