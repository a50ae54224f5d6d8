use Rattle.std.proofs.Common.{sym}
use Rattle.bit_records.proofs.Running.{left_count}
use Rattle.bit_records.proofs.iter.IterExactSizeIterator.len.Goals as goal

pub returns-clause-value : goal.returns-clause-value
returns-clause-value g c =
    let s = c.args.self.now in
    sym (left_count s.records.now.list s.from s.upto s.fits.1)
