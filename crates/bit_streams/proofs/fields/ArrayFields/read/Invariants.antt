use Rattle.std.proofs.Common.{◌≡◌, length, take}
use Rattle.bit_streams.proofs.ItemsRead.{SoFar}
use Rattle.bit_streams.proofs.fields.ArrayFields.read.Given as goal

abbrev pub invariant-loop-i : goal.invariant-loop-i
invariant-loop-i g l =
    SoFar g.F.Fields.bits_of g.F.Fields.fits l.fn.reader.rest g.row.N (take l.i l.all) l.reader.rest × (length l.all ≡ g.row.N) × (l.before ≡ l.fn.reader)
