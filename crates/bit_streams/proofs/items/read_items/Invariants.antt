use Rattle.std.proofs.Common.{◌≡◌, ◌++◌, Bool, List, length}
use Rattle.std.specs.Prelude.{All}
use Rattle.bit_streams.specs.Fields.{items_bits}
use Rattle.bit_streams.proofs.ItemsRead.{Coming}
use Rattle.bit_streams.proofs.items.read_items.Given as goal

abbrev pub invariant-loop : goal.invariant-loop
invariant-loop g l =
    (l.fn.reader.rest ≡ items_bits g.F.Fields.bits_of l.items.items ++ l.reader.rest)
    × (length l.items.items ≡ l.counter)
    × All g.F.Fields.fits l.items.items
    × ((xs : List g.row.F.Denot) → (more : List Bool) → length xs ≡ l.count → All g.F.Fields.fits xs → l.fn.reader.rest ≡ items_bits g.F.Fields.bits_of xs ++ more
    → Coming g.F.Fields.bits_of g.F.Fields.fits xs l.items.items l.reader.rest more)
