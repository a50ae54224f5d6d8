use Rattle.std.proofs.Common.{ℕ, ◌+◌, ◌/◌, ◌%◌, eqb}
use Rattle.bit_addressing.proofs.Tables.{entries_taken}
use Rattle.bit_addressing.proofs.pair_table.PairTable.new.Goals as goal

pub returns : goal.returns
returns g c =
    let w = g.T.BitStore.BITS in
    let at = c.args.at in
    λ i h.
    let source : ℕ = g.P.BitOrder.place w ((at + i) % w) in
    let q : ℕ = g.O.BitOrder.place w i in (
      entries_taken c.columns.result c.fill_entries.new.entries source q (eqb ((at + i) / w) 0) c.fill_entries.ensures (λ p k. c.columns.ensures i p h k),
      entries_taken c.columns-2.result c.fill_entries-2.new.entries source q (eqb ((at + i) / w) 1) c.fill_entries-2.ensures (λ p k. c.columns-2.ensures i p h k),
    )
