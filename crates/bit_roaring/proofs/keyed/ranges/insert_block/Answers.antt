use Rattle.std.proofs.Common.{◌+◌, sym, subst, arith}
use Rattle.bit_roaring.specs.Keyed.{AreKeyed, set_numbers}
use Rattle.bit_roaring.specs.Ranges.{GainsRange}
use Rattle.bit_roaring.proofs.Within.{inserted_gains, inserted_keyed}
use Rattle.bit_roaring.proofs.keyed.ranges.insert_block.Goals as goal

pub returns-clause-keyed : goal.returns-clause-keyed
returns-clause-keyed c =
    subst AreKeyed (sym c.in_ok-insert.ensures.items) (inserted_keyed c.args.blocks.now.items c.args.first c.args.last c.args.place c.requires.keyed c.requires.ordered c.requires.key c.requires.absent c.in_ok-block.block c.in_ok-block.ensures (omega arith))

pub returns-clause-gains : goal.returns-clause-gains
returns-clause-gains c =
    let bs = c.args.blocks.now.items in
    subst (λ l. GainsRange (set_numbers bs) (set_numbers l) c.args.first (c.args.last + 1)) (sym c.in_ok-insert.ensures.items)
    (inserted_gains bs c.args.first c.args.last c.args.place c.requires.keyed c.requires.ordered c.requires.key c.requires.absent c.in_ok-block.block c.in_ok-block.ensures (omega arith))
