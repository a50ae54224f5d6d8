use Rattle.std.proofs.Common.{◌/◌, ◌%◌, subst, arith}
use Rattle.bit_blocks.specs.Numbers.{GainsBetween}
use Rattle.bit_roaring.proofs.Sets.{here_there, keyed_there, replaced_there}
use Rattle.bit_roaring.proofs.Within.{gains_within, some_gained}
use Rattle.bit_roaring.proofs.keyed.ranges.insert_within.Goals as goal

pub returns-clause-keyed : goal.returns-clause-keyed
returns-clause-keyed c =
    let at = c.index_mut-keyed.result.now in
    keyed_there c.args.blocks.now.items (c.args.first / 65536) c.args.place at c.insert_range.new.self c.requires.keyed c.requires.there c.index_mut-keyed.ensures.value c.insert_range.ensures.ascends
    (some_gained at.block c.insert_range.new.self (c.args.first % 65536) (c.args.last % 65536) (omega (arith, c.requires.key)) c.in_ok-insert_range.ensures.gains)

pub returns-clause-gains : goal.returns-clause-gains
returns-clause-gains c =
    let bs = c.args.blocks.now.items in
    let key = c.args.first / 65536 in
    let at = c.index_mut-keyed.result.now in
    let new = c.insert_range.new.self in
    let is = c.index_mut-keyed.ensures.value in
    gains_within bs _ c.args.first c.args.last new c.requires.keyed (returns-clause-keyed c) c.requires.key (replaced_there bs key c.args.place at new c.requires.keyed c.requires.there is)
    (subst (λ l. GainsBetween l new (c.args.first % 65536) (c.args.last % 65536)) (here_there bs key c.args.place at c.requires.there is) c.in_ok-insert_range.ensures.gains)
