use Rattle.std.proofs.Common.{[], sym, subst}
use Rattle.std.specs.Prelude.{remove}
use Rattle.bit_roaring.specs.Changes.{Replaces}
use Rattle.bit_roaring.specs.Keyed.{AreKeyed}
use Rattle.bit_roaring.proofs.Keys.{block_removed, block_set, keyed, keyed_removed, keyed_set}
use Rattle.bit_roaring.proofs.Made.{not_empty}
use Rattle.bit_roaring.proofs.keyed.replaced.replace_at.Goals as goal

pub returns-then-is_empty-clause-keyed : goal.returns-then-is_empty-clause-keyed
returns-then-is_empty-clause-keyed c = subst AreKeyed (sym c.remove-gone.ensures.items) (keyed_removed 0 c.args.blocks.now.items c.args.place c.requires.keyed)

pub returns-then-is_empty-clause-replaces : goal.returns-then-is_empty-clause-replaces
returns-then-is_empty-clause-replaces c =
    let bs = c.args.blocks.now.items in
    let d = keyed 0 [] in
    subst (λ l. Replaces bs l c.args.key c.args.block) (sym c.remove-gone.ensures.items)
    (subst (λ l. Replaces bs (remove bs c.args.place) c.args.key l) (sym (c.is_empty.ensures.0 c.if-is_empty.true)) (block_removed 0 bs c.args.place c.args.key d c.requires.keyed c.requires.there.inside (c.requires.there.here d)))

pub returns-else-is_empty-clause-keyed : goal.returns-else-is_empty-clause-keyed
returns-else-is_empty-clause-keyed c =
    let d = keyed 0 [] in
    keyed_set 0 c.args.blocks.now.items c.args.place c.args.key c.args.block d c.requires.keyed c.requires.there.inside (c.requires.there.here d) c.requires.ascends
    (not_empty c.args.block c.is_empty.result c.is_empty.ensures c.if-is_empty.false)

pub returns-else-is_empty-clause-replaces : goal.returns-else-is_empty-clause-replaces
returns-else-is_empty-clause-replaces c =
    let d = keyed 0 [] in
    block_set 0 c.args.blocks.now.items c.args.place c.args.key c.args.block d c.requires.keyed c.requires.there.inside (c.requires.there.here d)
