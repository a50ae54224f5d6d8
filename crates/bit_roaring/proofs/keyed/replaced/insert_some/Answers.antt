use Rattle.std.proofs.Common.{◌≡◌, cond, insert, sym, ◌∙◌, ap, subst}
use Rattle.bit_roaring.specs.Changes.{Replaces}
use Rattle.bit_roaring.specs.Keyed.{AreKeyed}
use Rattle.bit_roaring.proofs.Keys.{block_inserted, keyed}
use Rattle.bit_roaring.proofs.Made.{not_empty}
use Rattle.bit_roaring.proofs.Sets.{keyed_absent}
use Rattle.bit_roaring.proofs.keyed.replaced.insert_some.Goals as goal
use Rattle.bit_roaring.proofs.keyed.replaced.insert_some.Goals.{Joined-done}

put_in : (c : Joined-done) → c.insert-done.new.self.items ≡ insert c.args.blocks.now.items c.args.place (keyed c.args.key c.args.block)
put_in c =
    let bs = c.args.blocks.now.items in
    c.insert-done.ensures.items ∙ ap (λ t. cond t (insert bs c.args.place (keyed c.args.key c.args.block)) bs) (c.insert-done.ensures.succeeds c.requires.room)

pub returns-then-not-is_empty-clause-keyed : goal.returns-then-not-is_empty-clause-keyed
returns-then-not-is_empty-clause-keyed c =
    subst AreKeyed (sym (put_in c)) (keyed_absent c.args.blocks.now.items c.args.key c.args.place c.args.block c.requires.keyed c.requires.absent c.ranges.key.fits c.requires.ascends
    (not_empty c.args.block c.is_empty.result c.is_empty.ensures c.if-not-is_empty.true))

pub returns-then-not-is_empty-clause-replaces : goal.returns-then-not-is_empty-clause-replaces
returns-then-not-is_empty-clause-replaces c =
    let bs = c.args.blocks.now.items in
    subst (λ l. Replaces bs l c.args.key c.args.block) (sym (put_in c)) (block_inserted 0 bs c.args.place c.args.key c.args.block c.requires.keyed c.requires.absent.within c.requires.absent.place)
