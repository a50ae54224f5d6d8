use Rattle.std.proofs.Common.{◌≡◌, false, refl, sym, subst}
use Rattle.bit_blocks.specs.Numbers.{Ascends, has}
use Rattle.bit_roaring.proofs.Made.{all_made, one_made}
use Rattle.bit_roaring.proofs.keyed.combined.Goals as goal

pub loop-key-preserved : goal.loop-key-preserved
loop-key-preserved c =
    let keys = c.deref-key-items.result.now in
    let up : Ascends keys = subst Ascends (sym c.deref-key-items.ensures.value) c.in_ok-keys.ensures.ascends in
    one_made c.args.operation c.args.left.now c.args.right.now keys c.loop-key.made.items c.push_some.new.blocks.items c.loop-key.key-index _ c.in_ok-block.block up c.loop-key-test.true refl c.loop-key.invariant c.in_ok-block.ensures.members
    c.in_ok-push_some.ensures.keyed c.in_ok-push_some.ensures.below c.in_ok-push_some.ensures.replaces

pub returns-clause-members : goal.returns-clause-members
returns-clause-members c =
    let keys = c.deref-key-items.result.now in
    let same = c.deref-key-items.ensures.value in
    all_made c.args.operation c.args.left.now c.args.right.now keys c.loop-key.made.items c.loop-key.key-index c.loop-key-test.false c.loop-key.invariant (λ k out. c.in_ok-keys.ensures.all k (subst (λ l. has l k ≡ false) same out))
