use Rattle.std.proofs.Common.{◌≡◌, ℕ, false, ◌∙◌, subst}
use Rattle.std.specs.Prelude.{All}
use Rattle.bit_blocks.specs.Numbers.{Combines, has}
use Rattle.bit_blocks.specs.Operation.{made_by}
use Rattle.bit_roaring.specs.Changes.{IsMade}
use Rattle.bit_roaring.specs.Keyed.{block_at}
use Rattle.bit_roaring.proofs.Changed.{changed_if_done}
use Rattle.bit_roaring.proofs.keyed.changed.put_made.Goals as goal

pub returns-clause-members : goal.returns-clause-members
returns-clause-members c =
    let f = made_by c.args.operation in
    let others = c.args.others.now in
    let keys = c.in_ok-keys.keys.items in
    let made = c.in_ok-made.made.items in
    changed_if_done c.put_all.result c.args.operation c.args.blocks.now.items c.put_all.new.blocks.items others made keys (c.in_ok-made.ensures.keys ∙ c.deref-3.ensures.value)
    (subst (λ l. All (IsMade f l others) made) c.deref-2.ensures.value c.in_ok-made.ensures.each) c.put_all.ensures.replaces
    (subst (λ l. (k : ℕ) → has keys k ≡ false → Combines f (block_at l k) (block_at others k) (block_at l k)) c.deref.ensures.value c.in_ok-keys.ensures.others)
