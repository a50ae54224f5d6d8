use Rattle.std.proofs.Common.{◌≡◌, ℕ, false, [], refl, ◌∙◌, ap, subst}
use Rattle.std.specs.Prelude.{All}
use Rattle.bit_blocks.specs.Numbers.{Combines, has}
use Rattle.bit_blocks.specs.Operation.{made_by}
use Rattle.bit_roaring.specs.Changes.{CombinesEach, IsMade}
use Rattle.bit_roaring.specs.Keyed.{block_at, keys_of}
use Rattle.bit_roaring.proofs.Changed.{changed_combined}
use Rattle.bit_roaring.proofs.InPlace.{each_or_none}
use Rattle.bit_roaring.proofs.keyed.changed.combine.Goals as goal

pub returns-clause-members : goal.returns-clause-members
returns-clause-members c =
    let op = c.args.operation in
    let others = c.args.others.now in
    let old = c.args.blocks.now.items in
    let keys = c.in_ok-keys.keys.items in
    let made = c.in_ok-made.made.items in
    let was = c.in_ok-reserve.ensures.items in
    let same = c.change_all.ensures.keys ∙ ap keys_of was in
    let each = subst (λ l. CombinesEach (made_by op) l others c.change_all.new.blocks.items) was (c.if-not-change_all.ensures.members refl) in
    changed_combined op old c.change_all.new.blocks.items c.replace_each.new.blocks.items others made keys (c.in_ok-made.ensures.keys ∙ c.deref-4.ensures.value)
    (subst (λ l. All (IsMade (made_by op) l others) made) c.deref-3.ensures.value c.in_ok-made.ensures.each) c.replace_each.ensures.replaces
    (each_or_none op old c.change_all.new.blocks.items others keys same each
    (subst (λ l. (k : ℕ) → has keys k ≡ false → has (keys_of l) k ≡ false → Combines (made_by op) [] (block_at others k) []) c.deref-2.ensures.value c.in_ok-keys.ensures.none))
