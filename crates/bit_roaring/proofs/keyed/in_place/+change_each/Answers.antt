use Rattle.std.proofs.Common.{◌≡◌, ◌<◌, List, [], ◌∷◌, ◌++◌, length, refl, sym, ◌∙◌, ap, subst, arith}
use Rattle.bit_blocks.specs.Numbers.{Ascends, Combines, has}
use Rattle.bit_blocks.specs.Operation.{made_by}
use Rattle.bit_blocks.specs.declared.keyed.Keyed.{Keyed}
use Rattle.bit_roaring.specs.Keyed.{AreKeyed, keys_of}
use Rattle.bit_roaring.proofs.InPlace.{combines_past, combines_there, key_found_there, keyed_after, keyed_changed, keys_changed}
use Rattle.bit_roaring.proofs.keyed.in_place.+change_each.Goals as goal

pub change_each-requires : goal.change_each-requires
change_each-requires t c =
    let shorter = c.in-Some.ensures.cases.1 in
    let others : AreKeyed (c.in-Some.other.now ∷ c.in-Some.rest.now) = subst AreKeyed c.in-Some.ensures.cases.0 c.requires.right in
    (omega arith, (c.requires.left, (keyed_after 0 [] c.in-Some.rest.now c.in-Some.other.now others, c.requires.keeps)))

pub returns-in_default-find-clause-members : goal.returns-in_default-find-clause-members
returns-in_default-find-clause-members t c = λ done.
    combines_past c.args.operation c.args.blocks.now c.args.others.now c.in-Some.rest.now _ c.in-Some.other.now c.in-Some.ensures.cases.0 c.requires.left c.in_default-find.ensures.none (c.change_each.ensures.members done)

pub change_each-requires-else-not-can_change : goal.change_each-requires-else-not-can_change
change_each-requires-else-not-can_change t c =
    let front : List Keyed = c.split_at_mut-back.result.0.now in
    let old : Keyed = c.in-Some-split_first_mut.keyed.now in
    let after : List Keyed = c.in-Some-split_first_mut.after.now in
    let parts : c.args.blocks.now ≡ front ++ old ∷ after = c.split_at_mut-back.ensures.value ∙ ap (λ l. front ++ l) c.in-Some-split_first_mut.ensures.cases.0 in
    let shorter = c.in-Some.ensures.cases.1 in
    let others : AreKeyed (c.in-Some.other.now ∷ c.in-Some.rest.now) = subst AreKeyed c.in-Some.ensures.cases.0 c.requires.right in
    (omega arith, (keyed_after 0 front after old (subst AreKeyed parts c.requires.left), (keyed_after 0 [] c.in-Some.rest.now c.in-Some.other.now others, c.requires.keeps)))

pub returns-clause-keyed : goal.returns-clause-keyed
returns-clause-keyed t c =
    let front : List Keyed = c.split_at_mut-back.result.0.now in
    let old : Keyed = c.in-Some-split_first_mut.keyed.now in
    let after : List Keyed = c.in-Some-split_first_mut.after.now in
    let parts : c.args.blocks.now ≡ front ++ old ∷ after = c.split_at_mut-back.ensures.value ∙ ap (λ l. front ++ l) c.in-Some-split_first_mut.ensures.cases.0 in
    let new : Keyed = record { key = old.key; block = c.from_bit_block-2.result } in
    let up : Ascends new.block = subst Ascends (sym c.from_bit_block-2.ensures) c.change.ensures.ascends in
    let many : 4096 < length new.block = subst (λ l. 4096 < length l) (sym c.from_bit_block-2.ensures) c.change.ensures.many in
    keyed_changed 0 front after _ old new (subst AreKeyed parts c.requires.left) refl up (omega arith) c.change_each-else-not-can_change.ensures.keyed c.change_each-else-not-can_change.ensures.keys

pub returns-clause-keys : goal.returns-clause-keys
returns-clause-keys t c =
    let front : List Keyed = c.split_at_mut-back.result.0.now in
    let old : Keyed = c.in-Some-split_first_mut.keyed.now in
    let after : List Keyed = c.in-Some-split_first_mut.after.now in
    let parts : c.args.blocks.now ≡ front ++ old ∷ after = c.split_at_mut-back.ensures.value ∙ ap (λ l. front ++ l) c.in-Some-split_first_mut.ensures.cases.0 in
    keys_changed front after _ old (record { key = old.key; block = c.from_bit_block-2.result }) refl c.change_each-else-not-can_change.ensures.keys ∙ ap keys_of (sym parts)

pub returns-clause-members : goal.returns-clause-members
returns-clause-members t c =
    let op = c.args.operation in
    let front : List Keyed = c.split_at_mut-back.result.0.now in
    let old : Keyed = c.in-Some-split_first_mut.keyed.now in
    let after : List Keyed = c.in-Some-split_first_mut.after.now in
    let other : Keyed = c.in-Some.other.now in
    let rest : List Keyed = c.in-Some.rest.now in
    let new : Keyed = record { key = old.key; block = c.from_bit_block-2.result } in
    let parts : c.args.blocks.now ≡ front ++ old ∷ after = c.split_at_mut-back.ensures.value ∙ ap (λ l. front ++ l) c.in-Some-split_first_mut.ensures.cases.0 in
    let is : c.args.others.now ≡ other ∷ rest = c.in-Some.ensures.cases.0 in
    let key : old.key ≡ other.key = key_found_there c.args.blocks.now front after old other.key c.in-Ok.place c.in-Ok.ensures parts c.split_at_mut-back.ensures.front_len in
    let one : Combines (made_by op) old.block other.block new.block = λ n.
    ap (λ l. has l n) c.from_bit_block-2.ensures ∙ c.change.ensures.members n ∙ ap (λ l. made_by op (has l n) (has c.in-Some-as_list.numbers.now n)) (c.in-Ok-into_bits.ensures ∙ c.replace-block.ensures.value)
    ∙ ap (λ l. made_by op (has old.block n) (has l n)) c.in-Some-as_list.ensures.numbers in
    let all = c.if-not-change_each.ensures.members refl in
    λ done. combines_there op c.args.blocks.now c.args.others.now front after _ rest old new other c.requires.keeps c.requires.left parts c.requires.right is key refl one all
