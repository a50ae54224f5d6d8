use Rattle.std.proofs.Common.{◌≡◌, map-id, sym, ◌∙◌, ap, subst}
use Rattle.std.specs.List.{splice}
use Rattle.std.proofs.lemmas.Iterator.{items_from_drains}
use Rattle.std.proofs.lemmas.Iterator.Adapters.{YieldsList-from_vec}
use Rattle.bit_blocks.specs.Numbers.{has}
use Rattle.bit_roaring.specs.Keyed.{AreKeyed, set_numbers}
use Rattle.bit_roaring.specs.Ranges.{ChangesPart}
use Rattle.bit_roaring.proofs.Between.{part_changed, part_changed_keyed}
use Rattle.bit_roaring.proofs.keyed.ranges.change_range.Goals as goal

pub returns-clause-keyed : goal.returns-clause-keyed
returns-clause-keyed c =
    let part = c.in_ok-part.part in
    let bs = c.args.blocks.now.items in
    let h = c.in_ok-_gone.ensures.items in
    let given : h.1 ≡ part.made.items = sym (map-id h.1) ∙ items_from_drains h.1 (h.3.1.0, h.3.1.1, λ _. (h.3.0, h.3.1.2)) (YieldsList-from_vec part.made.items h.2.0 (h.2.1 ∙ part.made.ok.0)) in
    let changes : ChangesPart c.args.operation bs part.made.items c.args.first c.args.last part.from part.upto = subst (λ l. ChangesPart c.args.operation l part.made.items c.args.first c.args.last part.from part.upto) c.deref.ensures.value c.in_ok-part.ensures.made in
    subst AreKeyed (sym (h.4 ∙ ap (splice bs part.from part.upto) given)) (part_changed_keyed c.args.operation bs part.made.items c.args.first c.args.last part.from part.upto c.requires.keeps c.requires.keyed c.requires.ordered changes)

pub returns-clause-members : goal.returns-clause-members
returns-clause-members c n =
    let part = c.in_ok-part.part in
    let bs = c.args.blocks.now.items in
    let h = c.in_ok-_gone.ensures.items in
    let given : h.1 ≡ part.made.items = sym (map-id h.1) ∙ items_from_drains h.1 (h.3.1.0, h.3.1.1, λ _. (h.3.0, h.3.1.2)) (YieldsList-from_vec part.made.items h.2.0 (h.2.1 ∙ part.made.ok.0)) in
    let changes : ChangesPart c.args.operation bs part.made.items c.args.first c.args.last part.from part.upto = subst (λ l. ChangesPart c.args.operation l part.made.items c.args.first c.args.last part.from part.upto) c.deref.ensures.value c.in_ok-part.ensures.made in
    ap (λ l. has (set_numbers l) n) (h.4 ∙ ap (splice bs part.from part.upto) given) ∙ part_changed c.args.operation bs part.made.items c.args.first c.args.last part.from part.upto c.requires.keeps c.requires.keyed c.requires.ordered changes n
