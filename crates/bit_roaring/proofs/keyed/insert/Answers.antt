use Rattle.std.proofs.Common.{◌≡◌, ◌||◌, [], true, sym, ◌∙◌, ap, refl, subst}
use Rattle.std.proofs.lemmas.Bool.{eq-eqb}
use Rattle.bit_blocks.specs.Numbers.{Gains, has}
use Rattle.bit_roaring.specs.Changes.{GainsAt}
use Rattle.bit_roaring.specs.Keyed.{AreKeyed}
use Rattle.bit_roaring.specs.Places.{IsAbsent}
use Rattle.bit_roaring.proofs.Sets.{gains_absent, keyed_absent, some_has}
use Rattle.bit_roaring.proofs.keyed.insert.Goals as goal

pub returns-in_ok-insert-in-Err-2-clause-keyed : goal.returns-in_ok-insert-in-Err-2-clause-keyed
returns-in_ok-insert-in-Err-2-clause-keyed c =
    let bs = c.args.blocks.now.items in
    let low = c.args.low in
    let absent : IsAbsent bs c.args.key c.in-Err.place = subst (λ l. IsAbsent l c.args.key c.in-Err.place) c.deref.ensures.value c.in-Err.ensures in
    let there : has c.insert.new.self low ≡ true = c.in_ok-insert-in-Err.ensures.gains low ∙ ap (λ b. b || has c.new-block.result low) (eq-eqb low low refl) in
    subst AreKeyed (sym c.in_ok-insert-in-Err-2.ensures.items) (keyed_absent bs c.args.key c.in-Err.place c.insert.new.self c.requires absent c.ranges.key.fits c.insert.ensures.ascends (some_has c.insert.new.self low there))

pub returns-in_ok-insert-in-Err-2-clause-gains : goal.returns-in_ok-insert-in-Err-2-clause-gains
returns-in_ok-insert-in-Err-2-clause-gains c =
    let bs = c.args.blocks.now.items in
    let low = c.args.low in
    let absent : IsAbsent bs c.args.key c.in-Err.place = subst (λ l. IsAbsent l c.args.key c.in-Err.place) c.deref.ensures.value c.in-Err.ensures in
    let gains : Gains [] c.insert.new.self low = subst (λ l. Gains l c.insert.new.self low) c.new-block.ensures c.in_ok-insert-in-Err.ensures.gains in
    subst (λ l. GainsAt bs l c.args.key low) (sym c.in_ok-insert-in-Err-2.ensures.items) (gains_absent bs c.args.key c.in-Err.place low c.insert.new.self c.requires absent gains)
