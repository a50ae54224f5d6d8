use Rattle.std.proofs.Common.{◌≡◌, ◌||◌, true, ◌∙◌, ap, refl}
use Rattle.std.proofs.lemmas.Bool.{eq-eqb}
use Rattle.bit_blocks.specs.Numbers.{has}
use Rattle.bit_roaring.proofs.Sets.{gains_there, keyed_there, some_has}
use Rattle.bit_roaring.proofs.keyed.insert_at.Goals as goal

pub returns-clause-keyed : goal.returns-clause-keyed
returns-clause-keyed c =
    let at = c.index_mut-keyed.result.now in
    let low = c.args.low in
    let there : has c.insert.new.self low ≡ true = c.in_ok-new.ensures.gains low ∙ ap (λ b. b || has at.block low) (eq-eqb low low refl) in
    keyed_there c.args.blocks.now.items c.args.key c.args.place at c.insert.new.self c.requires.keyed c.requires.there c.index_mut-keyed.ensures.value c.insert.ensures.ascends (some_has c.insert.new.self low there)

pub returns-clause-gains : goal.returns-clause-gains
returns-clause-gains c =
    gains_there c.args.blocks.now.items c.args.key c.args.place c.args.low c.index_mut-keyed.result.now c.insert.new.self c.requires.keyed c.requires.there c.index_mut-keyed.ensures.value c.in_ok-new.ensures.gains
