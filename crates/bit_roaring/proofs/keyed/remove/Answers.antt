use Rattle.std.proofs.Common.{◌≤◌, length, sym, ◌∙◌, ap, subst, arith}
use Rattle.bit_blocks.specs.Numbers.{has}
use Rattle.bit_roaring.specs.Changes.{LosesAt}
use Rattle.bit_roaring.specs.Keyed.{AreKeyed}
use Rattle.bit_roaring.specs.Places.{IsThere}
use Rattle.bit_roaring.proofs.Keys.{keyed_removed}
use Rattle.bit_roaring.proofs.Sets.{here_there, loses_none, loses_only}
use Rattle.bit_roaring.proofs.keyed.remove.Goals as goal

pub returns-then-not-contains-clause-loses : goal.returns-then-not-contains-clause-loses
returns-then-not-contains-clause-loses c =
    let bs = c.args.blocks.now.items in
    let there : IsThere bs c.args.key c.in-Ok.place = subst (λ l. IsThere l c.args.key c.in-Ok.place) c.deref.ensures.value c.in-Ok.ensures in
    loses_none bs c.args.key c.args.low (ap (λ l. has l c.args.low) (sym (here_there bs c.args.key c.in-Ok.place c.index-2.result.now there c.index-2.ensures)) ∙ sym c.if-not-contains.ensures)

pub returns-clause-keyed : goal.returns-clause-keyed
returns-clause-keyed c = subst AreKeyed (sym c.remove-last.ensures.items) (keyed_removed 0 c.args.blocks.now.items c.in-Ok.place c.requires)

pub returns-clause-loses : goal.returns-clause-loses
returns-clause-loses c =
    let bs = c.args.blocks.now.items in
    let at = c.index-2.result.now in
    let there : IsThere bs c.args.key c.in-Ok.place = subst (λ l. IsThere l c.args.key c.in-Ok.place) c.deref.ensures.value c.in-Ok.ensures in
    let same = here_there bs c.args.key c.in-Ok.place at there c.index-2.ensures in
    let first = here_there bs c.args.key c.in-Ok.place c.index.result.now there c.index.ensures in
    let few : length at.block ≤ 1 = subst (λ l. length l ≤ 1) (first ∙ sym same) (omega (arith, c.len.ensures.value, c.if-len-gt1.false)) in
    subst (λ l. LosesAt bs l c.args.key c.args.low) (sym c.remove-last.ensures.items) (loses_only bs c.args.key c.in-Ok.place c.args.low at c.requires there c.index-2.ensures few (sym c.if-not-contains.ensures))
