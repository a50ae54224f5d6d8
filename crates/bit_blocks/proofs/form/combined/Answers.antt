use Rattle.std.proofs.Common.{arith}
use Rattle.bit_blocks.specs.Form.{AreListed}
use Rattle.bit_blocks.proofs.Forms.{listed_merged}
use Rattle.bit_blocks.proofs.form.combined.Goals as goal

pub returns-then-are_merged-clause-form : goal.returns-then-are_merged-clause-form
returns-then-are_merged-clause-form c =
    let numbers = c.in-Listed-Listed.numbers in
    let others = c.in-Listed-Listed.others in
    let left : AreListed numbers.items = rw c.in-Listed-Listed.is-0 at c.requires.left in
    let right : AreListed others.items = rw c.in-Listed-Listed.is-1 at c.requires.right in
    let made = rw (c.deref.ensures.value, c.deref-then-are_merged.ensures.value) at c.in_ok-made.ensures.members in
    listed_merged c.args.operation numbers.items others.items c.in_ok-made.made.items left right c.in_ok-made.ensures.ascends
    (λ keeps. let few = c.are_merged.ensures.few c.if-are_merged.true keeps in omega (arith, c.len.ensures, c.len-in-Listed-Listed.ensures, numbers.ok.0, others.ok.0)) made
