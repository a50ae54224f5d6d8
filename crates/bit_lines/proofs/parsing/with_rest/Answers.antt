use Rattle.bit_lines.proofs.Fields.{too_many_fields}
use Rattle.bit_lines.proofs.parsing.with_rest.Goals as goal

pub returns-in-Some : goal.returns-in-Some
returns-in-Some c =
    let cut = rw c.in-Some.is at c.cut_part.ensures.parts in
    rw cut (too_many_fields c.args.word.now c.args.a.now c.args.b.now c.args.c.now c.cut_part.result.0.now c.in-Some.field-0.now)
