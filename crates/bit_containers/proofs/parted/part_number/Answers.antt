use Rattle.std.proofs.Common.{◌∙◌}
use Rattle.bit_containers.proofs.TextParts.{parsed, no_number, no_plus}
use Rattle.bit_containers.proofs.parted.part_number.Goals as goal

pub returns-in-Ok : goal.returns-in-Ok
returns-in-Ok c =
    let same = c.in-Ok.ensures.cases.0 in
    let read = rw same at c.parse.ensures.value.0 in
    c.ok.ensures.value ∙ parsed c.args.part.now c.parse.result c.if-part-gt-MAX_DIGITS.false (no_plus c.args.part.now c.if-has_plus.ensures) read

pub returns-in-Err : goal.returns-in-Err
returns-in-Err c = no_number c.args.part.now c.in-Err.ensures.cases.0
