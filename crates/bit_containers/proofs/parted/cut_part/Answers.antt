use Rattle.bit_containers.proofs.TextParts.{cut_at, uncut, rest_whole}
use Rattle.bit_containers.proofs.parted.cut_part.Goals as goal

pub returns-in-Some-clause-parts : goal.returns-in-Some-clause-parts
returns-in-Some-clause-parts c = rw rest_whole (cut_at c.args.separator c.args.text.now c.in-Some.at c.in-Some.ensures)

pub returns-in-None-clause-parts : goal.returns-in-None-clause-parts
returns-in-None-clause-parts c = uncut c.args.separator c.args.text.now c.in-None.ensures
