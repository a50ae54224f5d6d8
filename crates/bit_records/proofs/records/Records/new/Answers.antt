use Rattle.std.proofs.Common.{refl, ap, ◌∙◌, arith}
use Rattle.bit_records.specs.Records.{numbers_in}
use Rattle.bit_records.proofs.Numbers.{no_numbers}
use Rattle.bit_records.proofs.records.Records.new.Goals as goal

pub returns-clause-made : goal.returns-clause-made
returns-clause-made g c = (refl, (ap (numbers_in c.args.width) c.new.ensures.list ∙ no_numbers c.args.width (omega arith), c.new.ensures.capacity))
