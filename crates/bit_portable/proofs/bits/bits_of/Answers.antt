use Rattle.std.proofs.Common.{ap, ◌∙◌}
use Rattle.std.proofs.lemmas.List.{map-id}
use Rattle.bit_slice.specs.Places.{ones_of}
use Rattle.bit_portable.proofs.Rowed.{row64, row_numbers}
use Rattle.bit_portable.proofs.bits.bits_of.Goals as goal

pub returns-clause-numbers : goal.returns-clause-numbers
returns-clause-numbers c = ap ones_of (c.from_vec.ensures.list ∙ ap row64 (map-id c.args.words.items)) ∙ row_numbers c.args.words.items c.requires
