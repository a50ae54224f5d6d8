use Rattle.std.proofs.Common.{refl, sym, ◌∙◌}
use Rattle.bit_rows.proofs.Binary.{number_bits_none}
use Rattle.bit_containers.proofs.Growing.{highest_bits_none}
use Rattle.bit_containers.specs.Making.{highest_bits}
use Rattle.bit_containers.proofs.vec.collect.shifted_down.Goals as goal

pub returns-then-got-eq0 : goal.returns-then-got-eq0
returns-then-got-eq0 c = rw c.if-got-eq0.true (number_bits_none 0 ∙ sym (highest_bits_none c.args.number))

pub returns-else-got-eq0 : goal.returns-else-got-eq0
unfolding highest_bits
returns-else-got-eq0 c = refl
