use Rattle.std.proofs.Common.{sym, ◌∙◌, ap}
use Rattle.bit_containers.specs.Repeated.{alternating}
use Rattle.bit_containers.proofs.Alternating.{from_false, from_true}
use Rattle.bit_containers.proofs.vec.dedup.in_turn.Goals as goal

pub returns-then-first : goal.returns-then-first
returns-then-first c = from_true ∙ ap (alternating 64) (sym c.if-first.true)

pub returns-else-first : goal.returns-else-first
returns-else-first c = from_false ∙ ap (alternating 64) (sym c.if-first.false)
