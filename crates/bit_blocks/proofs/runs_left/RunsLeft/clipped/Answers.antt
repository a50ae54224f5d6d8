use Rattle.std.proofs.Common.{◌+◌, ◌-◌, length, refl, arith}
use Rattle.bit_blocks.specs.declared.ranged.Run.{Run}
use Rattle.bit_blocks.proofs.Clipped.{one_clipped, part_ordered, several_clipped}
use Rattle.bit_blocks.proofs.runs_left.RunsLeft.clipped.Goals as goal

abbrev none : Run
none = record { first = 0; last = 0 }

pub invariant_of-result-2 : goal.invariant_of-result-2
invariant_of-result-2 c =
    let runs = c.args.runs.now in
    record { front_small = omega arith; middle_ordered = part_ordered runs 1 (length runs - 1 - 1) c.requires.runs; back_small = omega arith }

pub returns-then-count-eq1 : goal.returns-then-count-eq1
returns-then-count-eq1 c =
    one_clipped c.args.runs.now c.args.first c.args.last c.max.result (c.min.result + 1) none c.requires.runs (omega arith) c.max.ensures (omega arith)

pub returns : goal.returns
returns c =
    several_clipped c.args.runs.now c.args.first c.args.last _ _ _ _ none c.requires.runs (omega arith) c.requires.ordered c.requires.meet c.max-2.ensures refl refl (omega arith)
