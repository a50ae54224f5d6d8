-- What an iterator over the numbers of runs has left.
use Rattle.std.specs.Prelude.{ℕ, ◌-◌, List, ◌++◌}
use Rattle.std.specs.List.{range_with_len}
use Rattle.bit_blocks.specs.Runs.{run_numbers}
use Rattle.bit_blocks.specs.declared.runs_left.RunsLeft.{RunsLeft}

-- the numbers that are left: of the run that was begun from the front, of those that were not begun, and of the one from the back
abbrev pub runs_left : RunsLeft → List ℕ
runs_left s = range_with_len s.from (s.upto - s.from) ++ (run_numbers s.middle.now ++ range_with_len s.back_from (s.back_upto - s.back_from))
