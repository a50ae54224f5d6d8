use Rattle.std.proofs.Common.{length, sym, ap, ◌∙◌}
use Rattle.bit_sets.proofs.Packed.{length_numbers}
use Rattle.bit_sets.proofs.sorted.SortedNumbers.len.Goals as goal

pub returns : goal.returns
returns c = let s = c.self.inside in sym (length_numbers s.len s.width s.high.list s.low.list) ∙ ap length c.self.view_is
