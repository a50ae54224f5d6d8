use Rattle.bit_slice.proofs.Iteration.{ranges_in_order}
use Rattle.bit_slice.proofs.slice.BitSlice.iter_ranges.Goals as goal

pub returns-clause-runs : goal.returns-clause-runs
returns-clause-runs g c = ranges_in_order g.T.BitStore g.O.BitOrder
