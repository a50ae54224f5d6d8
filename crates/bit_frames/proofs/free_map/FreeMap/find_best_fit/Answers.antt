use Rattle.bit_frames.proofs.Blocks.{best_fits, none_free}
use Rattle.bit_frames.proofs.free_map.FreeMap.find_best_fit.Goals as goal

pub returns-in-None : goal.returns-in-None
returns-in-None c k free = none_free c.args.self.now c.args.count c.requires c.in-None.ensures k free

pub returns-in-Some : goal.returns-in-Some
returns-in-Some c = best_fits c.args.self.now c.args.count (c.in-Some.first, c.in-Some.field-0-1) c.requires c.in-Some.ensures
