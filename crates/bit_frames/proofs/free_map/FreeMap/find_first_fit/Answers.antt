use Rattle.bit_frames.proofs.Frames.{first_fit}
use Rattle.bit_frames.proofs.free_map.FreeMap.find_first_fit.Goals as goal

pub returns : goal.returns
returns c = first_fit c.args.self.now c.args.count c.find_next_fit.result c.find_next_fit.ensures
