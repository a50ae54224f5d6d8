use Rattle.std.proofs.Common.{rules}
use Rattle.bit_containers.proofs.Clean.{clean_words}
use Rattle.bit_containers.proofs.vec.BitVec.into_vec.Goals as goal

pub returns-clause-clean : goal.returns-clause-clean
returns-clause-clean g c = λ clean. clean_words g.T.BitStore g.O.BitOrder c.args.self _ g.met.T.BitStore.width (search rules) clean
