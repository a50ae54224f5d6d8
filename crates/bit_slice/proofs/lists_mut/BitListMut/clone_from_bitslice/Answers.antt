use Rattle.std.proofs.lemmas.Grind.{common_steps}
use Rattle.std.proofs.Common.{arith}
use Rattle.bit_slice.proofs.lists_mut.BitListMut.clone_from_bitslice.Goals as goal

pub copy_over-requires-clause-fits : goal.copy_over-requires-clause-fits
copy_over-requires-clause-fits g c = grind (arith, common_steps)

pub returns-clause-stays : goal.returns-clause-stays
returns-clause-stays g c = g.met.Self.BitListMut.stays_rewritten c.args.self.now _
