use Rattle.bit_slice.proofs.Rules.{item_of_combined}
use Rattle.std.proofs.lemmas.Grind.{common_steps}
use Rattle.std.proofs.Common.{arith}
use Rattle.bit_slice.proofs.lists_mut.BitListMut.assign.Goals as goal

pub assign_over-requires-clause-fits : goal.assign_over-requires-clause-fits
assign_over-requires-clause-fits g c = grind (arith, common_steps, item_of_combined)

pub returns-clause-stays : goal.returns-clause-stays
returns-clause-stays g c = g.met.Self.BitListMut.stays_rewritten c.args.self.now _
