use Rattle.bit_slice.proofs.Moved.{shifted_right_at, shifted_right_front}
use Rattle.std.proofs.lemmas.Grind.{common_steps}
use Rattle.std.proofs.Common.{arith}
use Rattle.bit_slice.proofs.lists_mut.BitListMut.shift_right.Goals as goal

pub returns-clause-kept : goal.returns-clause-kept
returns-clause-kept g c = grind (arith, common_steps, shifted_right_at, shifted_right_front)

pub returns-clause-stays : goal.returns-clause-stays
returns-clause-stays g c = g.met.Self.BitListMut.stays_rewritten c.args.self.now _
