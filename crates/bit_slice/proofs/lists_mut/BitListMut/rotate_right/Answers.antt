use Rattle.bit_slice.proofs.Moved.{rotated_right_front, rotated_right_back}
use Rattle.std.proofs.lemmas.Grind.{common_steps}
use Rattle.std.proofs.Common.{arith}
use Rattle.bit_slice.proofs.lists_mut.BitListMut.rotate_right.Goals as goal

pub returns-clause-stays : goal.returns-clause-stays
returns-clause-stays g c = g.met.Self.BitListMut.stays_rewritten c.args.self.now _

pub returns-clause-back : goal.returns-clause-back
returns-clause-back g c = grind (arith, common_steps, rotated_right_front, rotated_right_back)
