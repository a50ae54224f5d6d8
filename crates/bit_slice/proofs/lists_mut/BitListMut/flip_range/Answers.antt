use Rattle.std.proofs.Common.{slice_get, ap, ◌∙◌, arith, rules}
use Rattle.bit_slice.proofs.Ranges.{read_flipped}
use Rattle.bit_slice.proofs.lists_mut.BitListMut.flip_range.Goals as goal

pub returns-clause-list : goal.returns-clause-list
returns-clause-list g c = search rules

pub returns-clause-within : goal.returns-clause-within
returns-clause-within g c j from below = ap (λ l. slice_get l j) (returns-clause-list g c) ∙ read_flipped _ _ _ j (omega (arith, c.requires.lies, c.len-len.ensures.list, c.len-len.ensures.value)) from below

pub returns-clause-stays : goal.returns-clause-stays
returns-clause-stays g c = g.met.Self.BitListMut.stays_rewritten c.args.self.now _
