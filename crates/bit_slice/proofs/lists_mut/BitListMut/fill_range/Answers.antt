use Rattle.std.proofs.Common.{slice_get, ap, ◌∙◌, arith, rules}
use Rattle.bit_slice.proofs.Ranges.{read_filled}
use Rattle.bit_slice.proofs.lists_mut.BitListMut.fill_range.Goals as goal

pub returns-clause-list : goal.returns-clause-list
returns-clause-list g c = search rules

pub returns-clause-within : goal.returns-clause-within
returns-clause-within g c j from below = ap (λ l. slice_get l j) (returns-clause-list g c) ∙ read_filled _ _ _ c.args.bit (omega (arith, c.requires.lies, c.len-len.ensures.list, c.len-len.ensures.value)) j from (omega (arith, from, below))

pub returns-clause-stays : goal.returns-clause-stays
returns-clause-stays g c = g.met.Self.BitListMut.stays_rewritten c.args.self.now _
