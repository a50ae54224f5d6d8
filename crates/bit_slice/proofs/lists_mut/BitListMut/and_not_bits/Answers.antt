use Rattle.std.proofs.Common.{slice_get, ap, ◌∙◌, arith, rules}
use Rattle.bit_slice.proofs.Ranges.{cleared_where, kept_where}
use Rattle.bit_slice.proofs.lists_mut.BitListMut.and_not_bits.Goals as goal

pub returns-clause-list : goal.returns-clause-list
returns-clause-list g c = search rules

pub returns-clause-both : goal.returns-clause-both
returns-clause-both g c j there below = ap (λ l. slice_get l j) (returns-clause-list g c) ∙ cleared_where _ _ j there (omega (arith, c.len-len.ensures.list, c.len-len.ensures.value, below))

pub returns-clause-kept : goal.returns-clause-kept
returns-clause-kept g c j none = ap (λ l. slice_get l j) (returns-clause-list g c) ∙ kept_where _ _ j none
