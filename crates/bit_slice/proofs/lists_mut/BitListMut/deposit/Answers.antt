use Rattle.std.proofs.Common.{slice_get, ap, ◌∙◌, rules}
use Rattle.bit_slice.proofs.Masking.{deposited_kept}
use Rattle.bit_slice.proofs.lists_mut.BitListMut.deposit.Goals as goal

pub returns-clause-list : goal.returns-clause-list
returns-clause-list g c = search rules

pub returns-clause-kept : goal.returns-clause-kept
returns-clause-kept g c j none = ap (λ l. slice_get l j) (returns-clause-list g c) ∙ deposited_kept _ _ _ j none

pub returns-clause-stays : goal.returns-clause-stays
returns-clause-stays g c = record {
  head = search rules;
  len = search rules;
  size = search rules;
  capacity = search rules;
  same_words = search rules;
}
