use Rattle.std.proofs.Common.{slice_get, ap, ◌∙◌, arith, rules}
use Rattle.bit_slice.proofs.Masking.{masked_copied, masked_kept}
use Rattle.bit_slice.proofs.Parts.{view_length}
use Rattle.bit_slice.proofs.lists_mut.BitListMut.copy_where.Goals as goal

pub returns-clause-list : goal.returns-clause-list
returns-clause-list g c = search rules

pub returns-clause-copied : goal.returns-clause-copied
returns-clause-copied g c j one below there =
    ap (λ l. slice_get l j) (returns-clause-list g c)
    ∙ masked_copied _ _ _ j one (omega (arith, c.len-len.ensures.list, c.len-len.ensures.value, below)) (omega (arith, there, view_length c.args.source))

pub returns-clause-kept : goal.returns-clause-kept
returns-clause-kept g c j none = ap (λ l. slice_get l j) (returns-clause-list g c) ∙ masked_kept _ _ _ j none

pub returns-clause-stays : goal.returns-clause-stays
returns-clause-stays g c = record {
  head = search rules;
  len = search rules;
  size = search rules;
  capacity = search rules;
  same_words = search rules;
}
