use Rattle.std.proofs.Common.{◌≡◌, ◌↔◌, ◌+◌, ◌-◌, Bool, true, IsTrue, Some, slice_get, sym, ◌∙◌, subst}
use Rattle.std.specs.Prelude.{EachIndex}
use Rattle.bit_slice.proofs.Finding.{all_is, all_by_index, other_way}
use Rattle.bit_slice.specs.BitSlice.{list_of}
use Rattle.bit_slice.proofs.lists.BitList.all.Goals as goal

pub returns-clause-value : goal.returns-clause-value
returns-clause-value g c = rw (← c.as_bitslice-view.ensures.list) (other_way _ _ c.is_none.ensures ∙ all_is (list_of c.as_bitslice-view.result) (c.as_bitslice-view.result.head + c.as_bitslice-view.result.len - c.as_bitslice-view.result.head) c.find_bit.result c.find_bit.ensures)

pub returns-clause-index : goal.returns-clause-index
returns-clause-index g c =
    rw (← c.as_bitslice-view.ensures.list) (
    subst (λ (b : Bool). IsTrue b ↔ EachIndex (list_of c.as_bitslice-view.result) (λ i. slice_get (list_of c.as_bitslice-view.result) i ≡ Some true)) (sym (other_way _ _ c.is_none.ensures))
    (all_by_index (list_of c.as_bitslice-view.result) (c.as_bitslice-view.result.head + c.as_bitslice-view.result.len - c.as_bitslice-view.result.head) c.find_bit.result c.find_bit.ensures))
