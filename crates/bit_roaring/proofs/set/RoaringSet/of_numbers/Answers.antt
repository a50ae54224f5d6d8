use Rattle.std.proofs.Common.{◌^◌, ◌<◌, ℕ, slice_index, sym, ◌∙◌, ap, subst}
use Rattle.bit_blocks.specs.Numbers.{AscendsIn, has}
use Rattle.bit_roaring.proofs.Sorted.{sorted_ascend, sorted_same}
use Rattle.bit_roaring.proofs.set.RoaringSet.of_numbers.Goals as goal

pub from_ascending-requires : goal.from_ascending-requires
from_ascending-requires c =
    subst (AscendsIn 0 (2 ^ 32)) (sym c.deref-2.ensures.value) (sorted_ascend c.sort_unstable.new.self.items c.dedup.new.self.items c.sort_unstable.ensures.sorted c.dedup.ensures.filtered (subst (λ l. (k : ℕ) → slice_index l k < 2 ^ 32) c.deref.ensures.value c.prove_below.ensures))

pub returns : goal.returns
returns c = λ k.
    ap (λ l. has l k) (c.in_ok-set.ensures ∙ c.deref-2.ensures.value)
    ∙ sorted_same c.args.numbers.now.items c.sort_unstable.new.self.items c.dedup.new.self.items c.sort_unstable.ensures.permutation c.dedup.ensures.filtered k
