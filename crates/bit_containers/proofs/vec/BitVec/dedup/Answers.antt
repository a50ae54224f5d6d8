use Rattle.std.proofs.Common.{◌≡◌, ℕ, ◌+◌, ◌-◌, length, slice_range, sym, ◌∙◌, ap, arith}
use Rattle.std.proofs.lemmas.List.{length-take}
use Rattle.std.proofs.lemmas.Grind.{common_steps}
use Rattle.bit_slice.specs.BitSlice.{list_of}
use Rattle.bit_containers.specs.Repeated.{alternating}
use Rattle.bit_containers.proofs.Alternating.{changes_counted, changes_fewer, deduped}
use Rattle.bit_containers.proofs.vec.BitVec.dedup.Goals as goal

pub returns-clause-list : goal.returns-clause-list
returns-clause-list g c =
    let xs = c.args.self.now.list in
    let first = c.bit-first.result in
    let n : ℕ = c.len-len.result - 1 in
    let size : length xs ≡ n + 1 = omega (arith, c.len-len.ensures.value, c.if-len-eq0.false) in
    let changes = changes_counted xs (list_of c.get_range.result) (list_of c.get_range-2.result) n c.get_range.result.len c.count_xor-changes.result size c.get_range.ensures.list (c.get_range-2.ensures.list ∙ ap (slice_range xs 1) size) (omega (arith, c.get_range.ensures.len)) c.count_xor-changes.ensures.value in
    let few = changes_fewer xs n size in
    let cut = length-take (c.count_xor-changes.result + 1) xs in
    let long : length c.truncate.new.self.list ≡ c.count_xor-changes.result + 1 = ap length c.truncate.ensures.list ∙ cut ∙ omega (arith, changes, few, size) in
    c.alternate.ensures.list
    ∙ ap (λ k. alternating k first) long
    ∙ ap (λ k. alternating (k + 1) first) changes
    ∙ sym (deduped xs first n size c.bit-first.ensures)

pub overflow_add-changes : goal.overflow_add-changes
overflow_add-changes g c = grind (arith, common_steps)
