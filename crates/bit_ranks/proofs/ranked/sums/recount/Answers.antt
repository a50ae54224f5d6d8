use Rattle.std.proofs.Common.{◌≡◌, ℕ, ◌+◌, ◌-◌, ◌^◌, ◌<◌, Bool, true, false, not, cond, List, length, get_or, set, sym, ◌∙◌, ap, arith, refl, ◌/◌}
use Rattle.std.proofs.lemmas.List.{get_or_default, length-set}
use Rattle.std.proofs.lemmas.Option.{get_or_from_slice_get}
use Rattle.bit_slice.specs.BitSlice.{list_of}
use Rattle.bit_slice.proofs.Parts.{view_length}
use Rattle.bit_ranks.specs.Sums.{before_block}
use Rattle.bit_ranks.proofs.Sums.{before_few, counted, flipped_after, flipped_before, halves, lower, lower_left, opens, upper, written_here, written_others}
use Rattle.bit_ranks.proofs.ranked.sums.recount.Goals as goal

pub halves-init : goal.halves-init
halves-init g c =
    let xs : List Bool = list_of c.args.bits in
    let tree = c.requires.tree in
    let tall : length c.args.sums.now.items < 2 ^ c.args.levels = tree.tall in
    let size : length c.args.sums.now.items ≡ length xs / 512 = tree.size ∙ ap (λ k. k / 512) (length-set xs c.args.i (not (get_or xs c.args.i false))) in
    let inside : c.args.i < length xs = (let shown = view_length c.args.bits in let below = c.requires.inside in omega arith) in
    record {
      low = omega arith;
      begins = omega arith;
      ends = omega arith;
      size = refl;
      summed = tree.summed;
      rest = opens (before_block xs) (length c.args.sums.now.items) c.args.levels c.args.sums.now.items;
    }

pub halves-preserved-then-middle-block : goal.halves-preserved-then-middle-block
halves-preserved-then-middle-block g c =
    let xs : List Bool = list_of c.args.bits in
    let inside : c.args.i < length xs = (let shown = view_length c.args.bits in let below = c.requires.inside in omega arith) in
    let x = get_or xs c.args.i false in
    let was : ℕ → ℕ = before_block (set xs c.args.i (not x)) in
    let n = length c.args.sums.now.items in
    let l = c.halves in
    let i = l.invariant in
    let m = c.width.result in
    let h = halves was n l.sums.items l.level l.first m c.halves-test.true c.width.ensures i.summed in
    let w = h.width in
    let t = h.twice in
    record {
      low = omega arith;
      begins = omega arith;
      ends = omega arith;
      size = i.size;
      summed = h.right;
      rest = upper was (before_block xs) n (cond (not x) 1 0) (cond x 1 0) (c.args.i / 512) (flipped_before xs c.args.i inside) (flipped_after xs c.args.i inside) c.args.levels l.sums.items l.level l.first m h (omega arith) i.rest;
    }

pub overflow_add-index_mut : goal.overflow_add-index_mut
overflow_add-index_mut g c =
    let xs : List Bool = list_of c.args.bits in
    let inside : c.args.i < length xs = (let shown = view_length c.args.bits in let below = c.requires.inside in omega arith) in
    let x = get_or xs c.args.i false in
    let was : ℕ → ℕ = before_block (set xs c.args.i (not x)) in
    let n = length c.args.sums.now.items in
    let l = c.halves in
    let i = l.invariant in
    let m = c.width.result in
    let h = halves was n l.sums.items l.level l.first m c.halves-test.true c.width.ensures i.summed in
    let tree = c.requires.tree in
    let size = tree.size in
    let long = length-set xs c.args.i (not x) in
    let some = h.some in
    let there = c.if-middle-len.true in
    let tall = i.size in
    let low = c.if-middle-block.false in
    let here = h.middle (omega arith) in
    let value : c.index_mut.result.now ≡ get_or l.sums.items (l.first + m - 1) 0 = c.index_mut.ensures.value ∙ get_or_default l.sums.items (l.first + m - 1) c.index_mut.result.now 0 (omega arith) in
    omega (arith, here, value, before_few (set xs c.args.i (not x)) (l.first + m))

pub halves-preserved-then-bit : goal.halves-preserved-then-bit
halves-preserved-then-bit g c =
    let xs : List Bool = list_of c.args.bits in
    let inside : c.args.i < length xs = (let shown = view_length c.args.bits in let below = c.requires.inside in omega arith) in
    let x = get_or xs c.args.i false in
    let was : ℕ → ℕ = before_block (set xs c.args.i (not x)) in
    let n = length c.args.sums.now.items in
    let l = c.halves in
    let i = l.invariant in
    let m = c.width.result in
    let h = halves was n l.sums.items l.level l.first m c.halves-test.true c.width.ensures i.summed in
    let tree = c.requires.tree in
    let size = tree.size in
    let long = length-set xs c.args.i (not x) in
    let some = h.some in
    let there = c.if-middle-len.true in
    let tall = i.size in
    let low = c.if-middle-block.false in
    let here = h.middle (omega arith) in
    let on : x ≡ true = get_or_from_slice_get xs c.args.i c.index-bit.result.now false (sym c.index-bit.ensures) ∙ c.if-bit.true in
    let value : c.index_mut.result.now ≡ get_or l.sums.items (l.first + m - 1) 0 = c.index_mut.ensures.value ∙ get_or_default l.sums.items (l.first + m - 1) c.index_mut.result.now 0 (omega arith) in
    let w = h.width in
    let t = h.twice in
    let at = l.first + m in
    let v = c.index_mut.result.now + 1 in
    let new : List ℕ = set l.sums.items (at - 1) v in
    let others = written_others l.sums.items at v (omega arith) in
    record {
      low = omega arith;
      begins = i.begins;
      ends = omega arith;
      size = length-set l.sums.items (at - 1) v ∙ i.size;
      summed = lower_left was (before_block xs) n (cond (not x) 1 0) (cond x 1 0) (c.args.i / 512) (flipped_before xs c.args.i inside) (flipped_after xs c.args.i inside) l.sums.items new l.level l.first m h others;
      rest = lower was (before_block xs) n (cond (not x) 1 0) (cond x 1 0) (c.args.i / 512) (flipped_before xs c.args.i inside) (flipped_after xs c.args.i inside) c.args.levels l.sums.items new l.level l.first m h i.begins (omega arith) (λ e. let worth : Bool → ℕ = λ b. cond b 1 0 in let none : Bool → ℕ = λ b. cond (not b) 1 0 in omega (arith, written_here l.sums.items at v (omega arith) (omega arith), ap worth on, ap none on, value)) others i.rest;
    }

pub overflow_sub-index_mut : goal.overflow_sub-index_mut
overflow_sub-index_mut g c =
    let xs : List Bool = list_of c.args.bits in
    let inside : c.args.i < length xs = (let shown = view_length c.args.bits in let below = c.requires.inside in omega arith) in
    let x = get_or xs c.args.i false in
    let was : ℕ → ℕ = before_block (set xs c.args.i (not x)) in
    let n = length c.args.sums.now.items in
    let l = c.halves in
    let i = l.invariant in
    let m = c.width.result in
    let h = halves was n l.sums.items l.level l.first m c.halves-test.true c.width.ensures i.summed in
    let tree = c.requires.tree in
    let size = tree.size in
    let long = length-set xs c.args.i (not x) in
    let some = h.some in
    let there = c.if-middle-len.true in
    let tall = i.size in
    let low = c.if-middle-block.false in
    let here = h.middle (omega arith) in
    let on : x ≡ false = get_or_from_slice_get xs c.args.i c.index-bit.result.now false (sym c.index-bit.ensures) ∙ c.if-bit.false in
    let value : c.index_mut-else-bit.result.now ≡ get_or l.sums.items (l.first + m - 1) 0 = c.index_mut-else-bit.ensures.value ∙ get_or_default l.sums.items (l.first + m - 1) c.index_mut-else-bit.result.now 0 (omega arith) in
    omega (arith, value, counted xs c.args.i inside l.first m (get_or l.sums.items (l.first + m - 1) 0) i.begins (omega arith) (omega arith) here on)

pub halves-preserved-else-bit : goal.halves-preserved-else-bit
halves-preserved-else-bit g c =
    let xs : List Bool = list_of c.args.bits in
    let inside : c.args.i < length xs = (let shown = view_length c.args.bits in let below = c.requires.inside in omega arith) in
    let x = get_or xs c.args.i false in
    let was : ℕ → ℕ = before_block (set xs c.args.i (not x)) in
    let n = length c.args.sums.now.items in
    let l = c.halves in
    let i = l.invariant in
    let m = c.width.result in
    let h = halves was n l.sums.items l.level l.first m c.halves-test.true c.width.ensures i.summed in
    let tree = c.requires.tree in
    let size = tree.size in
    let long = length-set xs c.args.i (not x) in
    let some = h.some in
    let there = c.if-middle-len.true in
    let tall = i.size in
    let low = c.if-middle-block.false in
    let here = h.middle (omega arith) in
    let on : x ≡ false = get_or_from_slice_get xs c.args.i c.index-bit.result.now false (sym c.index-bit.ensures) ∙ c.if-bit.false in
    let value : c.index_mut-else-bit.result.now ≡ get_or l.sums.items (l.first + m - 1) 0 = c.index_mut-else-bit.ensures.value ∙ get_or_default l.sums.items (l.first + m - 1) c.index_mut-else-bit.result.now 0 (omega arith) in
    let positive = counted xs c.args.i inside l.first m (get_or l.sums.items (l.first + m - 1) 0) i.begins (omega arith) (omega arith) here on in
    let w = h.width in
    let t = h.twice in
    let at = l.first + m in
    let v = c.index_mut-else-bit.result.now - 1 in
    let new : List ℕ = set l.sums.items (at - 1) v in
    let others = written_others l.sums.items at v (omega arith) in
    record {
      low = omega arith;
      begins = i.begins;
      ends = omega arith;
      size = length-set l.sums.items (at - 1) v ∙ i.size;
      summed = lower_left was (before_block xs) n (cond (not x) 1 0) (cond x 1 0) (c.args.i / 512) (flipped_before xs c.args.i inside) (flipped_after xs c.args.i inside) l.sums.items new l.level l.first m h others;
      rest = lower was (before_block xs) n (cond (not x) 1 0) (cond x 1 0) (c.args.i / 512) (flipped_before xs c.args.i inside) (flipped_after xs c.args.i inside) c.args.levels l.sums.items new l.level l.first m h i.begins (omega arith) (λ e. let worth : Bool → ℕ = λ b. cond b 1 0 in let none : Bool → ℕ = λ b. cond (not b) 1 0 in omega (arith, written_here l.sums.items at v (omega arith) (omega arith), ap worth on, ap none on, value)) others i.rest;
    }

pub halves-preserved : goal.halves-preserved
halves-preserved g c =
    let xs : List Bool = list_of c.args.bits in
    let inside : c.args.i < length xs = (let shown = view_length c.args.bits in let below = c.requires.inside in omega arith) in
    let x = get_or xs c.args.i false in
    let was : ℕ → ℕ = before_block (set xs c.args.i (not x)) in
    let n = length c.args.sums.now.items in
    let l = c.halves in
    let i = l.invariant in
    let m = c.width.result in
    let h = halves was n l.sums.items l.level l.first m c.halves-test.true c.width.ensures i.summed in
    let w = h.width in
    let t = h.twice in
    let far = c.if-middle-len.false in
    let size = i.size in
    record {
      low = omega arith;
      begins = omega arith;
      ends = omega arith;
      size = i.size;
      summed = h.left;
      rest = lower was (before_block xs) n (cond (not x) 1 0) (cond x 1 0) (c.args.i / 512) (flipped_before xs c.args.i inside) (flipped_after xs c.args.i inside) c.args.levels l.sums.items l.sums.items l.level l.first m h (omega arith) (omega arith) (λ e. absurd (omega arith)) (λ k e. refl) i.rest;
    }
