use Rattle.std.proofs.Common.{◌≡◌, ◌≢◌, ◌+◌, ◌*◌, ◌/◌, ◌-◌, ◌^◌, ◌<◌, ℕ, List, get_or, drop, length, take, refl, sym, subst, ap, arith}
use Rattle.std.proofs.lemmas.List.{length-drop, take_all}
use Rattle.bit_blocks.specs.Numbers.{AscendsIn}
use Rattle.bit_blocks.specs.declared.keyed.Keyed.{Keyed}
use Rattle.bit_roaring.proofs.Cut.{CutTo, IsCut, is_cut, one_cut}
use Rattle.bit_roaring.proofs.keyed.ascending.of_ascending.Goals as goal

-- the rest of a list is its end
rest_is : (xs : List ℕ) (from : ℕ) → take (length xs - from) (drop from xs) ≡ drop from xs
rest_is xs from = let e = length-drop from xs in take_all (length xs - from) (drop from xs) (omega arith)

rest_some : (xs : List ℕ) (from : ℕ) → from < length xs → 0 < length (take (length xs - from) (drop from xs))
rest_some xs from inside = let e = length-drop from xs in let same = ap length (rest_is xs from) in omega arith

cut_here : (xs : List ℕ) (blocks : List Keyed) (from n : ℕ) → from < length xs → CutTo xs blocks from
    → ((i d : ℕ) → i < n → get_or (take (length xs - from) (drop from xs)) i d / 65536 ≡ get_or (take (length xs - from) (drop from xs)) 0 0 / 65536)
    → ((d : ℕ) → n < length (take (length xs - from) (drop from xs)) → get_or (take (length xs - from) (drop from xs)) n d / 65536 ≢ get_or (take (length xs - from) (drop from xs)) 0 0 / 65536)
    → IsCut (take (length xs - from) (drop from xs)) (get_or (take (length xs - from) (drop from xs)) 0 0 / 65536) n
cut_here xs blocks from n inside h same other =
    let up = subst (AscendsIn (h.least * 65536) (2 ^ 32)) (sym (rest_is xs from)) h.rest in
    is_cut (h.least * 65536) (take (length xs - from) (drop from xs)) _ n up (rest_some xs from inside) refl same other

pub block_of-requires : goal.block_of-requires
block_of-requires c =
    (cut_here c.args.numbers.now c.loop-from.blocks.items c.loop-from.from c.count_with-count.result c.loop-from-test.true c.loop-from.invariant c.count_with-count.ensures.same c.count_with-count.ensures.other).front

pub loop-from-preserved : goal.loop-from-preserved
loop-from-preserved c =
    let xs = c.args.numbers.now in
    let from = c.loop-from.from in
    let n = c.count_with-count.result in
    let inside = c.loop-from-test.true in
    let cut = cut_here xs c.loop-from.blocks.items from n inside c.loop-from.invariant c.count_with-count.ensures.same c.count_with-count.ensures.other in
    subst (λ l. CutTo xs l (from + n)) (sym c.in_ok-push.ensures.items)
    (one_cut xs (take (length xs - from) (drop from xs)) c.loop-from.blocks.items from _ n c.in_ok-block.block (rest_is xs from) c.loop-from.invariant refl (rest_some xs from inside) cut c.in_ok-block.ensures.ascends c.in_ok-block.ensures.numbers)
