use Rattle.std.proofs.Common.{◌≡◌, ◌+◌, ◌*◌, ◌≤◌, length, take, sym, ◌∙◌, ap, arith}
use Rattle.std.proofs.lemmas.Bool.{true≢false}
use Rattle.bit_addressing.specs.Typed.{row}
use Rattle.bit_addressing.proofs.lists.Shown.{length-run}
use Rattle.bit_small.specs.SmallBits.{front}
use Rattle.bit_small.proofs.Blocks.{equal_further}
use Rattle.bit_small.proofs.small.SmallBits.has_blocks_of.Goals as goal

pub returns-then-self-other : goal.returns-then-self-other
returns-then-self-other g c =
    let a = c.self.inside in
    let b = c.other.inside in
    let xs = row g.A.Store.BitStore g.O.BitOrder (g.A.BitWords.words a.array) in
    let ys = row g.A.Store.BitStore g.O.BitOrder (g.A.BitWords.words b.array) in
    let first = c.len-blocks.ensures in
    let second = c.len-len.ensures in
    let differ = c.if-self-other.true in
    let one = length-run xs 0 a.len (omega (arith, first.value, first.list, c.self.invariant)) in
    let other = length-run ys 0 b.len (omega (arith, second.value, second.list, c.other.invariant)) in
    rw (← c.self.view_is, ← c.other.view_is) (λ t. absurd (true≢false (sym t)), λ e. absurd (differ (sym one ∙ ap length e ∙ other)))

pub loop-t-preserved : goal.loop-t-preserved
loop-t-preserved g c =
    let a = c.args.self.now in
    let b = c.args.other.now in
    let xs = row g.A.Store.BitStore g.O.BitOrder (g.A.BitWords.words a.array) in
    let ys = row g.A.Store.BitStore g.O.BitOrder (g.A.BitWords.words b.array) in
    let inside : a.len ≤ g.A.Store.BitStore.BITS * g.A.BitWords.count = rw (← c.self.view_is) c.self.invariant in
    let more = c.len-blocks.ensures in
    let all : length xs ≡ g.A.Store.BitStore.BITS * g.A.BitWords.count = rw (← c.self.view_is) (omega (arith, more.value, more.list)) in
    let each = c.len-len.ensures in
    let other : b.len ≤ length ys = rw (← c.other.view_is) (omega (arith, each.value, each.list, c.other.invariant)) in
    let len : a.len ≡ b.len = rw (← c.self.view_is, ← c.other.view_is) c.if-self-other.false in
    let at = 64 * c.loop-t.t in
    let next : at + 64 ≡ 64 * (c.loop-t.t + 1) = omega arith in
    let size = length-run xs 0 a.len (omega arith) ∙ len ∙ sym (length-run ys 0 b.len (omega arith)) in
    ap (λ n. take n (front xs a.len)) (sym next)
    ∙ equal_further (front xs a.len) (front ys b.len) at c.block.result c.block-in-loop-t.result size c.block.ensures c.block-in-loop-t.ensures c.if-block.false c.loop-t.invariant
    ∙ ap (λ n. take n (front ys b.len)) next
