use Rattle.std.proofs.Common.{◌≡◌, ℕ, ◌-◌, ◌*◌, ◌++◌, false, length, replicate, set, get_or, take, ◌∙◌, ap, arith}
use Rattle.std.proofs.lemmas.List.{length-append, length-replicate, take_all}
use Rattle.bit_array.proofs.Written.{one_bit_more}
use Rattle.bit_array.proofs.array.BitArray.from_bools.Goals as goal

pub loop-i-init : goal.loop-i-init
loop-i-init g c =
    let n : ℕ = g.A.Store.BitStore.BITS * g.A.BitWords.count in
    let whole : n ≡ n - 0 = omega arith in
    c.zero-array.ensures.list ∙ ap (λ k. replicate k false) whole

pub loop-i-preserved : goal.loop-i-preserved
loop-i-preserved g c =
    let n : ℕ = g.A.Store.BitStore.BITS * g.A.BitWords.count in
    let i = c.loop-i.i in
    let bits = c.args.bits.now in
    c.set.ensures.list ∙ ap (λ l. set l i (get_or bits i false)) c.loop-i.invariant ∙ one_bit_more bits i n c.loop-i-test.true (omega (arith, c.loop-i-test.true, c.requires.room))

pub returns-clause-list : goal.returns-clause-list
returns-clause-list g c =
    let n : ℕ = g.A.Store.BitStore.BITS * g.A.BitWords.count in
    let bits = c.args.bits.now in
    let done : c.loop-i.i ≡ length bits = omega (arith, c.loop-i-test.false, c.loop-i.auto.i-end) in
    c.loop-i.invariant ∙ ap (λ k. take k bits ++ replicate (n - k) false) done ∙ ap (λ l. l ++ replicate (n - length bits) false) (take_all (length bits) bits (omega arith))

pub returns-clause-len : goal.returns-clause-len
returns-clause-len g c =
    let n : ℕ = g.A.Store.BitStore.BITS * g.A.BitWords.count in
    let bits = c.args.bits.now in
    let rest = length-replicate (n - length bits) false in
    ap length (returns-clause-list g c) ∙ length-append bits (replicate (n - length bits) false) ∙ omega (arith, rest, c.requires.room)
