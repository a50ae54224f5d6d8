use Rattle.std.proofs.Common.{◌≡◌, ◌+◌, ◌-◌, ◌≤◌, ◌++◌, [], ◌∷◌, length, length-append, set, sym, ◌∙◌, ap, arith}
use Rattle.bit_addressing.specs.Row.{moved}
use Rattle.bit_addressing.specs.Typed.{row}
use Rattle.bit_addressing.proofs.lists.Shown.{length-run}
use Rattle.bit_small.specs.SmallBits.{front}
use Rattle.bit_small.proofs.Fronts.{front_inserted}
use Rattle.bit_small.proofs.small.SmallBits.insert.Goals as goal

pub returns-clause-list : goal.returns-clause-list
returns-clause-list g c =
    let before = c.self.inside in
    let s = c.self-2.inside in
    let i = c.args.i in
    let bit = c.args.bit in
    let xs = row g.A.Store.BitStore g.O.BitOrder (g.A.BitWords.words s.array) in
    let ys = row g.A.Store.BitStore g.O.BitOrder (g.A.BitWords.words before.array) in
    let pushed : front xs s.len ≡ front ys before.len ++ bit ∷ [] = rw (← c.self.view_is, ← c.self-2.view_is) at c.in_ok-push.ensures.list in
    let len : s.len ≡ before.len + 1 = rw (← c.self.view_is, ← c.self-2.view_is) at c.in_ok-push.ensures.len in
    let below : i ≤ before.len = rw (← c.self.view_is) at c.requires in
    let inside : s.len ≤ length xs = omega (arith, c.self-2.invariant, c.len-len.ensures.value, c.len-len.ensures.list) in
    let size : length (front ys before.len) ≡ before.len = omega (arith, length-run xs 0 s.len (omega arith), ap length pushed, length-append (front ys before.len) (bit ∷ []), len) in
    rw (← c.self.view_is) (
    ap (λ r. front r s.len) (c.set.ensures.list ∙ ap (λ r. set r i bit) c.copy_within.ensures.list)
    ∙ ap (front (set (moved xs i (i + 1) (before.len - i)) i bit)) len
    ∙ front_inserted xs (front ys before.len) before.len i bit (ap (front xs) (sym len) ∙ pushed) size below (omega arith))
