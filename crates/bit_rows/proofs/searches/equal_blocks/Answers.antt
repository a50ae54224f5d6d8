use Rattle.std.proofs.Common.{◌≡◌, ℕ, ◌+◌, ◌*◌, ◌/◌, ◌<◌, false, length, refl, sym, ◌∙◌, subst, inr, arith}
use Rattle.bit_addressing.specs.Bits.{has_bit}
use Rattle.bit_addressing.specs.Typed.{row}
use Rattle.bit_rows.proofs.Differs.{AreAlike, alike_all, alike_run, or_none, same_if}
use Rattle.bit_addressing.proofs.Packs.{same_word}
use Rattle.bit_addressing.proofs.Typed.{length_row}
use Rattle.bit_rows.proofs.searches.equal_blocks.Goals as goal

pub block_after-left-requires-clause-words : goal.block_after-left-requires-clause-words
block_after-left-requires-clause-words g c = c.requires.more (c.loop-t.t * 16 + c.loop-i.i) (omega arith)

pub block_after-right-requires-clause-words : goal.block_after-right-requires-clause-words
block_after-right-requires-clause-words g c = c.requires.other_more (c.loop-t.t * 16 + c.loop-i.i) (omega arith)

pub loop-i-preserved : goal.loop-i-preserved
loop-i-preserved g c =
    let xs = row g.T.BitStore g.O.BitOrder c.args.a.now in
    let ys = row g.U.BitStore g.P.BitOrder c.args.b.now in
    let i : ℕ = c.args.k * g.T.BitStore.BITS + c.args.skip in
    let j : ℕ = c.args.l * g.U.BitStore.BITS + c.args.over in
    let m : ℕ = c.loop-t.t * 16 + c.loop-i.i in
    let k : ℕ = m * 64 in
    let next : k + 64 ≡ (c.loop-t.t * 16 + (c.loop-i.i + 1)) * 64 = omega arith in
    let x = c.block_after-left.result in
    let y = c.block_after-right.result in
    let left = c.block_after-left.ensures in
    let right = c.block_after-right.ensures in
    record {
      alike = λ none.
          let parts : (p : ℕ) → p < 64 → (has_bit c.loop-i.apart p ≡ false) × (has_bit c.xor.result p ≡ false) = λ p h. or_none (has_bit c.loop-i.apart p) (has_bit c.xor.result p) (sym (c.or-apart.ensures p h) ∙ none p h) in
          let same = same_word g.O.BitOrder.place g.O.BitOrder.place 64 64 x y (omega arith) refl (g.met.O.BitOrder.lawful 64 (inr (inr (inr refl)))) (λ p h. refl)
          (λ p h. same_if (has_bit x p) (has_bit y p) (sym (c.xor.ensures p h) ∙ (parts p h).1)) in
          subst (AreAlike xs ys i j) next
          (alike_run xs ys i j k 64 (i + k) (j + k) refl refl (sym left ∙ same ∙ right) (c.loop-i.invariant.alike (λ p h. (parts p h).0)));
    }

pub returns-then-apart-ne0-clause-alike : goal.returns-then-apart-ne0-clause-alike
returns-then-apart-ne0-clause-alike g c =
    let xs = row g.T.BitStore g.O.BitOrder c.args.a.now in
    let ys = row g.U.BitStore g.P.BitOrder c.args.b.now in
    let i : ℕ = c.args.k * g.T.BitStore.BITS + c.args.skip in
    let j : ℕ = c.args.l * g.U.BitStore.BITS + c.args.over in
    let first : length xs ≡ g.T.BitStore.BITS * length c.args.a.now = length_row g.T.BitStore.value g.O.BitOrder.place g.T.BitStore.BITS c.args.a.now in
    let second : length ys ≡ g.U.BitStore.BITS * length c.args.b.now = length_row g.U.BitStore.value g.P.BitOrder.place g.U.BitStore.BITS c.args.b.now in
    let n : ℕ = c.loop-t.t * 16 * 64 in
    alike_all xs ys i j n n (omega arith) (omega arith) (omega arith) c.loop-t.invariant.alike

pub returns-clause-alike : goal.returns-clause-alike
returns-clause-alike g c =
    let xs = row g.T.BitStore g.O.BitOrder c.args.a.now in
    let ys = row g.U.BitStore g.P.BitOrder c.args.b.now in
    let i : ℕ = c.args.k * g.T.BitStore.BITS + c.args.skip in
    let j : ℕ = c.args.l * g.U.BitStore.BITS + c.args.over in
    let first : length xs ≡ g.T.BitStore.BITS * length c.args.a.now = length_row g.T.BitStore.value g.O.BitOrder.place g.T.BitStore.BITS c.args.a.now in
    let second : length ys ≡ g.U.BitStore.BITS * length c.args.b.now = length_row g.U.BitStore.value g.P.BitOrder.place g.U.BitStore.BITS c.args.b.now in
    let n : ℕ = c.args.count / 16 * 16 * 64 in
    let all : c.loop-t.t * 16 * 64 ≡ n = omega arith in
    alike_all xs ys i j n n (omega arith) (omega arith) (omega arith) (subst (AreAlike xs ys i j) all c.loop-t.invariant.alike)
