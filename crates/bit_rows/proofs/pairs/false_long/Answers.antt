use Rattle.std.proofs.Common.{◌≡◌, ℕ, ◌+◌, ◌-◌, ◌*◌, ◌/◌, ◌≤◌, false, get_or, length, inl, inr, sym, ap, subst, arith}
use Rattle.std.proofs.lemmas.Bool.{cases_lt}
use Rattle.std.proofs.lemmas.Nat.{div-add-mod'}
use Rattle.bit_addressing.specs.Bits.{IsWidth}
use Rattle.bit_addressing.specs.Typed.{row}
use Rattle.bit_addressing.proofs.Packs.{pack_fills}
use Rattle.bit_addressing.proofs.Rows.{width_positive}
use Rattle.bit_addressing.proofs.Runs.{mul_mono}
use Rattle.bit_addressing.proofs.lists.Sized.{right_sum}
use Rattle.bit_rows.proofs.Wholes.{words_there}
use Rattle.bit_rows.proofs.pairs.false_long.Goals as goal

-- the blocks that lie whole in m words have no more bits than these
blocks_in : {w d : ℕ} (m : ℕ) → IsWidth w → d ≡ w → m / (64 / d) * 64 ≤ m * w
blocks_in {w} {d} m is e =
    let fills : 64 / d * w ≡ 64 = subst (λ v. 64 / v * w ≡ 64) (sym e) (pack_fills w is) in
    let split = div-add-mod' m (64 / d) in
    let less = mul_mono (m / (64 / d) * (64 / d)) m w (omega arith) in
    let same : m / (64 / d) * (64 / d) * w ≡ m / (64 / d) * (64 / d * w) = grind arith in
    let all : m / (64 / d) * (64 / d * w) ≡ m / (64 / d) * 64 = ap (λ v. m / (64 / d) * v) fills in
    omega arith

-- the bits of some words, of those that n bits have whole
words_in : {w d n : ℕ} (m : ℕ) → d ≡ w → m ≤ n / d → m * w ≤ n
words_in {w} {d} {n} m e most =
    let less = mul_mono m (n / d) w most in
    let wide : n / d * d ≡ n / d * w = ap (λ m. n / d * m) e in
    let split = div-add-mod' n d in
    omega arith

pub false_turns-far-requires-clause-first : goal.false_turns-far-requires-clause-first
false_turns-far-requires-clause-first g c = (words_there c.BITS-width.ensures (width_positive g.T.BitStore.BITS g.met.T.BitStore.width) c.if-i-width-ne0.false c.requires.first).most

pub false_turns-far-requires-clause-second : goal.false_turns-far-requires-clause-second
false_turns-far-requires-clause-second g c = (words_there c.BITS-width.ensures (width_positive g.T.BitStore.BITS g.met.T.BitStore.width) c.if-j-width-ne0.false (subst (λ m. c.args.j + c.args.n ≤ m * length c.args.b.now) (c.are_alike.ensures c.if-not-are_alike.false).width c.requires.second)).most

pub false_turns-near-requires-clause-first : goal.false_turns-near-requires-clause-first
false_turns-near-requires-clause-first g c = let most = (words_there c.BITS-width.ensures (width_positive g.T.BitStore.BITS g.met.T.BitStore.width) c.if-i-width-ne0.false c.requires.first).most in omega arith

pub false_turns-near-requires-clause-second : goal.false_turns-near-requires-clause-second
false_turns-near-requires-clause-second g c = let most = (words_there c.BITS-width.ensures (width_positive g.T.BitStore.BITS g.met.T.BitStore.width) c.if-j-width-ne0.false (subst (λ m. c.args.j + c.args.n ≤ m * length c.args.b.now) (c.are_alike.ensures c.if-not-are_alike.false).width c.requires.second)).most in omega arith

pub returns-clause-few : goal.returns-clause-few
returns-clause-few g c =
    let m : ℕ = c.false_turns-far.result + c.false_turns-near.result in
    let blocks = blocks_in m g.met.T.BitStore.width c.BITS-width.ensures in
    let words : m * g.T.BitStore.BITS ≤ c.args.n = words_in m c.BITS-width.ensures (omega arith) in
    omega arith

pub returns-clause-none : goal.returns-clause-none
returns-clause-none g c = λ q h.
    let w = g.T.BitStore.BITS in
    let d = c.BITS-width.result in
    let e = c.BITS-width.ensures in
    let far = c.false_turns-far.result in
    let near = c.false_turns-near.result in
    let i = c.args.i in
    let j = c.args.j in
    let first = div-add-mod' i d in
    let second = div-add-mod' j d in
    let wide : i / d * d ≡ i / d * w = ap (λ m. i / d * m) e in
    let other : j / d * d ≡ j / d * w = ap (λ m. j / d * m) e in
    let here : i / d * w ≡ i = omega arith in
    let there : j / d * w ≡ j = omega arith in
    let inside = blocks_in (far + near) g.met.T.BitStore.width e in
    let both : (far + near) * w ≡ far * w + near * w = right_sum far near w in
    elim (cases_lt q (far * w)) [
      | inl l ↦ subst (λ m. g.F.BitOperator.made (get_or (row g.T.BitStore g.O.BitOrder c.args.a.now) (m + q) false) (get_or (row g.U.BitStore g.P.BitOrder c.args.b.now) (j + q) false) ≡ false) here
          (subst (λ m. g.F.BitOperator.made (get_or (row g.T.BitStore g.O.BitOrder c.args.a.now) (i / d * w + q) false) (get_or (row g.U.BitStore g.P.BitOrder c.args.b.now) (m + q) false) ≡ false) there (c.false_turns-far.ensures.none q l))
      | inr l ↦
          let left : (i / d + far) * w + (q - far * w) ≡ i + q = omega (arith, right_sum (i / d) far w) in
          let right : (j / d + far) * w + (q - far * w) ≡ j + q = omega (arith, right_sum (j / d) far w) in
          subst (λ m. g.F.BitOperator.made (get_or (row g.T.BitStore g.O.BitOrder c.args.a.now) m false) (get_or (row g.U.BitStore g.P.BitOrder c.args.b.now) (j + q) false) ≡ false) left
          (subst (λ m. g.F.BitOperator.made (get_or (row g.T.BitStore g.O.BitOrder c.args.a.now) ((i / d + far) * w + (q - far * w)) false) (get_or (row g.U.BitStore g.P.BitOrder c.args.b.now) m false) ≡ false) right (c.false_turns-near.ensures.none (q - far * w) (omega arith)))
    ]
