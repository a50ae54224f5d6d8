use Rattle.std.proofs.Common.{◌≡◌, ℕ, ◌+◌, ◌*◌, ◌/◌, ◌<◌, false, get_or, refl, sym, ◌∙◌, ap, subst, arith}
use Rattle.bit_addressing.specs.Bits.{has_bit}
use Rattle.bit_addressing.specs.Typed.{row}
use Rattle.bit_rows.proofs.Differs.{AreFalse, bit_here, false_each, or_none}
use Rattle.bit_addressing.proofs.Rows.{get_or-row_one, width_positive}
use Rattle.bit_rows.proofs.Wholes.{word_in_run}
use Rattle.bit_addressing.proofs.Words.{has_none}
use Rattle.bit_addressing.proofs.lists.Sized.{one_more_word}
use Rattle.bit_rows.proofs.pairs.false_turns.Goals as goal

pub overflow_mul-done : goal.overflow_mul-done
overflow_mul-done g c = let turn = word_in_run c.args.each c.args.each c.args.count c.loop-t.t refl c.loop-t-test.true in omega arith

pub loop-i-init : goal.loop-i-init
loop-i-init g c =
    let begin : c.loop-t.t * c.args.each + 0 ≡ c.loop-t.t * c.args.each = omega arith in
    record { none = λ clear. rw begin c.loop-t.invariant.none; turn = word_in_run c.args.each c.args.each c.args.count c.loop-t.t refl c.loop-t-test.true }

pub loop-i-preserved : goal.loop-i-preserved
loop-i-preserved g c =
    let w = g.T.BitStore.BITS in
    let u = g.U.BitStore.BITS in
    let f = g.F.BitOperator.made in
    let place = g.O.BitOrder.place in
    let xs = row g.T.BitStore g.O.BitOrder c.args.a.now in
    let ys = row g.U.BitStore g.P.BitOrder c.args.b.now in
    let m : ℕ = c.loop-t.t * c.args.each + c.loop-i.i in
    let i : ℕ = c.args.k * w in
    let j : ℕ = c.args.l * w in
    let x = g.T.BitStore.value c.index-a-k.result in
    let o = g.T.BitStore.value c.word_alike-other.result in
    let next : (m + 1) * w ≡ (c.loop-t.t * c.args.each + (c.loop-i.i + 1)) * w = ap (λ v. v * w) (omega arith) in
    let positive = width_positive w g.met.T.BitStore.width in
    let lawful = g.met.O.BitOrder.lawful w g.met.T.BitStore.width in
    let left : (q : ℕ) → q < w → get_or xs (i + (m * w + q)) false ≡ has_bit x (place w q) =
    λ q h. sym (bit_here g.T.BitStore.value place w w c.args.a.now c.args.k m c.index-a-k.result positive refl (omega arith) c.index-a-k.is q h) ∙ get_or-row_one place w x q positive h in
    let right : (q : ℕ) → q < w → get_or ys (j + (m * w + q)) false ≡ has_bit o (place w q) =
    λ q h. sym (bit_here g.U.BitStore.value g.P.BitOrder.place w u c.args.b.now c.args.l m c.index-b-l.result positive c.requires.alike.width (omega arith) c.index-b-l.is q h)
    ∙ ap (λ l. get_or l q false) (sym c.word_alike-other.ensures) ∙ get_or-row_one place w o q positive h in
    record {
      turn = c.loop-i.invariant.turn;
      none = λ clear.
          subst (AreFalse f xs ys i j) (sym (one_more_word m w) ∙ next)
          (false_each f xs ys i j (m * w) w
          (λ q h.
          let p : ℕ = place w q in
          let below = lawful.in_range q h in
          ap (λ b. f b (get_or ys (j + (m * w + q)) false)) (left q h) ∙ ap (f (has_bit x p)) (right q h) ∙ sym (c.apply.ensures p below)
          ∙ (or_none (has_bit (g.T.BitStore.value c.loop-i.made) p) (has_bit (g.T.BitStore.value c.apply.result) p) (sym (c.or-made.ensures p below) ∙ clear p below)).1)
          (c.loop-i.invariant.none (λ p h. (or_none (has_bit (g.T.BitStore.value c.loop-i.made) p) (has_bit (g.T.BitStore.value c.apply.result) p) (sym (c.or-made.ensures p h) ∙ clear p h)).0)));
    }

pub loop-t-preserved : goal.loop-t-preserved
loop-t-preserved g c =
    let all : c.loop-i.i ≡ c.args.each = omega arith in
    let next : c.loop-t.t * c.args.each + c.loop-i.i ≡ (c.loop-t.t + 1) * c.args.each = ap (λ m. c.loop-t.t * c.args.each + m) all ∙ sym (one_more_word c.loop-t.t c.args.each) in
    record { none = rw next at (c.loop-i.invariant.none (λ p h. sym (c.to_u64.ensures.low p h) ∙ ap (λ m. has_bit m p) c.if-to_u64-ne0.false ∙ has_none p)) }

pub returns-then-to_u64-ne0-clause-none : goal.returns-then-to_u64-ne0-clause-none
returns-then-to_u64-ne0-clause-none g c = c.loop-t.invariant.none

pub returns-clause-none : goal.returns-clause-none
returns-clause-none g c = let all : c.loop-t.t ≡ c.args.count / c.args.each = omega arith in rw all at c.loop-t.invariant.none
