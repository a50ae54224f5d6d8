use Rattle.std.proofs.Common.{◌≡◌, ℕ, ◌+◌, ◌*◌, ◌/◌, ◌<◌, false, length, refl, sym, ◌∙◌, ap, subst, arith}
use Rattle.std.proofs.lemmas.Nat.{div-add-mod'}
use Rattle.bit_addressing.specs.Bits.{has_bit}
use Rattle.bit_addressing.specs.Typed.{row}
use Rattle.bit_rows.proofs.Differs.{AreAlike, alike_all, alike_run, or_none, same_if, word_here, words_inside}
use Rattle.bit_addressing.proofs.Packs.{same_word}
use Rattle.bit_addressing.proofs.Rows.{width_positive}
use Rattle.bit_addressing.proofs.Typed.{length_row}
use Rattle.bit_rows.proofs.Wholes.{word_in_run}
use Rattle.bit_addressing.proofs.Words.{has_none}
use Rattle.bit_addressing.proofs.lists.Sized.{one_more_word}
use Rattle.bit_rows.proofs.searches.equal_turns.Goals as goal

pub overflow_mul-done : goal.overflow_mul-done
overflow_mul-done g c = let turn = word_in_run c.args.each c.args.each c.args.count c.loop-t.t refl c.loop-t-test.true in omega arith

pub loop-i-init : goal.loop-i-init
loop-i-init g c =
    let begin : c.loop-t.t * c.args.each + 0 ≡ c.loop-t.t * c.args.each = omega arith in
    record { alike = λ none. rw begin c.loop-t.invariant.alike; turn = word_in_run c.args.each c.args.each c.args.count c.loop-t.t refl c.loop-t-test.true }

pub loop-i-preserved : goal.loop-i-preserved
loop-i-preserved g c =
    let w = g.T.BitStore.BITS in
    let u = g.U.BitStore.BITS in
    let xs = row g.T.BitStore g.O.BitOrder c.args.a.now in
    let ys = row g.U.BitStore g.P.BitOrder c.args.b.now in
    let m : ℕ = c.loop-t.t * c.args.each + c.loop-i.i in
    let i : ℕ = c.args.k * w in
    let j : ℕ = c.args.l * w in
    let next : (m + 1) * w ≡ (c.loop-t.t * c.args.each + (c.loop-i.i + 1)) * w = ap (λ v. v * w) (omega arith) in
    let positive = width_positive w g.met.T.BitStore.width in
    let left = word_here g.T.BitStore.value g.O.BitOrder.place w w c.args.a.now c.args.k m c.index-a-k.result positive refl (omega arith) c.index-a-k.is in
    let right = c.word_alike-other.ensures ∙ word_here g.U.BitStore.value g.P.BitOrder.place w u c.args.b.now c.args.l m c.index-b-l.result positive c.requires.alike.width (omega arith) c.index-b-l.is in
    record {
      turn = c.loop-i.invariant.turn;
      alike = λ none.
          let parts : (p : ℕ) → p < w → (has_bit (g.T.BitStore.value c.loop-i.apart) p ≡ false) × (has_bit (g.T.BitStore.value c.xor.result) p ≡ false) = λ p h. or_none (has_bit (g.T.BitStore.value c.loop-i.apart) p) (has_bit (g.T.BitStore.value c.xor.result) p) (sym (c.or-apart.ensures p h) ∙ none p h) in
          subst (AreAlike xs ys i j) (sym (one_more_word m w) ∙ next)
          (alike_run xs ys i j (m * w) w (i + m * w) (j + m * w) refl refl
          (sym left
          ∙ same_word g.O.BitOrder.place g.O.BitOrder.place w w (g.T.BitStore.value c.index-a-k.result) (g.T.BitStore.value c.word_alike-other.result) positive refl (g.met.O.BitOrder.lawful w g.met.T.BitStore.width) (λ p h. refl)
          (λ p h. same_if (has_bit (g.T.BitStore.value c.index-a-k.result) p) (has_bit (g.T.BitStore.value c.word_alike-other.result) p) (sym (c.xor.ensures p h) ∙ (parts p h).1))
          ∙ right)
          (c.loop-i.invariant.alike (λ p h. (parts p h).0)));
    }

pub loop-t-preserved : goal.loop-t-preserved
loop-t-preserved g c =
    let all : c.loop-i.i ≡ c.args.each = omega arith in
    let next : c.loop-t.t * c.args.each + c.loop-i.i ≡ (c.loop-t.t + 1) * c.args.each = ap (λ m. c.loop-t.t * c.args.each + m) all ∙ sym (one_more_word c.loop-t.t c.args.each) in
    record { alike = rw next at (c.loop-i.invariant.alike (λ p h. sym (c.to_u64.ensures.low p h) ∙ ap (λ m. has_bit m p) c.if-to_u64-ne0.false ∙ has_none p)) }

pub returns-then-to_u64-ne0-clause-alike : goal.returns-then-to_u64-ne0-clause-alike
returns-then-to_u64-ne0-clause-alike g c =
    let w = g.T.BitStore.BITS in
    let u = g.U.BitStore.BITS in
    let m : ℕ = c.loop-t.t * c.args.each in
    let turn = word_in_run c.args.each c.args.each c.args.count c.loop-t.t refl c.loop-t-test.true in
    let xs = row g.T.BitStore g.O.BitOrder c.args.a.now in
    let ys = row g.U.BitStore g.P.BitOrder c.args.b.now in
    let first : length xs ≡ w * length c.args.a.now = length_row g.T.BitStore.value g.O.BitOrder.place w c.args.a.now in
    let second : length ys ≡ w * length c.args.b.now = length_row g.U.BitStore.value g.P.BitOrder.place u c.args.b.now ∙ ap (λ v. v * length c.args.b.now) c.requires.alike.width in
    let left = words_inside w c.args.k m (length c.args.a.now) (omega arith) in
    let right = words_inside w c.args.l m (length c.args.b.now) (omega arith) in
    alike_all xs ys (c.args.k * w) (c.args.l * w) (m * w) (m * w) (omega arith) (omega arith) (omega arith) c.loop-t.invariant.alike

pub returns-clause-alike : goal.returns-clause-alike
returns-clause-alike g c =
    let w = g.T.BitStore.BITS in
    let u = g.U.BitStore.BITS in
    let m : ℕ = c.args.count / c.args.each * c.args.each in
    let split = div-add-mod' c.args.count c.args.each in
    let all : c.loop-t.t ≡ c.args.count / c.args.each = omega arith in
    let xs = row g.T.BitStore g.O.BitOrder c.args.a.now in
    let ys = row g.U.BitStore g.P.BitOrder c.args.b.now in
    let first : length xs ≡ w * length c.args.a.now = length_row g.T.BitStore.value g.O.BitOrder.place w c.args.a.now in
    let second : length ys ≡ w * length c.args.b.now = length_row g.U.BitStore.value g.P.BitOrder.place u c.args.b.now ∙ ap (λ v. v * length c.args.b.now) c.requires.alike.width in
    let left = words_inside w c.args.k m (length c.args.a.now) (omega arith) in
    let right = words_inside w c.args.l m (length c.args.b.now) (omega arith) in
    alike_all xs ys (c.args.k * w) (c.args.l * w) (m * w) (m * w) (omega arith) (omega arith) (omega arith)
    (subst (λ t. AreAlike xs ys (c.args.k * w) (c.args.l * w) (t * c.args.each * w)) all c.loop-t.invariant.alike)
