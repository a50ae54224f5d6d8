use Rattle.std.proofs.Common.{◌≡◌, ℕ, ◌+◌, ◌*◌, ◌/◌, ◌<◌, ◌≤◌, Bool, false, List, length, replicate, slice_range, refl, sym, ◌∙◌, ap, subst, arith}
use Rattle.std.proofs.lemmas.List.{length-replicate}
use Rattle.std.proofs.lemmas.Nat.{div-add-mod'}
use Rattle.bit_addressing.specs.Bits.{has_bit}
use Rattle.bit_addressing.specs.Typed.{row}
use Rattle.bit_rows.proofs.Differs.{AreAlike, alike_all, alike_run, or_none, same_if, word_here, words_inside}
use Rattle.bit_rows.proofs.Finds.{run_of_one}
use Rattle.bit_addressing.proofs.Rows.{row_repeated, width_positive}
use Rattle.bit_addressing.proofs.Runs.{mul_mono}
use Rattle.bit_addressing.proofs.Typed.{length_row}
use Rattle.bit_rows.proofs.Wholes.{word_in_run}
use Rattle.bit_addressing.proofs.Words.{has_none}
use Rattle.bit_addressing.proofs.lists.Sized.{one_more_word}
use Rattle.bit_rows.proofs.searches.turns_without.Goals as goal

pub overflow_mul-done : goal.overflow_mul-done
overflow_mul-done g c = let turn = word_in_run c.args.each c.args.each c.args.count c.loop-t.t refl c.loop-t-test.true in omega arith

pub loop-i-init : goal.loop-i-init
loop-i-init g c =
    let begin : c.loop-t.t * c.args.each + 0 ≡ c.loop-t.t * c.args.each = omega arith in
    record { alike = λ none. rw begin c.loop-t.invariant.alike; turn = word_in_run c.args.each c.args.each c.args.count c.loop-t.t refl c.loop-t-test.true }

pub loop-i-preserved : goal.loop-i-preserved
loop-i-preserved g c =
    let w = g.T.BitStore.BITS in
    let b = has_bit (g.T.BitStore.value c.args.other) 0 in
    let xs = row g.T.BitStore g.O.BitOrder c.args.words.now in
    let ys = replicate (c.args.count * w) b in
    let m : ℕ = c.loop-t.t * c.args.each + c.loop-i.i in
    let i : ℕ = c.args.k * w in
    let next : (m + 1) * w ≡ (c.loop-t.t * c.args.each + (c.loop-i.i + 1)) * w = ap (λ v. v * w) (omega arith) in
    let positive = width_positive w g.met.T.BitStore.width in
    let lawful = g.met.O.BitOrder.lawful w g.met.T.BitStore.width in
    let word = g.T.BitStore.value c.index-words-k.result in
    let here = word_here g.T.BitStore.value g.O.BitOrder.place w w c.args.words.now c.args.k m c.index-words-k.result positive refl (omega arith) c.index-words-k.is in
    let room : m * w + w ≤ c.args.count * w = (let a = mul_mono (m + 1) c.args.count w (omega arith) in let e = one_more_word m w in omega arith) in
    record {
      turn = c.loop-i.invariant.turn;
      alike = λ none.
          let parts : (p : ℕ) → p < w → (has_bit (g.T.BitStore.value c.loop-i.apart) p ≡ false) × (has_bit (g.T.BitStore.value c.xor.result) p ≡ false) = λ p h. or_none (has_bit (g.T.BitStore.value c.loop-i.apart) p) (has_bit (g.T.BitStore.value c.xor.result) p) (sym (c.or-apart.ensures p h) ∙ none p h) in
          let bits : (p : ℕ) → p < w → has_bit word p ≡ b = λ p h. same_if (has_bit word p) (has_bit (g.T.BitStore.value c.args.other) p) (sym (c.xor.ensures p h) ∙ (parts p h).1) ∙ c.requires.same p h in
          subst (AreAlike xs ys i 0) (sym (one_more_word m w) ∙ next)
          (alike_run xs ys i 0 (m * w) w (i + m * w) (0 + m * w) refl refl
          (sym here ∙ row_repeated g.O.BitOrder.place w word b positive lawful bits ∙ sym (run_of_one (c.args.count * w) (0 + m * w) w b (omega arith)))
          (c.loop-i.invariant.alike (λ p h. (parts p h).0)));
    }

pub loop-t-preserved : goal.loop-t-preserved
loop-t-preserved g c =
    let all : c.loop-i.i ≡ c.args.each = omega arith in
    let next : c.loop-t.t * c.args.each + c.loop-i.i ≡ (c.loop-t.t + 1) * c.args.each = ap (λ m. c.loop-t.t * c.args.each + m) all ∙ sym (one_more_word c.loop-t.t c.args.each) in
    record { alike = rw next at (c.loop-i.invariant.alike (λ p h. sym (c.to_u64.ensures.low p h) ∙ ap (λ m. has_bit m p) c.if-to_u64-ne0.false ∙ has_none p)) }

-- the words that were passed, as one run
passed : (xs : List Bool) (w k count m size : ℕ) (b : Bool) → k + count ≤ size → m ≤ count → length xs ≡ w * size → AreAlike xs (replicate (count * w) b) (k * w) 0 (m * w) → slice_range xs (k * w) (k * w + m * w) ≡ replicate (m * w) b
passed xs w k count m size b room few long alike =
    let inside = words_inside w k m size (omega arith) in
    let less = mul_mono m count w few in
    let all : length (replicate (count * w) b) ≡ count * w = length-replicate (count * w) b in
    alike_all xs (replicate (count * w) b) (k * w) 0 (m * w) (m * w) (omega arith) (omega arith) (omega arith) alike ∙ run_of_one (count * w) 0 (m * w) b (omega arith)

pub returns-then-to_u64-ne0-clause-others : goal.returns-then-to_u64-ne0-clause-others
returns-then-to_u64-ne0-clause-others g c =
    let w = g.T.BitStore.BITS in
    let xs = row g.T.BitStore g.O.BitOrder c.args.words.now in
    let turn = word_in_run c.args.each c.args.each c.args.count c.loop-t.t refl c.loop-t-test.true in
    passed xs w c.args.k c.args.count (c.loop-t.t * c.args.each) (length c.args.words.now) (has_bit (g.T.BitStore.value c.args.other) 0) c.requires.within (omega arith)
    (length_row g.T.BitStore.value g.O.BitOrder.place w c.args.words.now) c.loop-t.invariant.alike

pub returns-clause-others : goal.returns-clause-others
returns-clause-others g c =
    let w = g.T.BitStore.BITS in
    let b = has_bit (g.T.BitStore.value c.args.other) 0 in
    let xs = row g.T.BitStore g.O.BitOrder c.args.words.now in
    let split = div-add-mod' c.args.count c.args.each in
    let all : c.loop-t.t ≡ c.args.count / c.args.each = omega arith in
    passed xs w c.args.k c.args.count (c.args.count / c.args.each * c.args.each) (length c.args.words.now) b c.requires.within (omega arith)
    (length_row g.T.BitStore.value g.O.BitOrder.place w c.args.words.now)
    (subst (λ t. AreAlike xs (replicate (c.args.count * w) b) (c.args.k * w) 0 (t * c.args.each * w)) all c.loop-t.invariant.alike)
