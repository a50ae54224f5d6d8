use Rattle.std.proofs.lemmas.Grind.{common_steps}
use Rattle.std.proofs.Common.{◌≡◌, ℕ, ◌+◌, ◌-◌, ◌*◌, ◌<◌, ◌≤◌, length, ◌∙◌, ap, arith}
use Rattle.bit_addressing.specs.Typed.{row}
use Rattle.bit_addressing.proofs.Runs.{mul_mono}
use Rattle.bit_slice.proofs.Parts.{row_size}
use Rattle.bit_slice.proofs.Rotating.{rotated_run, rotated_up, rotated_down, no_more_words}
use Rattle.bit_slice.proofs.edits.rotate.rotate_long.Goals as goal

-- the least number of words for more bits than others have is at most theirs
fewest : (k m w back size : ℕ) → m * w ≡ size → size < back + w → back < k * w → size ≤ k * w
fewest k m w back size all least more = omega (arith, all, mul_mono m k w (no_more_words m k w (omega arith)))

pub loop-back-preserved-then-size-back : goal.loop-back-preserved-then-size-back
unfolding rotated_run
loop-back-preserved-then-size-back g c =
    let ys = row g.T.BitStore g.O.BitOrder c.loop-back.words in
    let at = c.loop-back.at in
    let left = c.loop-back.left in
    let front = c.loop-back.front in
    let size : ℕ = front - c.in_word-count.result.1 in
    let whole : c.in_word-count.result.0 * g.T.BitStore.BITS ≡ size = omega (arith, c.in_word-count.ensures.index) in
    let inside = c.loop-back.invariant.inside in
    let few = c.if-size-back.true in
    let long : length ys ≡ g.T.BitStore.BITS * length c.args.words.now = row_size g.T.BitStore g.O.BitOrder c.loop-back.words ∙ ap (λ n. g.T.BitStore.BITS * n) c.loop-back.invariant.size in
    let within = c.loop-back.invariant.within in
    let carried = c.carry_up.ensures.bits ∙ ap (λ n. rotated_run ys at (front + n) front) whole in
    record {
      inside = omega arith;
      within = omega arith;
      size = c.carry_up.ensures.size ∙ c.loop-back.invariant.size;
      result = ap (λ l. rotated_run l (at + size) (left - size) front) carried ∙ rotated_up ys at left front size inside few (omega arith) ∙ c.loop-back.invariant.result;
    }

pub loop-back-preserved : goal.loop-back-preserved
unfolding rotated_run
loop-back-preserved g c =
    let ys = row g.T.BitStore g.O.BitOrder c.loop-back.words in
    let at = c.loop-back.at in
    let left = c.loop-back.left in
    let front = c.loop-back.front in
    let back : ℕ = left - front in
    let size : ℕ = back + c.least_words-count.result.1 in
    let whole : c.least_words-count.result.0 * g.T.BitStore.BITS ≡ size = c.least_words-count.ensures.whole in
    let inside = c.loop-back.invariant.inside in
    let long : length ys ≡ g.T.BitStore.BITS * length c.args.words.now = row_size g.T.BitStore g.O.BitOrder c.loop-back.words ∙ ap (λ n. g.T.BitStore.BITS * n) c.loop-back.invariant.size in
    let within = c.loop-back.invariant.within in
    let few = fewest c.in_word-count.result.0 c.least_words-count.result.0 g.T.BitStore.BITS back size whole (omega (arith, c.least_words-count.ensures.within)) (omega (arith, c.in_word-count.ensures.index, c.if-size-back.false)) in
    let smaller : size ≤ front = omega (arith, few, c.in_word-count.ensures.index) in
    let begins : at + left - (back + size) ≡ at + (front - size) = omega arith in
    let carried = c.carry_down.ensures.bits ∙ (λ j. rotated_run ys (at + left - (back + whole j)) (back + whole j) (whole j)) ∙ ap (λ a. rotated_run ys a (back + size) size) begins in
    record {
      inside = omega arith;
      within = omega arith;
      size = c.carry_down.ensures.size ∙ c.loop-back.invariant.size;
      result = ap (λ l. rotated_run l at (left - size) (front - size)) carried ∙ rotated_down ys at left front size inside smaller (omega arith) ∙ c.loop-back.invariant.result;
    }

pub returns-clause-bits : goal.returns-clause-bits
unfolding rotated_run
returns-clause-bits g c = c.rotate_once.ensures.bits ∙ c.loop-back.invariant.result

pub carry_down-requires-clause-full : goal.carry_down-requires-clause-full
carry_down-requires-clause-full g c = grind (arith, common_steps)
