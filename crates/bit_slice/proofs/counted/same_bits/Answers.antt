use Rattle.std.proofs.Common.{◌≡◌, ◌+◌, ◌-◌, slice_range, refl, sym, ◌∙◌, ap, subst, arith}
use Rattle.bit_addressing.specs.Typed.{row}
use Rattle.bit_addressing.proofs.Rows.{width_positive}
use Rattle.bit_slice.proofs.Counting.{IsRunOf, piece_beside, piece_of, begin_last, word_fits, next_fits, same_more, same_piece, told, not_told, told_false, told_true}
use Rattle.bit_slice.proofs.Parts.{in_row}
use Rattle.bit_slice.proofs.counted.same_bits.Goals as goal

pub begin_of-from-requires : goal.begin_of-from-requires
begin_of-from-requires g c = word_fits _ _ _ _ _ (width_positive _ g.met.T.BitStore.width) c.loop-k-test.true c.elts-k-end.ensures.value c.requires.fits

pub begin_of-upto-requires : goal.begin_of-upto-requires
begin_of-upto-requires g c = next_fits _ _ _ _ _ (width_positive _ g.met.T.BitStore.width) c.loop-k-test.true c.elts-k-end.ensures.value c.requires.fits

pub returns-then-not-same_run-clause-left_most : goal.returns-then-not-same_run-clause-left_most
returns-then-not-same_run-clause-left_most g c =
    let p = piece_of (width_positive g.T.BitStore.BITS g.met.T.BitStore.width) c.requires.in_word c.requires.ordered (omega (arith, c.loop-k-test.true, c.elts-k-end.ensures.value)) c.begin_of-from.ensures c.begin_of-upto.ensures in
    omega (arith, c.loop-k.invariant.left_most, c.same_run.ensures.left_most p.in_one)

pub returns-then-not-same_run-clause-right_most : goal.returns-then-not-same_run-clause-right_most
returns-then-not-same_run-clause-right_most g c e =
    let p = piece_of (width_positive g.T.BitStore.BITS g.met.T.BitStore.width) c.requires.in_word c.requires.ordered (omega (arith, c.loop-k-test.true, c.elts-k-end.ensures.value)) c.begin_of-from.ensures c.begin_of-upto.ensures in
    omega (arith, c.loop-k.invariant.right_most e, c.same_run.ensures.right_most (piece_beside c.args.begin p e))

pub returns-then-not-same_run-clause-value : goal.returns-then-not-same_run-clause-value
returns-then-not-same_run-clause-value g c =
    let w = g.T.BitStore.BITS in
    let head = c.args.head in
    let end = c.args.end in
    let xs = row g.T.BitStore g.O.BitOrder c.args.left.now.words.now in
    let ys = row g.T.BitStore g.O.BitOrder c.args.right.now.words.now in
    let from = c.begin_of-from.result in
    let upto = c.begin_of-upto.result in
    let p = piece_of (width_positive g.T.BitStore.BITS g.met.T.BitStore.width) c.requires.in_word c.requires.ordered (omega (arith, c.loop-k-test.true, c.elts-k-end.ensures.value)) c.begin_of-from.ensures c.begin_of-upto.ensures in
    let run : IsRunOf head end c.args.begin from upto (c.args.begin + (from - head)) (upto - from) = record { begins = p.begins; ordered = p.ordered; ends = p.ends; place = refl; count = refl } in
    let left = in_row g.T.BitStore g.O.BitOrder c.args.left.now.words.now end c.requires.within_left in
    let right = in_row g.T.BitStore g.O.BitOrder c.args.right.now.words.now (c.args.begin + (end - head)) c.requires.within_right in
    told_false _ (λ e. not_told (c.if-not-same_run.ensures.value.1
    (ap (λ b. slice_range (row g.T.BitStore g.O.BitOrder b.now) from (from + (upto - from))) c.loop-k.invariant.left_words
    ∙ same_piece xs ys head end c.args.begin left right from upto (c.args.begin + (from - head)) (upto - from) run e
    ∙ ap (λ b. slice_range (row g.T.BitStore g.O.BitOrder b.now) (c.args.begin + (from - head)) (c.args.begin + (from - head) + (upto - from))) (sym c.loop-k.invariant.right_words))))

pub loop-k-preserved : goal.loop-k-preserved
loop-k-preserved g c =
    let w = g.T.BitStore.BITS in
    let head = c.args.head in
    let end = c.args.end in
    let k = c.loop-k.k in
    let xs = row g.T.BitStore g.O.BitOrder c.args.left.now.words.now in
    let ys = row g.T.BitStore g.O.BitOrder c.args.right.now.words.now in
    let from = c.begin_of-from.result in
    let upto = c.begin_of-upto.result in
    let p = piece_of (width_positive g.T.BitStore.BITS g.met.T.BitStore.width) c.requires.in_word c.requires.ordered (omega (arith, c.loop-k-test.true, c.elts-k-end.ensures.value)) c.begin_of-from.ensures c.begin_of-upto.ensures in
    let run : IsRunOf head end c.args.begin from upto (c.args.begin + (from - head)) (upto - from) = record { begins = p.begins; ordered = p.ordered; ends = p.ends; place = refl; count = refl } in
    let left = in_row g.T.BitStore g.O.BitOrder c.args.left.now.words.now end c.requires.within_left in
    let right = in_row g.T.BitStore g.O.BitOrder c.args.right.now.words.now (c.args.begin + (end - head)) c.requires.within_right in
    let before : slice_range xs head from ≡ slice_range ys c.args.begin (c.args.begin + (from - head)) = rw c.begin_of-from.ensures c.loop-k.invariant.same in
    let here = ap (λ b. slice_range (row g.T.BitStore g.O.BitOrder b.now) from (from + (upto - from))) (sym c.loop-k.invariant.left_words)
    ∙ c.if-not-same_run.ensures.value.0 told
    ∙ ap (λ b. slice_range (row g.T.BitStore g.O.BitOrder b.now) (c.args.begin + (from - head)) (c.args.begin + (from - head) + (upto - from))) c.loop-k.invariant.right_words in
    let now = same_more xs ys head end c.args.begin left right from upto (c.args.begin + (from - head)) (upto - from) run before here in
    let more = c.same_run.ensures.left_most p.in_one in
    record {
      same = subst (λ n. slice_range xs head n ≡ slice_range ys c.args.begin (c.args.begin + (n - head))) c.begin_of-upto.ensures now;
      left_words = c.same_run.ensures.left_words ∙ c.loop-k.invariant.left_words;
      right_words = c.same_run.ensures.right_words ∙ c.loop-k.invariant.right_words;
      left_least = omega (arith, c.loop-k.invariant.left_least, c.same_run.ensures.left_least);
      right_least = omega (arith, c.loop-k.invariant.right_least, c.same_run.ensures.right_least);
      left_most = omega (arith, c.loop-k.invariant.left_most);
      right_most = λ e. omega (arith, c.loop-k.invariant.right_most e, c.same_run.ensures.right_most (piece_beside c.args.begin p e));
    }

pub returns-clause-value : goal.returns-clause-value
returns-clause-value g c =
    let w = g.T.BitStore.BITS in
    let head = c.args.head in
    let xs = row g.T.BitStore g.O.BitOrder c.args.left.now.words.now in
    let ys = row g.T.BitStore g.O.BitOrder c.args.right.now.words.now in
    let all = begin_last w head c.args.end c.loop-k.k (width_positive w g.met.T.BitStore.width) c.requires.ordered (omega (arith, c.loop-k-test.false, c.loop-k.auto.k-end, c.elts-k-end.ensures.value)) in
    told_true _ (subst (λ n. slice_range xs head n ≡ slice_range ys c.args.begin (c.args.begin + (n - head))) all c.loop-k.invariant.same)
