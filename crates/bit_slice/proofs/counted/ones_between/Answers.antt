use Rattle.std.proofs.Common.{◌≡◌, ◌+◌, ◌-◌, ◌*◌, ◌≤◌, length, count_by, slice_range, sym, ◌∙◌, ap, arith}
use Rattle.bit_addressing.specs.Typed.{row}
use Rattle.bit_rows.proofs.Counts.{counted_next, counted-le}
use Rattle.bit_addressing.proofs.Rows.{width_positive}
use Rattle.bit_slice.proofs.Counting.{IsPiece, piece_of, begin_last, word_fits, next_fits}
use Rattle.bit_slice.proofs.Parts.{in_row}
use Rattle.bit_slice.proofs.counted.ones_between.Given as given
use Rattle.bit_slice.proofs.counted.ones_between.Goals as goal
use Rattle.bit_slice.proofs.counted.ones_between.Goals.{After-ones_of_run-count}

pub begin_of-from-requires : goal.begin_of-from-requires
begin_of-from-requires g c = word_fits _ _ _ _ _ (width_positive _ g.met.T.BitStore.width) c.loop-k-test.true c.elts-k-end.ensures.value c.requires.fits

pub begin_of-upto-requires : goal.begin_of-upto-requires
begin_of-upto-requires g c = next_fits _ _ _ _ _ (width_positive _ g.met.T.BitStore.width) c.loop-k-test.true c.elts-k-end.ensures.value c.requires.fits

-- the bits of the word that is read
word_read : (g : given.Over) (c : After-ones_of_run-count g) → IsPiece g.T.BitStore.BITS c.args.head c.args.end c.begin_of-from.result c.begin_of-upto.result
word_read g c = piece_of (width_positive g.T.BitStore.BITS g.met.T.BitStore.width) c.requires.in_word c.requires.ordered (omega (arith, c.loop-k-test.true, c.elts-k-end.ensures.value)) c.begin_of-from.ensures c.begin_of-upto.ensures

-- they are counted too
more : (g : given.Over) (c : After-ones_of_run-count g) → c.loop-k.count + c.ones_of_run-count.result ≡ count_by (λ b. b) (slice_range (row g.T.BitStore g.O.BitOrder c.args.words.now.words.now) c.args.head c.begin_of-upto.result)
more g c =
    let head = c.args.head in
    let ws = c.args.words.now.words.now in
    let zs = row g.T.BitStore g.O.BitOrder ws in
    let from = c.begin_of-from.result in
    let upto = c.begin_of-upto.result in
    let p = word_read g c in
    let back : from + (upto - from) ≡ upto = let o = p.ordered in omega arith in
    let before = c.loop-k.invariant.value ∙ ap (λ n. count_by (λ b. b) (slice_range zs head n)) (sym c.begin_of-from.ensures) in
    let here = c.ones_of_run-count.ensures.value ∙ ap (λ b. count_by (λ b. b) (slice_range (row g.T.BitStore g.O.BitOrder b.now) from (from + (upto - from)))) c.loop-k.invariant.words ∙ ap (λ n. count_by (λ b. b) (slice_range zs from n)) back in
    let few : upto ≤ g.T.BitStore.BITS * length ws = let e = p.ends in omega (arith, c.requires.within) in
    counted_next zs head from upto c.loop-k.count c.ones_of_run-count.result p.begins p.ordered (in_row g.T.BitStore g.O.BitOrder ws upto few) before here

pub overflow_add-count : goal.overflow_add-count
overflow_add-count g c =
    let ws = c.args.words.now.words.now in
    let p = word_read g c in
    let end = p.ends in
    let ordered : c.args.head ≤ c.begin_of-upto.result = let b = p.begins in let o = p.ordered in omega arith in
    let most = counted-le (row g.T.BitStore g.O.BitOrder ws) c.args.head c.begin_of-upto.result (c.loop-k.count + c.ones_of_run-count.result) ordered (in_row g.T.BitStore g.O.BitOrder ws c.begin_of-upto.result (omega (arith, end, c.requires.within))) (more g c) in
    omega (arith, most, end, c.requires.fits)

pub loop-k-preserved : goal.loop-k-preserved
loop-k-preserved g c =
    let p = word_read g c in
    let one = c.ones_of_run-count.ensures.most p.in_one in
    record {
      value = more g c ∙ ap (λ n. count_by (λ b. b) (slice_range (row g.T.BitStore g.O.BitOrder c.args.words.now.words.now) c.args.head n)) c.begin_of-upto.ensures;
      words = c.ones_of_run-count.ensures.words ∙ c.loop-k.invariant.words;
      least = omega (arith, c.loop-k.invariant.least, c.ones_of_run-count.ensures.least);
      most = omega (arith, c.loop-k.invariant.most);
    }

pub returns-clause-value : goal.returns-clause-value
returns-clause-value g c =
    let w = g.T.BitStore.BITS in
    let zs = row g.T.BitStore g.O.BitOrder c.args.words.now.words.now in
    let all = begin_last w c.args.head c.args.end c.loop-k.k (width_positive w g.met.T.BitStore.width) c.requires.ordered (omega (arith, c.loop-k-test.false, c.loop-k.auto.k-end, c.elts-k-end.ensures.value)) in
    c.loop-k.invariant.value ∙ ap (λ n. count_by (λ b. b) (slice_range zs c.args.head n)) all
