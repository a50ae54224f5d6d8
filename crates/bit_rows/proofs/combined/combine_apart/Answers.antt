use Rattle.std.proofs.Common.{◌≡◌, ℕ, ◌+◌, ◌-◌, ◌*◌, [], ◌∷◌, length, slice_range, refl, ◌∙◌, ap, arith}
use Rattle.std.specs.Simd.Lanes.{zip2}
use Rattle.bit_addressing.specs.Row.{put}
use Rattle.bit_addressing.specs.Typed.{row}
use Rattle.bit_addressing.proofs.Chunks.{part_is}
use Rattle.bit_rows.proofs.Combinations.{combined_none, combined_begin, combined_part}
use Rattle.bit_addressing.proofs.Rows.{width_small}
use Rattle.bit_addressing.proofs.Runs.{inner}
use Rattle.bit_addressing.proofs.Typed.{length_row}
use Rattle.bit_rows.proofs.Wholes.{split_sum}
use Rattle.bit_rows.proofs.combined.combine_apart.Goals as goal

pub returns-then-n-eq0-clause-bits : goal.returns-then-n-eq0-clause-bits
returns-then-n-eq0-clause-bits g c = combined_none g.F.BitOperator.made (row g.T.BitStore g.O.BitOrder c.args.words.now) (row g.U.BitStore g.P.BitOrder c.args.source.now) c.args.at c.args.from c.args.n c.if-n-eq0.true

pub overflow_add-from : goal.overflow_add-from
overflow_add-from g c = let m = inner c.of-first.ensures c.if-first-last.false in let run = c.of-first.ensures in omega arith

pub word_of_run-new-requires-2-clause-source : goal.word_of_run-new-requires-2-clause-source
word_of_run-new-requires-2-clause-source g c = let m = inner c.of-first.ensures c.if-first-last.false in let run = c.of-first.ensures in omega arith

pub returns-then-first-last-clause-bits : goal.returns-then-first-last-clause-bits
returns-then-first-last-clause-bits g c =
    let w = g.T.BitStore.BITS in
    let at = c.args.at in
    let from = c.args.from in
    let f = g.F.BitOperator.made in
    let zs = row g.U.BitStore g.P.BitOrder c.args.source.now in
    let old = row g.T.BitStore g.O.BitOrder c.args.words.now in
    let s = c.of-first.result in
    let run = c.of-first.ensures in
    let long : length zs ≡ g.U.BitStore.BITS * length c.args.source.now = length_row g.U.BitStore.value g.P.BitOrder.place g.U.BitStore.BITS c.args.source.now in
    let size : length old ≡ w * length c.args.words.now = length_row g.T.BitStore.value g.O.BitOrder.place w c.args.words.now in
    let same : s.first * w ≡ s.last * w = ap (λ n. n * w) c.if-first-last.true in
    let r = run in
    let new = row g.T.BitStore g.O.BitOrder (c.word_of_run-new.result ∷ []) in
    let part : slice_range new s.low s.end ≡ slice_range zs from (from + c.args.n) = part_is new zs s.low s.end c.args.n from from (from + c.args.n) (omega arith) refl refl c.word_of_run-new.ensures in
    c.combine_part.ensures.bits
    ∙ combined_part f old old zs _ at at (at + c.args.n) from from (from + c.args.n) (s.first * w + s.low) (s.first * w + s.end) run.begins (omega arith) (omega arith) (omega arith) (omega arith) (omega arith) (omega arith) (omega arith) part (combined_begin f old zs at from)

pub combine_ahead-requires-clause-target : goal.combine_ahead-requires-clause-target
combine_ahead-requires-clause-target g c = c.of-first.ensures.inside (length c.args.words.now) c.requires.target

pub combine_ahead-requires-clause-source : goal.combine_ahead-requires-clause-source
combine_ahead-requires-clause-source g c =
    let r = c.of-first.ensures in
    let whole = split_sum g.T.BitStore.BITS c.of-first.result.first c.of-first.result.last r.ordered in
    omega arith

pub combine_ahead-requires-clause-source_fits : goal.combine_ahead-requires-clause-source_fits
combine_ahead-requires-clause-source_fits g c =
    let r = c.of-first.ensures in
    let whole = split_sum g.T.BitStore.BITS c.of-first.result.first c.of-first.result.last r.ordered in
    omega arith

pub returns-then-low-eq0-clause-bits : goal.returns-then-low-eq0-clause-bits
returns-then-low-eq0-clause-bits g c =
    let w = g.T.BitStore.BITS in
    let at = c.args.at in
    let from = c.args.from in
    let n = c.args.n in
    let f = g.F.BitOperator.made in
    let zs = row g.U.BitStore g.P.BitOrder c.args.source.now in
    let old = row g.T.BitStore g.O.BitOrder c.args.words.now in
    let s = c.of-first.result in
    let r = c.of-first.ensures in
    let whole = split_sum w s.first s.last r.ordered in
    let begins : s.first * w ≡ at = omega arith in
    let ends : s.last * w + s.end ≡ at + n = omega arith in
    let far : from + (s.last - s.first) * w + s.end ≡ from + n = omega arith in
    c.combine_ahead.ensures.bits
    ∙ ap (λ i. put old i (zip2 f (slice_range old i (s.last * w + s.end)) (slice_range zs from (from + (s.last - s.first) * w + s.end)))) begins
    ∙ ap (λ i. put old at (zip2 f (slice_range old at i) (slice_range zs from (from + (s.last - s.first) * w + s.end)))) ends
    ∙ ap (λ i. put old at (zip2 f (slice_range old at (at + n)) (slice_range zs from i))) far

pub combine_ahead-requires-2-clause-source : goal.combine_ahead-requires-2-clause-source
combine_ahead-requires-2-clause-source g c =
    let m = inner c.of-first.ensures c.if-first-last.false in
    let r = c.of-first.ensures in
    omega arith

pub combine_ahead-requires-2-clause-source_fits : goal.combine_ahead-requires-2-clause-source_fits
combine_ahead-requires-2-clause-source_fits g c =
    let m = inner c.of-first.ensures c.if-first-last.false in
    let r = c.of-first.ensures in
    omega arith

pub returns-clause-bits : goal.returns-clause-bits
returns-clause-bits g c =
    let w = g.T.BitStore.BITS in
    let width = c.BITS-width.result in
    let e = c.BITS-width.ensures in
    let at = c.args.at in
    let upto : ℕ = at + c.args.n in
    let from = c.args.from in
    let f = g.F.BitOperator.made in
    let zs = row g.U.BitStore g.P.BitOrder c.args.source.now in
    let old = row g.T.BitStore g.O.BitOrder c.args.words.now in
    let s = c.of-first.result in
    let m = inner c.of-first.ensures c.if-first-last.false in
    let r = c.of-first.ensures in
    let long : length zs ≡ g.U.BitStore.BITS * length c.args.source.now = length_row g.U.BitStore.value g.P.BitOrder.place g.U.BitStore.BITS c.args.source.now in
    let size : length old ≡ w * length c.args.words.now = length_row g.T.BitStore.value g.O.BitOrder.place w c.args.words.now in
    let p : ℕ = (s.first + 1) * w in
    let q : ℕ = s.last * w + s.end in
    let a : ℕ = from + (width - s.low) in
    let b : ℕ = a + (s.last - (s.first + 1)) * w + s.end in
    let head = row g.T.BitStore g.O.BitOrder (c.word_of_run-new-2.result ∷ []) in
    let one = c.combine_part-2.ensures.bits
    ∙ combined_part f old old zs _ at at p from from a (s.first * w + s.low) (s.first * w + width) r.begins (omega arith) (omega arith) (omega arith) (omega arith) (omega arith) (omega arith) (omega arith)
    (part_is head zs s.low width (width - s.low) from from a (omega arith) refl refl c.word_of_run-new-2.ensures) (combined_begin f old zs at from) in
    c.combine_ahead-2.ensures.bits
    ∙ combined_part f old (row g.T.BitStore g.O.BitOrder c.combine_part-2.new.words) zs _ at p upto from a (from + c.args.n) p q refl (omega arith) (omega arith) (omega arith) (omega arith) (omega arith) (omega arith) (omega arith)
    (ap (slice_range zs a) (omega arith)) one

pub word_of_run-new-requires-clause-begins : goal.word_of_run-new-requires-clause-begins
word_of_run-new-requires-clause-begins g c = c.of-first.ensures.low_below

pub word_of_run-new-requires-clause-ends : goal.word_of_run-new-requires-clause-ends
word_of_run-new-requires-clause-ends g c = let run = c.of-first.ensures in omega (arith, ap (λ k. k * g.T.BitStore.BITS) c.if-first-last.true)

pub overflow_cast-n : goal.overflow_cast-n
overflow_cast-n g c = let run = c.of-first.ensures in let small = width_small _ g.met.T.BitStore.width in omega (arith, ap (λ k. k * g.T.BitStore.BITS) c.if-first-last.true)

pub combine_part-requires-clause-word : goal.combine_part-requires-clause-word
combine_part-requires-clause-word g c = rw c.if-first-last.true (c.of-first.ensures.inside _ c.requires.target)

pub combine_part-requires-clause-some : goal.combine_part-requires-clause-some
combine_part-requires-clause-some g c = let run = c.of-first.ensures in omega (arith, ap (λ k. k * g.T.BitStore.BITS) c.if-first-last.true)

pub word_of_run-new-requires-2-clause-ends : goal.word_of_run-new-requires-2-clause-ends
word_of_run-new-requires-2-clause-ends g c = let run = c.of-first.ensures in omega arith

pub combine_part-requires-2-clause-word : goal.combine_part-requires-2-clause-word
combine_part-requires-2-clause-word g c = let run = c.of-first.ensures in let last = c.of-first.ensures.inside _ c.requires.target in omega arith

pub combine_ahead-requires-2-clause-target : goal.combine_ahead-requires-2-clause-target
combine_ahead-requires-2-clause-target g c = rw c.combine_part-2.ensures.size (c.of-first.ensures.inside _ c.requires.target)
