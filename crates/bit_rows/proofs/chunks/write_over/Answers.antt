use Rattle.std.proofs.Common.{◌≡◌, ◌+◌, ◌-◌, ◌*◌, ◌%◌, Bool, List, [], ◌∷◌, length, slice_range, sym, ◌∙◌, ap, arith}
use Rattle.std.proofs.lemmas.Nat.{mod-mul-add}
use Rattle.std.proofs.lemmas.Grind.{common_steps}
use Rattle.bit_addressing.specs.Row.{put, row_of}
use Rattle.bit_addressing.specs.Typed.{row}
use Rattle.bit_addressing.proofs.lists.Put.{put_joined}
use Rattle.bit_addressing.proofs.lists.Shown.{length-run}
use Rattle.bit_addressing.proofs.lists.Sized.{one_more_word}
use Rattle.bit_addressing.proofs.Chunks.{lowest_bits}
use Rattle.bit_addressing.proofs.Rows.{length-row_of}
use Rattle.bit_addressing.proofs.Runs.{slices_joined}
use Rattle.bit_addressing.proofs.Typed.{length_row}
use Rattle.bit_rows.proofs.Numbers.{lowest_moved}
use Rattle.bit_rows.proofs.chunks.write_over.Goals as goal

pub returns-then-low-n-le64-clause-bits : goal.returns-then-low-n-le64-clause-bits
returns-then-low-n-le64-clause-bits g c =
    let w = g.T.BitStore.BITS in
    let run = c.of-first.ensures in
    let s = c.of-first.result in
    let at = c.args.at in
    let n = c.args.n in
    let old = row g.T.BitStore g.O.BitOrder c.args.words.now in
    let zs = row_of g.O.BitOrder.place 64 (c.from_lsb0-block.result ∷ []) in
    let low : at % w ≡ s.low = ap (λ m. m % w) (sym run.begins) ∙ mod-mul-add s.first w s.low run.low_below in
    c.write_from_block.ensures.bits
    ∙ ap (put old at) (ap (λ m. slice_range zs m (m + n)) low ∙ lowest_moved g.O.BitOrder.place c.from_lsb0-block.result c.args.chunk s.low n c.if-low-n-le64.true c.from_lsb0-block.ensures)

pub returns-then-last-first-clause-bits : goal.returns-then-last-first-clause-bits
returns-then-last-first-clause-bits g c = c.copy_bits.ensures.bits ∙ ap (put (row g.T.BitStore g.O.BitOrder c.args.words.now) c.args.at) (lowest_bits c.args.chunk c.args.n c.requires.few)

pub returns-clause-bits : goal.returns-clause-bits
returns-clause-bits g c =
    let w = g.T.BitStore.BITS in
    let run = c.of-first.ensures in
    let s = c.of-first.result in
    let at = c.args.at in
    let old = row g.T.BitStore g.O.BitOrder c.args.words.now in
    let size : length old ≡ w * length c.args.words.now = length_row g.T.BitStore.value g.O.BitOrder.place w c.args.words.now in
    let source : List Bool = row_of (λ w i. i) 64 (c.args.chunk ∷ []) in
    let long : length source ≡ 64 * 1 = length-row_of (λ w i. i) 64 (c.args.chunk ∷ []) in
    let split = c.BITS.result - s.low in
    let next : s.last * w ≡ s.first * w + w = ap (λ k. k * w) c.if-last-first.false ∙ one_more_word s.first w in
    let r = run in
    let wide = c.BITS.ensures in
    let all : split + s.end ≡ 0 + c.args.n = omega arith in
    let plain : 0 + split ≡ split = omega arith in
    let sides : length (slice_range source 0 split) ≡ split = ap (λ m. length (slice_range source 0 m)) (sym plain) ∙ length-run source 0 split (omega arith) in
    let rest : length (slice_range source split (split + s.end)) ≡ s.end = length-run source split s.end (omega arith) in
    let front : slice_range (row g.T.BitStore g.O.BitOrder (c.word_of_run-front.result ∷ [])) s.low c.BITS-2.result ≡ slice_range source 0 split =
    ap (slice_range (row g.T.BitStore g.O.BitOrder (c.word_of_run-front.result ∷ [])) s.low) (omega (arith, c.BITS-2.ensures)) ∙ c.word_of_run-front.ensures ∙ ap (slice_range source 0) plain in
    c.write_part-2.ensures.bits
    ∙ ap (λ ys. put (row g.T.BitStore g.O.BitOrder c.write_part.new.words) (s.last * w + 0) ys) (ap (slice_range (row g.T.BitStore g.O.BitOrder (c.word_of_run-back.result ∷ [])) 0) (omega arith) ∙ c.word_of_run-back.ensures)
    ∙ ap (λ r. put r (s.last * w + 0) (slice_range source split (split + s.end))) (c.write_part.ensures.bits ∙ ap (put old (s.first * w + s.low)) front ∙ ap (λ m. put old m (slice_range source 0 split)) run.begins)
    ∙ put_joined old (slice_range source 0 split) (slice_range source split (split + s.end)) at (s.last * w + 0) (omega arith) (omega (arith, c.requires.within))
    ∙ ap (put old at) (slices_joined source 0 split (split + s.end) (omega arith) (omega arith) (omega arith) ∙ ap (slice_range source 0) all ∙ lowest_bits c.args.chunk c.args.n c.requires.few)

pub write_from_block-requires-clause-block : goal.write_from_block-requires-clause-block
write_from_block-requires-clause-block g c = grind (arith, common_steps)
