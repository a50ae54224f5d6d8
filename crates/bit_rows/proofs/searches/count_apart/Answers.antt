use Rattle.std.proofs.Common.{◌≡◌, ℕ, ◌+◌, ◌-◌, ◌*◌, ◌/◌, ◌%◌, ◌<◌, ◌≤◌, Bool, List, slice_range, length, refl, sym, ◌∙◌, ap, arith, rules}
use Rattle.std.specs.Prelude.{count_ones}
use Rattle.std.specs.List.{count_by}
use Rattle.std.proofs.lemmas.Nat.{div-add-mod'}
use Rattle.bit_addressing.specs.Row.{number_of}
use Rattle.bit_addressing.specs.Typed.{row}
use Rattle.bit_rows.proofs.Counts.{counted, counted_next, counted-le}
use Rattle.bit_addressing.proofs.lists.Sized.{one_more_word}
use Rattle.bit_addressing.proofs.Typed.{length_row}
use Rattle.bit_rows.proofs.searches.count_apart.Goals as goal

-- the bits of the first word with those of the words after it
joined : (zs : List Bool) (width w from upto head rest : ℕ) → width ≡ w → from % width < width → upto ≤ length zs → width - from % width < upto - from → head ≡ number_of (slice_range zs from (from + (width - from % width))) → rest ≡ count_by (λ b. b) (slice_range zs ((from / width + 1) * w) ((from / width + 1) * w + (upto - from - (width - from % width)))) → count_ones head + rest ≡ count_by (λ b. b) (slice_range zs from upto)
joined zs width w from upto head rest same low within more first others =
    let split : from / width * width + from % width ≡ from = div-add-mod' from width in
    let next : (from / width + 1) * width ≡ from / width * width + width = one_more_word (from / width) width in
    let at : (from / width + 1) * w ≡ (from / width + 1) * width = ap (λ k. (from / width + 1) * k) (sym same) in
    let mid : ℕ = (from / width + 1) * w in
    let end : mid + (upto - from - (width - from % width)) ≡ upto = omega arith in
    counted_next zs from mid upto (count_ones head) rest (omega arith) (omega arith) within (counted zs from (from + (width - from % width)) from mid head refl (omega arith) first) (others ∙ ap (λ k. count_by (λ b. b) (slice_range zs mid k)) end)

pub returns-then-n-edge : goal.returns-then-n-edge
returns-then-n-edge g c = counted (row g.T.BitStore g.O.BitOrder c.args.words.now) c.args.from (c.args.from + (c.args.upto - c.args.from)) c.args.from c.args.upto c.read_chunk.result refl (omega arith) c.read_chunk.ensures

pub returns : goal.returns
returns g c =
    let w = g.T.BitStore.BITS in
    let zs = row g.T.BitStore g.O.BitOrder c.args.words.now in
    let long : length zs ≡ w * length c.args.words.now = length_row g.T.BitStore.value g.O.BitOrder.place w c.args.words.now in
    joined zs c.BITS-width.result w c.args.from c.args.upto c.read_chunk-head.result c.count_front-rest.result c.BITS-width.ensures
    (search (rules, arith)) (omega (arith, c.requires.within)) (omega (arith, c.if-n-edge.false)) c.read_chunk-head.ensures c.count_front-rest.ensures

pub overflow_add-result : goal.overflow_add-result
overflow_add-result g c =
    let w = g.T.BitStore.BITS in
    let zs = row g.T.BitStore g.O.BitOrder c.args.words.now in
    let long : length zs ≡ w * length c.args.words.now = length_row g.T.BitStore.value g.O.BitOrder.place w c.args.words.now in
    let most = counted-le zs c.args.from c.args.upto (count_ones c.read_chunk-head.result + c.count_front-rest.result) c.requires.ordered (omega (arith, c.requires.within))
    (joined zs c.BITS-width.result w c.args.from c.args.upto c.read_chunk-head.result c.count_front-rest.result c.BITS-width.ensures
    (search (rules, arith)) (omega (arith, c.requires.within)) (omega (arith, c.if-n-edge.false)) c.read_chunk-head.ensures c.count_front-rest.ensures) in
    omega (arith, most)
