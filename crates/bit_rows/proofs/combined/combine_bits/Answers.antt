use Rattle.std.proofs.Common.{◌≡◌, ℕ, ◌+◌, ◌-◌, ◌*◌, ◌/◌, ◌%◌, ◌<◌, Bool, List, [], ◌∷◌, length, slice_range, ◌∙◌, ap, sym, arith}
use Rattle.std.specs.Simd.Lanes.{zip2}
use Rattle.std.proofs.lemmas.Nat.{div-add-mod'}
use Rattle.std.proofs.Math.Nat.{mod-lt}
use Rattle.bit_addressing.specs.Row.{put}
use Rattle.bit_addressing.specs.Typed.{row}
use Rattle.bit_rows.proofs.Combinations.{combined_part}
use Rattle.bit_addressing.proofs.Rows.{width_positive}
use Rattle.bit_rows.proofs.Wholes.{begins_word, words_there}
use Rattle.bit_addressing.proofs.lists.Sized.{right_sum}
use Rattle.bit_addressing.proofs.Typed.{length_row, row_piece}
use Rattle.bit_rows.proofs.combined.combine_bits.Goals as goal

-- whole words made of two, said by the bits where they begin
of_words : (f : Bool → Bool → Bool) (old new zs : List Bool) (w at from first begin whole : ℕ) → first * w ≡ at → begin * w ≡ from
    → new ≡ put old (first * w) (zip2 f (slice_range old (first * w) ((first + whole) * w)) (slice_range zs (begin * w) (begin * w + (first + whole - first) * w)))
    → new ≡ put old at (zip2 f (slice_range old at (at + whole * w)) (slice_range zs from (from + whole * w)))
of_words f old new zs w at from first begin whole ea eb is =
    let n : first + whole - first ≡ whole = omega arith in
    let e : (first + whole) * w ≡ at + whole * w = right_sum first whole w ∙ ap (λ m. m + whole * w) ea in
    is
    ∙ ap (λ m. put old (first * w) (zip2 f (slice_range old (first * w) ((first + whole) * w)) (slice_range zs (begin * w) (begin * w + m * w)))) n
    ∙ ap (λ m. put old (first * w) (zip2 f (slice_range old (first * w) m) (slice_range zs (begin * w) (begin * w + whole * w)))) e
    ∙ ap (λ m. put old m (zip2 f (slice_range old m (at + whole * w)) (slice_range zs (begin * w) (begin * w + whole * w)))) ea
    ∙ ap (λ m. put old at (zip2 f (slice_range old at (at + whole * w)) (slice_range zs m (m + whole * w)))) eb

pub combine_alike-requires-clause-target : goal.combine_alike-requires-clause-target
combine_alike-requires-clause-target g c = (words_there c.BITS-width.ensures (width_positive _ g.met.T.BitStore.width) c.if-at-width-ne0.false c.requires.target).most

pub combine_alike-requires-clause-source : goal.combine_alike-requires-clause-source
combine_alike-requires-clause-source g c = let same = (c.are_alike.ensures c.if-not-are_alike.false).width in let t = words_there (c.BITS-width.ensures ∙ sym same) (width_positive _ g.met.U.BitStore.width) c.if-from-width-ne0.false c.requires.source in omega arith

pub bounds-source-begin : goal.bounds-source-begin
bounds-source-begin g c = let same = (c.are_alike.ensures c.if-not-are_alike.false).width in (words_there (c.BITS-width.ensures ∙ sym same) (width_positive _ g.met.U.BitStore.width) c.if-from-width-ne0.false c.requires.source).rest c.if-rest-eq0.false

pub combine_part-requires-clause-word : goal.combine_part-requires-clause-word
combine_part-requires-clause-word g c = rw c.combine_alike.ensures.size ((words_there c.BITS-width.ensures (width_positive _ g.met.T.BitStore.width) c.if-at-width-ne0.false c.requires.target).rest c.if-rest-eq0.false)

pub returns-then-rest-eq0-clause-bits : goal.returns-then-rest-eq0-clause-bits
returns-then-rest-eq0-clause-bits g c =
    let w = g.T.BitStore.BITS in
    let d = c.BITS-width.result in
    let at = c.args.at in
    let from = c.args.from in
    let n = c.args.n in
    let f = g.F.BitOperator.made in
    let zs = row g.U.BitStore g.P.BitOrder c.args.source.now in
    let old = row g.T.BitStore g.O.BitOrder c.args.words.now in
    of_words f old (row g.T.BitStore g.O.BitOrder c.combine_alike.new.words) zs w at from (at / d) (from / d) (n / d) (begins_word at d w c.BITS-width.ensures c.if-at-width-ne0.false) (begins_word from d w c.BITS-width.ensures c.if-from-width-ne0.false) c.combine_alike.ensures.bits
    ∙ ap (λ m. put old at (zip2 f (slice_range old at (at + m)) (slice_range zs from (from + m)))) (begins_word n d w c.BITS-width.ensures c.if-rest-eq0.true)

pub returns-clause-bits : goal.returns-clause-bits
returns-clause-bits g c =
    let w = g.T.BitStore.BITS in
    let u = g.U.BitStore.BITS in
    let d = c.BITS-width.result in
    let e = c.BITS-width.ensures in
    let at = c.args.at in
    let from = c.args.from in
    let n = c.args.n in
    let f = g.F.BitOperator.made in
    let source = c.args.source.now in
    let zs = row g.U.BitStore g.P.BitOrder source in
    let old = row g.T.BitStore g.O.BitOrder c.args.words.now in
    let cur = row g.T.BitStore g.O.BitOrder c.combine_alike.new.words in
    let new = row g.T.BitStore g.O.BitOrder (c.word_alike-new.result ∷ []) in
    let same = (c.are_alike.ensures c.if-not-are_alike.false).width in
    let first : ℕ = at / d in
    let begin : ℕ = from / d in
    let whole : ℕ = n / d in
    let rest : ℕ = n % d in
    let positive = width_positive w g.met.T.BitStore.width in
    let below : rest < d = mod-lt n (omega arith) in
    let head : first * w ≡ at = begins_word at d w e c.if-at-width-ne0.false in
    let start : begin * w ≡ from = begins_word from d w e c.if-from-width-ne0.false in
    let split = div-add-mod' n d in
    let wide : whole * d ≡ whole * w = ap (λ m. whole * m) e in
    let size : length old ≡ w * length c.args.words.now = length_row g.T.BitStore.value g.O.BitOrder.place w c.args.words.now in
    let long : length zs ≡ u * length source = length_row g.U.BitStore.value g.P.BitOrder.place u source in
    let p : ℕ = at + whole * w in
    let a : ℕ = from + whole * w in
    let end : (first + whole) * w ≡ p = right_sum first whole w ∙ ap (λ m. m + whole * w) head in
    let far : (begin + whole) * w ≡ a = right_sum begin whole w ∙ ap (λ m. m + whole * w) start in
    let there : begin + whole < length source = (words_there (c.BITS-width.ensures ∙ sym same) (width_positive _ g.met.U.BitStore.width) c.if-from-width-ne0.false c.requires.source).rest c.if-rest-eq0.false in
    let here : a ≡ (begin + whole) * u = sym far ∙ ap (λ m. (begin + whole) * m) (sym same) in
    let part : slice_range new 0 rest ≡ slice_range zs a (from + n) = ap (λ l. slice_range l 0 rest) c.word_alike-new.ensures
    ∙ row_piece g.U.BitStore.value g.P.BitOrder.place u source (begin + whole) 0 rest a (from + n) c.index-source-begin.result (width_positive u g.met.U.BitStore.width) there (omega arith) (omega arith) c.index-source-begin.is (omega arith) (omega arith) in
    c.combine_part.ensures.bits
    ∙ combined_part f old cur zs (slice_range new 0 rest) at p (at + n) from a (from + n) ((first + whole) * w + 0) ((first + whole) * w + rest) (omega arith) (omega arith) (omega arith) (omega arith) (omega arith) (omega arith) (omega arith) (omega arith) part
    (of_words f old cur zs w at from first begin whole head start c.combine_alike.ensures.bits)

pub overflow_add-first : goal.overflow_add-first
overflow_add-first g c = let t = words_there c.BITS-width.ensures (width_positive _ g.met.T.BitStore.width) c.if-at-width-ne0.false c.requires.target in omega arith

pub overflow_add-first-2 : goal.overflow_add-first-2
overflow_add-first-2 g c = let t = words_there c.BITS-width.ensures (width_positive _ g.met.T.BitStore.width) c.if-at-width-ne0.false c.requires.target in omega arith

pub overflow_add-begin : goal.overflow_add-begin
overflow_add-begin g c = let same = (c.are_alike.ensures c.if-not-are_alike.false).width in let t = words_there (c.BITS-width.ensures ∙ sym same) (width_positive _ g.met.U.BitStore.width) c.if-from-width-ne0.false c.requires.source in omega arith

pub offset_bounds-source-begin : goal.offset_bounds-source-begin
offset_bounds-source-begin g c = let same = (c.are_alike.ensures c.if-not-are_alike.false).width in let t = words_there (c.BITS-width.ensures ∙ sym same) (width_positive _ g.met.U.BitStore.width) c.if-from-width-ne0.false c.requires.source in omega arith
