use Rattle.std.proofs.Common.{◌≡◌, ℕ, ◌+◌, ◌-◌, ◌*◌, ◌%◌, ◌<◌, ◌≤◌, length, replicate, refl, sym, ◌∙◌, ap, arith}
use Rattle.std.proofs.lemmas.Nat.{mod-mul-add}
use Rattle.bit_addressing.specs.Row.{put}
use Rattle.bit_addressing.specs.Typed.{row}
use Rattle.bit_addressing.proofs.lists.Put.{put_none}
use Rattle.bit_addressing.proofs.Rows.{width_positive}
use Rattle.bit_addressing.proofs.Runs.{inside_words}
use Rattle.bit_addressing.proofs.Typed.{row_mended}
use Rattle.bit_rows.proofs.Grown.{part_repeated}
use Rattle.bit_rows.proofs.growth.fill_in_word.Goals as goal

pub returns-then-from-upto-clause-bits : goal.returns-then-from-upto-clause-bits
returns-then-from-upto-clause-bits g c =
    let none : c.args.upto - c.args.from ≡ 0 = omega arith in
    rw none (sym (put_none (row g.T.BitStore g.O.BitOrder c.args.words.now.items) c.args.from))

pub returns-clause-bits : goal.returns-clause-bits
returns-clause-bits g c =
    let w = g.T.BitStore.BITS in
    let place = g.O.BitOrder.place in
    let items = c.args.words.now.items in
    let k : ℕ = c.in_word-k.result.0 in
    let low : ℕ = c.in_word-k.result.1 in
    let n : ℕ = c.args.upto - c.args.from in
    let positive = width_positive w g.met.T.BitStore.width in
    let lawful = g.met.O.BitOrder.lawful w g.met.T.BitStore.width in
    let begins : k * w + low ≡ c.args.from = c.in_word-k.ensures.index in
    let same : c.args.from % w ≡ low = ap (λ m. m % w) (sym begins) ∙ mod-mul-add k w low c.in_word-k.ensures.within in
    let within : low + n ≤ w = rw same at c.requires.one in
    let word : k < length items = inside_words w k (length items) (k * w) refl (omega (arith, begins, c.requires.within, c.requires.ordered, c.if-from-upto.false)) in
    row_mended g.T.BitStore.value place w items k low (low + n) c.index-old.result.now c.repeated.result c.mask-mask.result c.blend.result positive lawful
    word (omega arith) within c.index-old.ensures (rw (c.new_unchecked.ensures, c.new_unchecked-2.ensures) at c.mask-mask.ensures) c.blend.ensures
    ∙ ap (put (row g.T.BitStore g.O.BitOrder items) (k * w + low)) (part_repeated place w _ low (low + n) n c.args.bit positive lawful c.repeated.ensures within (omega arith))
    ∙ ap (λ m. put (row g.T.BitStore g.O.BitOrder items) m (replicate n c.args.bit)) begins
