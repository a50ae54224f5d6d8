use Rattle.std.proofs.Common.{◌≡◌, ◌∙◌, ◌+◌, ◌*◌, length, sym, ap, arith}
use Rattle.bit_addressing.specs.Row.{binary, put, sized, words_for}
use Rattle.bit_addressing.specs.Typed.{row}
use Rattle.bit_rows.proofs.Binary.{chunk_of, no_digits}
use Rattle.bit_rows.proofs.Numbers.{digits_moved}
use Rattle.bit_addressing.proofs.Typed.{length_row}
use Rattle.bit_addressing.proofs.lists.Sized.{room, sized_same}
use Rattle.bit_addressing.proofs.Rows.{width_positive}
use Rattle.bit_rows.proofs.pushes.push_binary_in_vec.Goals as goal

pub returns-then-n-eq0-clause-bits : goal.returns-then-n-eq0-clause-bits
returns-then-n-eq0-clause-bits g c =
    let w = g.T.BitStore.BITS in
    let items = c.args.words.now.items in
    let old = row g.T.BitStore g.O.BitOrder items in
    let same : c.args.end ≡ c.args.end + c.args.n = omega arith in
    let size : length old ≡ w * words_for w (c.args.end + c.args.n) = length_row g.T.BitStore.value g.O.BitOrder.place w items ∙ ap (λ m. w * m) (c.requires.count ∙ ap (words_for w) same) in
    no_digits old c.args.end c.args.n c.args.number (omega arith)
    ∙ ap (λ r. put r c.args.end (binary c.args.n c.args.number)) (sym (sized_same w old (c.args.end + c.args.n) size))

pub returns-clause-bits : goal.returns-clause-bits
returns-clause-bits g c =
    let w = g.T.BitStore.BITS in
    let old = row g.T.BitStore g.O.BitOrder c.args.words.now.items in
    c.in_ok-push_by_words.ensures.bits
    ∙ ap (put (sized w old (c.args.end + c.args.n)) c.args.end) (chunk_of c.args.n c.args.number c.reverse.result (omega arith) c.requires.few c.reverse.ensures)

pub returns-then-n-eq0-clause-room : goal.returns-then-n-eq0-clause-room
returns-then-n-eq0-clause-room g c =
    let w = g.T.BitStore.BITS in
    let r = (room w c.args.end (width_positive w g.met.T.BitStore.width)).0 in
    rw c.requires.count (omega arith)

pub push_block-requires-clause-rest : goal.push_block-requires-clause-rest
push_block-requires-clause-rest g c = λ i after h. c.from_lsb0-block.ensures i h ∙ c.digits_from.ensures.rest i (omega arith) h

pub returns-then-goes_by_shifts-clause-bits : goal.returns-then-goes_by_shifts-clause-bits
returns-then-goes_by_shifts-clause-bits g c =
    let w = g.T.BitStore.BITS in
    let old = row g.T.BitStore g.O.BitOrder c.args.words.now.items in
    c.in_ok-push_block.ensures.bits
    ∙ ap (put (sized w old (c.args.end + c.args.n)) c.args.end) (digits_moved g.O.BitOrder.place c.from_lsb0-block.result c.digits_from.result c.args.number 0 c.args.n (omega arith) c.digits_from.ensures.digits c.from_lsb0-block.ensures)
