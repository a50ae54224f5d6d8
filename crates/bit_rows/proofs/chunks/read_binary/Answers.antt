use Rattle.std.proofs.Common.{◌≡◌, ℕ, ◌+◌, ◌-◌, ◌*◌, ◌/◌, ◌%◌, ◌^◌, ◌<◌, length, slice_range, sym, ◌∙◌, ap, arith, lit<}
use Rattle.std.proofs.lemmas.Nat.{div-add-mod'}
use Rattle.std.proofs.Math.Nat.{mod-lt}
use Rattle.bit_addressing.specs.Row.{number_of}
use Rattle.bit_addressing.specs.Typed.{row}
use Rattle.bit_rows.proofs.Binary.{binary_of, digits_read, few_digits, no_digits_of, value_of_binary}
use Rattle.bit_addressing.specs.Binary.{value}
use Rattle.std.proofs.Math.Pow.{pow_pos}
use Rattle.bit_addressing.proofs.Blocks.{two_blocks}
use Rattle.bit_addressing.proofs.Chunks.{IsRead, read_block}
use Rattle.bit_addressing.proofs.Rows.{width_positive, width_small}
use Rattle.bit_addressing.proofs.Typed.{length_row}
use Rattle.bit_addressing.proofs.lists.Shown.{length-run}
use Rattle.bit_rows.proofs.Numbers.{read_later, turned_later}
use Rattle.bit_rows.proofs.chunks.read_binary.Goals as goal

pub returns-then-n-eq0-clause-digits : goal.returns-then-n-eq0-clause-digits
returns-then-n-eq0-clause-digits g c = no_digits_of (row g.T.BitStore g.O.BitOrder c.args.words.now) c.args.at c.args.n (omega arith)

pub returns-then-holds_block-clause-digits : goal.returns-then-holds_block-clause-digits
returns-then-holds_block-clause-digits g c =
    let w = g.T.BitStore.BITS in
    let at = c.args.at in
    let n = c.args.n in
    let width = c.BITS-width.result in
    let k : ℕ = at / width in
    let skip : ℕ = at % width in
    let small = width_small w g.met.T.BitStore.width in
    let positive = width_positive w g.met.T.BitStore.width in
    let zs = row g.T.BitStore g.O.BitOrder c.args.words.now in
    let size : length zs ≡ w * length c.args.words.now = length_row g.T.BitStore.value g.O.BitOrder.place w c.args.words.now in
    let here : k * w + skip ≡ at = ap (λ m. k * m + skip) (sym c.BITS-width.ensures) ∙ div-add-mod' at width in
    let x = c.word_number.result in
    let low : skip < width = mod-lt at (omega arith) in
    let few : skip < 64 = omega arith in
    let read : IsRead zs (k * w) 64 x = read_block zs (k * w) x (c.word_number.ensures ∙ ap number_of c.pack.ensures) in
    digits_read n (x / 2 ^ skip) (c.reverse-block.result * 2 ^ skip % 2 ^ 64) (omega arith) c.requires.few
    (turned_later zs (k * w) x c.reverse-block.result skip few read c.reverse-block.ensures) zs at (64 - skip)
    (read_later zs (k * w) at skip x (sym here) (omega arith) read) (omega arith) (omega arith)

pub returns-then-holds_block-clause-below : goal.returns-then-holds_block-clause-below
returns-then-holds_block-clause-below g c = few_digits c.args.n (c.reverse-block.result * 2 ^ (c.args.at % c.BITS-width.result) % 2 ^ 64) c.requires.few (mod-lt (c.reverse-block.result * 2 ^ (c.args.at % c.BITS-width.result)) (lit< tt))

pub returns-then-holds_block-clause-value : goal.returns-then-holds_block-clause-value
returns-then-holds_block-clause-value g c = sym (ap value (sym (returns-then-holds_block-clause-digits g c)) ∙ value_of_binary c.args.n _ (returns-then-holds_block-clause-below g c))

pub block_at-requires-clause-words : goal.block_at-requires-clause-words
block_at-requires-clause-words g c = two_blocks (c.args.at / c.BITS-width.result) g.met.T.BitStore.width c.BITS-width.ensures (omega arith)

pub returns-then-k-width-clause-digits : goal.returns-then-k-width-clause-digits
returns-then-k-width-clause-digits g c =
    let w = g.T.BitStore.BITS in
    let at = c.args.at in
    let n = c.args.n in
    let width = c.BITS-width.result in
    let few = c.requires.few in
    let zs = row g.T.BitStore g.O.BitOrder c.args.words.now in
    let size : length zs ≡ w * length c.args.words.now = length_row g.T.BitStore.value g.O.BitOrder.place w c.args.words.now in
    let here : at / width * w + at % width ≡ at = ap (λ m. at / width * m + at % width) (sym c.BITS-width.ensures) ∙ div-add-mod' at width in
    let x = c.word_number-then-k-width.result in
    let number : x ≡ number_of (slice_range zs at (at + 64)) = c.word_number-then-k-width.ensures ∙ ap number_of c.block_at.ensures ∙ ap (λ m. number_of (slice_range zs m (m + 64))) here in
    digits_read n x c.reverse-block-then-k-width.result (omega arith) few c.reverse-block-then-k-width.ensures zs at 64 (read_block zs at x number) few (omega arith)

pub returns-then-k-width-clause-below : goal.returns-then-k-width-clause-below
returns-then-k-width-clause-below g c = few_digits c.args.n c.reverse-block-then-k-width.result c.requires.few (omega arith)

pub returns-then-k-width-clause-value : goal.returns-then-k-width-clause-value
returns-then-k-width-clause-value g c = sym (ap value (sym (returns-then-k-width-clause-digits g c)) ∙ value_of_binary c.args.n _ (returns-then-k-width-clause-below g c))

pub returns-clause-digits : goal.returns-clause-digits
returns-clause-digits g c =
    let ms = row g.T.BitStore g.O.BitOrder c.args.words.now in
    let long : length ms ≡ g.T.BitStore.BITS * length c.args.words.now = length_row g.T.BitStore.value g.O.BitOrder.place g.T.BitStore.BITS c.args.words.now in
    binary_of c.args.n c.read_chunk.result c.reverse.result (omega arith) c.requires.few c.reverse.ensures (slice_range ms c.args.at (c.args.at + c.args.n)) (length-run ms c.args.at c.args.n (omega arith)) c.read_chunk.ensures

pub returns-clause-below : goal.returns-clause-below
returns-clause-below g c = few_digits c.args.n c.reverse.result c.requires.few (omega arith)

pub returns-then-n-eq0-clause-value : goal.returns-then-n-eq0-clause-value
returns-then-n-eq0-clause-value g c =
    let digits = returns-then-n-eq0-clause-digits g c in
    let ms = row g.T.BitStore g.O.BitOrder c.args.words.now in
    sym (ap value (sym digits) ∙ value_of_binary c.args.n 0 (pow_pos c.args.n))

pub returns-clause-value : goal.returns-clause-value
returns-clause-value g c = sym (ap value (sym (returns-clause-digits g c)) ∙ value_of_binary c.args.n _ (returns-clause-below g c))
