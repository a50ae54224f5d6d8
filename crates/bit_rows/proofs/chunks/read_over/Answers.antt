use Rattle.std.proofs.Common.{◌≡◌, ℕ, ◌+◌, ◌-◌, ◌*◌, ◌/◌, ◌%◌, ◌^◌, ◌<◌, ◌≤◌, bit_or, length, slice_range, sym, ◌∙◌, ap, subst, arith, mul_comm}
use Rattle.std.proofs.lemmas.Nat.{div-add-mod'}
use Rattle.std.proofs.Math.Nat.{mod-lt}
use Rattle.std.proofs.lemmas.Grind.{common_steps}
use Rattle.bit_addressing.specs.Row.{number_of}
use Rattle.bit_addressing.specs.Typed.{row}
use Rattle.bit_addressing.proofs.Blocks.{two_blocks}
use Rattle.bit_addressing.proofs.Chunks.{no_bits, read_block, read_done, read_next}
use Rattle.bit_addressing.proofs.Packs.{pack_fills}
use Rattle.bit_addressing.proofs.Rows.{width_positive, width_small, word_below}
use Rattle.bit_addressing.proofs.Runs.{mul_mono}
use Rattle.bit_addressing.proofs.Typed.{length_row}
use Rattle.bit_addressing.proofs.lists.Sized.{right_sum}
use Rattle.bit_rows.proofs.Numbers.{one_block, read_later}
use Rattle.bit_rows.proofs.Ends.{read_further, run_read}
use Rattle.bit_rows.proofs.chunks.read_over.Goals as goal

pub returns-then-n-eq0 : goal.returns-then-n-eq0
returns-then-n-eq0 g c = no_bits (row g.T.BitStore g.O.BitOrder c.args.words.now) c.args.at c.args.n c.if-n-eq0.true

pub returns-then-goes_back : goal.returns-then-goes_back
returns-then-goes_back g c =
    let w = g.T.BitStore.BITS in
    let at = c.args.at in
    let words = c.args.words.now in
    let width = c.BITS-width.result in
    let k : ℕ = at / width in
    let skip : ℕ = at % width in
    let left : ℕ = length words - k in
    let positive = width_positive w g.met.T.BitStore.width in
    let zs = row g.T.BitStore g.O.BitOrder words in
    let size : length zs ≡ w * length words = length_row g.T.BitStore.value g.O.BitOrder.place w words in
    let there : k < length words = rw c.BITS-width.ensures (word_below w at (length words) positive (omega arith)) in
    let here : k * w + skip ≡ at = ap (λ n. k * n + skip) (sym c.BITS-width.ensures) ∙ div-add-mod' at width in
    let sum = right_sum k left w in
    let all : (k + left) * w ≡ length words * w = ap (λ n. n * w) (omega arith) in
    let turned = mul_comm w (length words) in
    let x = c.block_short.result in
    let fills : 64 / w * w ≡ 64 = pack_fills w g.met.T.BitStore.width in
    let short : left < 64 / w = subst (λ n. left < 64 / n) c.BITS-width.ensures c.if-left-each.true in
    let most = mul_mono left (64 / w) w (omega arith) in
    let few : left * w ≤ 64 = omega (arith, fills, most) in
    let read = run_read zs (k * w) (left * w) x (omega arith) c.block_short.ensures in
    read_done zs at c.args.n (left * w - skip) (x / 2 ^ skip) (read_further zs (k * w) at (left * w) skip x (sym here) few read) (omega arith) (omega arith) c.requires.few (omega arith)

pub pack-requires : goal.pack-requires
pack-requires g c =
    let here : c.args.at / c.BITS-width.result < length c.args.words.now = rw c.BITS-width.ensures (word_below g.T.BitStore.BITS c.args.at (length c.args.words.now) (width_positive _ g.met.T.BitStore.width) (omega arith)) in
    one_block (c.args.at / c.BITS-width.result) g.met.T.BitStore.width c.BITS-width.ensures (omega arith)

pub returns-then-each-left : goal.returns-then-each-left
returns-then-each-left g c =
    let w = g.T.BitStore.BITS in
    let at = c.args.at in
    let width = c.BITS-width.result in
    let skip : ℕ = at % width in
    let small = width_small w g.met.T.BitStore.width in
    let positive = width_positive w g.met.T.BitStore.width in
    let zs = row g.T.BitStore g.O.BitOrder c.args.words.now in
    let size : length zs ≡ w * length c.args.words.now = length_row g.T.BitStore.value g.O.BitOrder.place w c.args.words.now in
    let here : at / width * w + skip ≡ at = ap (λ n. at / width * n + skip) (sym c.BITS-width.ensures) ∙ div-add-mod' at width in
    let x = c.word_number.result in
    let number : x ≡ number_of (slice_range zs (at / width * w) (at / width * w + 64)) = c.word_number.ensures ∙ ap number_of c.pack.ensures in
    let low : skip < width = mod-lt at (omega arith) in
    read_done zs at c.args.n (64 - skip) (x / 2 ^ skip) (read_later zs (at / width * w) at skip x (sym here) (omega arith) (read_block zs (at / width * w) x number)) (omega arith) (omega arith) c.requires.few (omega arith)

pub block_at-requires-clause-words : goal.block_at-requires-clause-words
block_at-requires-clause-words g c =
    let here : c.args.at / c.BITS-width.result < length c.args.words.now = rw c.BITS-width.ensures (word_below g.T.BitStore.BITS c.args.at (length c.args.words.now) (width_positive _ g.met.T.BitStore.width) (omega arith)) in
    two_blocks (c.args.at / c.BITS-width.result) g.met.T.BitStore.width c.BITS-width.ensures (omega arith)

pub returns-then-each-left-2 : goal.returns-then-each-left-2
returns-then-each-left-2 g c =
    let w = g.T.BitStore.BITS in
    let at = c.args.at in
    let width = c.BITS-width.result in
    let positive = width_positive w g.met.T.BitStore.width in
    let zs = row g.T.BitStore g.O.BitOrder c.args.words.now in
    let size : length zs ≡ w * length c.args.words.now = length_row g.T.BitStore.value g.O.BitOrder.place w c.args.words.now in
    let here : at / width * w + at % width ≡ at = ap (λ n. at / width * n + at % width) (sym c.BITS-width.ensures) ∙ div-add-mod' at width in
    let number : c.word_number-block.result ≡ number_of (slice_range zs at (at + 64)) = c.word_number-block.ensures ∙ ap number_of c.block_at.ensures ∙ ap (λ n. number_of (slice_range zs n (n + 64))) here in
    read_done zs at c.args.n 64 c.word_number-block.result (read_block zs at c.word_number-block.result number) (omega arith) c.requires.few c.requires.few (omega arith)

pub pack-requires-then-skip-gt0 : goal.pack-requires-then-skip-gt0
pack-requires-then-skip-gt0 g c =
    let here : c.args.at / c.BITS-width.result < length c.args.words.now = rw c.BITS-width.ensures (word_below g.T.BitStore.BITS c.args.at (length c.args.words.now) (width_positive _ g.met.T.BitStore.width) (omega arith)) in
    one_block (c.args.at / c.BITS-width.result) g.met.T.BitStore.width c.BITS-width.ensures (omega arith)

pub returns-then-skip-gt0 : goal.returns-then-skip-gt0
returns-then-skip-gt0 g c =
    let w = g.T.BitStore.BITS in
    let at = c.args.at in
    let words = c.args.words.now in
    let width = c.BITS-width.result in
    let k : ℕ = at / width in
    let skip : ℕ = at % width in
    let each : ℕ = 64 / width in
    let got : ℕ = 64 - skip in
    let positive = width_positive w g.met.T.BitStore.width in
    let small = width_small w g.met.T.BitStore.width in
    let zs = row g.T.BitStore g.O.BitOrder words in
    let size : length zs ≡ w * length words = length_row g.T.BitStore.value g.O.BitOrder.place w words in
    let here : k * w + skip ≡ at = ap (λ n. k * n + skip) (sym c.BITS-width.ensures) ∙ div-add-mod' at width in
    let fills : each * w ≡ 64 = ap (λ n. 64 / n * w) c.BITS-width.ensures ∙ pack_fills w g.met.T.BitStore.width in
    let next : (k + each) * w ≡ k * w + 64 = right_sum k each w ∙ ap (λ n. k * w + n) fills in
    let low : skip < width = mod-lt at (omega arith) in
    let x = c.word_number-then-skip-gt0.result in
    let y = c.word_number-then-skip-gt0-2.result in
    let number : x ≡ number_of (slice_range zs (k * w) (k * w + 64)) = c.word_number-then-skip-gt0.ensures ∙ ap number_of c.pack-then-skip-gt0.ensures in
    let front = read_later zs (k * w) at skip x (sym here) (omega arith) (read_block zs (k * w) x number) in
    let reached : at + got ≡ (k + each) * w = omega arith in
    let both = read_next g.T.BitStore.value g.O.BitOrder.place w positive words at (k + each) got (x / 2 ^ skip) y c.index-words-k.result front reached (omega (arith, c.if-skip-gt0.true)) (omega (arith, c.if-each-left-3.true)) c.index-words-k.is c.word_number-then-skip-gt0-2.ensures in
    read_done zs at c.args.n (got + w) (bit_or (x / 2 ^ skip) (y * 2 ^ got % 2 ^ 64)) both (omega arith) (omega (arith, low, c.BITS-width.ensures, c.requires.few)) c.requires.few (omega (arith, size, c.requires.within))

pub block_short-requires-clause-few : goal.block_short-requires-clause-few
block_short-requires-clause-few g c = grind (arith, common_steps)

pub block_short-requires-clause-some : goal.block_short-requires-clause-some
block_short-requires-clause-some g c = grind (arith, common_steps)
