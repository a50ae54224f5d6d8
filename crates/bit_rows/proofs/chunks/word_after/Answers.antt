use Rattle.std.proofs.Common.{◌≡◌, ℕ, ◌+◌, ◌*◌, ◌/◌, ◌<◌, slice_range, refl, sym, ◌∙◌, ap, arith}
use Rattle.bit_addressing.specs.Bits.{IsWidth}
use Rattle.bit_addressing.specs.Typed.{row}
use Rattle.bit_addressing.proofs.Blocks.{block_as_word, two_blocks}
use Rattle.bit_addressing.proofs.Packs.{pack_fills}
use Rattle.bit_addressing.proofs.Runs.{inside_words}
use Rattle.bit_addressing.proofs.lists.Sized.{right_sum}
use Rattle.bit_rows.proofs.Wholes.{word_follows}
use Rattle.bit_rows.proofs.chunks.word_after.Goals as goal

-- where a block begins, some blocks after a word
beyond : (begin t each u skip w : ℕ) → each * u ≡ 64 → w ≡ 64 → (begin + t * each) * u + skip ≡ begin * u + skip + t * w
beyond begin t each u skip w fills wide =
    let split : (t * each) * u ≡ t * (each * u) = grind arith in
    let sum : (begin + t * each) * u ≡ begin * u + (t * each) * u = right_sum begin (t * each) u in
    let whole : t * (each * u) ≡ t * w = ap (λ n. t * n) (fills ∙ sym wide) in
    omega arith

-- the word of a block that begins some blocks after a word
block_begins : {u d w n : ℕ} (begin t skip : ℕ) → IsWidth u → d ≡ u → w ≡ 64 → begin * u + skip + t * w + w < u * n → begin + t * (64 / d) < n
block_begins {u} {d} {w} {n} begin t skip is e wide h =
    let from = beyond begin t (64 / u) u skip w (pack_fills u is) wide in
    rw e (inside_words u (begin + t * (64 / u)) n ((begin + t * (64 / u)) * u) refl (omega arith))

pub word_of_window-requires-clause-word : goal.word_of_window-requires-clause-word
word_of_window-requires-clause-word g c = word_follows c.args.begin c.args.t c.args.skip (omega arith) c.requires.source

pub block_at-requires-clause-words : goal.block_at-requires-clause-words
block_at-requires-clause-words g c = two_blocks (c.args.begin + c.args.t * (64 / c.BITS-then-BITS-eq64.result)) g.met.U.BitStore.width c.BITS-then-BITS-eq64.ensures (omega arith)

pub returns-then-k-each : goal.returns-then-k-each
returns-then-k-each g c =
    let w = g.T.BitStore.BITS in
    let u = g.U.BitStore.BITS in
    let place = g.O.BitOrder.place in
    let begin = c.args.begin in
    let skip = c.args.skip in
    let t = c.args.t in
    let zs = row g.U.BitStore g.P.BitOrder c.args.source.now in
    let wide : w ≡ 64 = sym c.BITS-3.ensures ∙ c.if-BITS-eq64.true in
    let each : 64 / c.BITS-then-BITS-eq64.result ≡ 64 / u = ap (λ n. 64 / n) c.BITS-then-BITS-eq64.ensures in
    let from : (begin + t * (64 / c.BITS-then-BITS-eq64.result)) * u + skip ≡ begin * u + skip + t * w = ap (λ n. (begin + t * n) * u + skip) each ∙ beyond begin t (64 / u) u skip w (pack_fills u g.met.U.BitStore.width) wide in
    block_as_word place w (g.T.BitStore.value c.from_u64.result) c.block_at.result wide c.from_u64.ensures (g.met.O.BitOrder.lawful w g.met.T.BitStore.width).in_range
    ∙ c.block_at.ensures
    ∙ ap (λ n. slice_range zs n (n + 64)) from
    ∙ ap (λ n. slice_range zs (begin * u + skip + t * w) (begin * u + skip + t * w + n)) (sym wide)

pub returns : goal.returns
returns g c =
    let w = g.T.BitStore.BITS in
    let u = g.U.BitStore.BITS in
    let begin = c.args.begin in
    let skip = c.args.skip in
    let t = c.args.t in
    let zs = row g.U.BitStore g.P.BitOrder c.args.source.now in
    let from : c.in_row.result + c.in_row-2.result ≡ begin * u + skip + t * w = omega arith in
    c.word_at.ensures ∙ ap (λ n. slice_range zs n (n + w)) from

pub overflow_add-begin : goal.overflow_add-begin
overflow_add-begin g c =
    let same : g.U.BitStore.BITS ≡ g.T.BitStore.BITS = omega arith in
    let below = word_follows c.args.begin c.args.t c.args.skip same c.requires.source in
    omega arith

pub overflow_mul-k : goal.overflow_mul-k
overflow_mul-k g c = let below = block_begins c.args.begin c.args.t c.args.skip g.met.U.BitStore.width c.BITS-then-BITS-eq64.ensures (sym c.BITS-3.ensures ∙ c.if-BITS-eq64.true) c.requires.source in omega arith

pub overflow_add-k : goal.overflow_add-k
overflow_add-k g c = let below = block_begins c.args.begin c.args.t c.args.skip g.met.U.BitStore.width c.BITS-then-BITS-eq64.ensures (sym c.BITS-3.ensures ∙ c.if-BITS-eq64.true) c.requires.source in omega arith

pub returns-then-BITS : goal.returns-then-BITS
returns-then-BITS g c =
    let w = g.T.BitStore.BITS in
    let u = g.U.BitStore.BITS in
    let begin = c.args.begin in
    let skip = c.args.skip in
    let t = c.args.t in
    let zs = row g.U.BitStore g.P.BitOrder c.args.source.now in
    let same : u ≡ w = omega arith in
    let sum = right_sum begin t u in
    let from : (begin + t) * u + skip ≡ begin * u + skip + t * w = omega (arith, ap (λ n. t * n) same) in
    c.word_of_window.ensures ∙ ap (λ n. slice_range zs n (n + u)) from ∙ ap (λ n. slice_range zs (begin * u + skip + t * w) (begin * u + skip + t * w + n)) same
