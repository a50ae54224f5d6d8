use Rattle.std.proofs.Common.{◌≡◌, ℕ, ◌+◌, ◌-◌, ◌*◌, length, slice_range, sym, ◌∙◌, ap, arith}
use Rattle.bit_addressing.specs.Row.{put}
use Rattle.bit_addressing.specs.Typed.{row}
use Rattle.bit_addressing.proofs.Rows.{width_positive}
use Rattle.bit_addressing.proofs.Runs.{mul_mono}
use Rattle.bit_slice.proofs.Parts.{row_size}
use Rattle.bit_slice.proofs.Rotating.{rotated_run, exchanged_up, slid_up, up_fits, up_follows}
use Rattle.bit_slice.proofs.Writing.{run_of_number}
use Rattle.bit_slice.proofs.edits.rotate.carry_up.Goals as goal

pub exchange_up-requires-clause-inside : goal.exchange_up-requires-clause-inside
exchange_up-requires-clause-inside g c = up_fits g.T.BitStore.BITS c.in_word-first.result.0 c.args.count c.in_word-first.result.1 c.args.head c.args.by (length c.args.words.now) c.in_word-first.ensures.index c.requires.whole c.requires.within (width_positive g.T.BitStore.BITS g.met.T.BitStore.width)

pub exchange_up-requires-clause-next : goal.exchange_up-requires-clause-next
exchange_up-requires-clause-next g c = λ some. up_follows g.T.BitStore.BITS c.in_word-first.result.0 c.args.count c.in_word-first.result.1 c.args.head c.args.by (length c.args.words.now) c.in_word-first.ensures.index (omega (arith, some, ap (λ n. c.args.count * n) c.BITS.ensures)) c.requires.within

pub returns-clause-bits : goal.returns-clause-bits
unfolding rotated_run
returns-clause-bits g c =
    let w = g.T.BitStore.BITS in
    let xs = row g.T.BitStore g.O.BitOrder c.args.words.now in
    let long : length xs ≡ w * length c.args.words.now = row_size g.T.BitStore g.O.BitOrder c.args.words.now in
    let head = c.args.head in
    let by = c.args.by in
    let low : ℕ = c.in_word-first.result.0 * w in
    let skip = c.in_word-first.result.1 in
    let start : ℕ = head - skip in
    let size : ℕ = c.args.count * c.BITS.result in
    let at : ℕ = by - size in
    let wide : size ≡ c.args.count * w = ap (λ n. c.args.count * n) c.BITS.ensures in
    let begins : low ≡ start = omega (arith, c.in_word-first.ensures.index) in
    let narrow : c.args.count * w ≡ size = sym wide in
    let sum : size + at ≡ by = omega (arith, wide, c.requires.whole) in
    let room = c.requires.within in
    let least = mul_mono 1 c.args.count w c.requires.some in
    let few = c.requires.rest in
    let within = c.in_word-first.ensures.within in
    let begin = run_of_number xs c.read_chunk-begin.result start skip (omega arith) c.read_chunk-begin.ensures in
    let end = run_of_number xs c.read_chunk-end.result (start + by) skip (omega arith) c.read_chunk-end.ensures in
    let middle = run_of_number xs c.read_chunk-middle.result (start + by + size) skip (omega arith) c.read_chunk-middle.ensures in
    let rest = run_of_number xs c.read_chunk-rest.result (start + size) at (omega arith) c.read_chunk-rest.ensures in
    let run : (a n : ℕ) → _ = λ a n. slice_range xs a (a + n) in
    let exchanged = c.exchange_up.ensures.bits ∙ (λ j. put (put xs (begins j) (run (begins j + narrow j + at) (narrow j))) (begins j + narrow j) (run (begins j) (narrow j))) in
    let whole = c.write_chunk.ensures.bits ∙ (λ j. put (exchanged j) (start + size + size) (rest j)) ∙ exchanged_up xs start size at (omega arith) ∙ (λ j. rotated_run xs start (sum j + size) (sum j)) in
    let first = c.write_chunk-2.ensures.bits ∙ (λ j. put (whole j) start (begin j)) in
    let second = c.write_chunk-3.ensures.bits ∙ (λ j. put (first j) (start + size) (middle j)) in
    let third = c.write_chunk-4.ensures.bits ∙ (λ j. put (second j) (start + by + size) (end j)) in
    let there : start + skip ≡ head = omega (arith, c.in_word-first.ensures.index) in
    third ∙ slid_up xs start skip by size (omega arith) (omega arith) (omega arith) ∙ (λ j. rotated_run xs (there j) (by + wide j) by)
