use Rattle.std.proofs.Common.{◌≡◌, ℕ, ◌+◌, ◌-◌, ◌*◌, ◌≤◌, length, slice_range, sym, ◌∙◌, ap, arith}
use Rattle.bit_addressing.specs.Row.{put}
use Rattle.bit_addressing.specs.Typed.{row}
use Rattle.bit_addressing.proofs.Runs.{mul_mono}
use Rattle.bit_slice.proofs.Parts.{row_size}
use Rattle.bit_slice.proofs.Rotating.{rotated_run, exchanged_down, slid_down, are_last}
use Rattle.bit_slice.proofs.Writing.{run_of_number}
use Rattle.bit_slice.proofs.edits.rotate.carry_down.Goals as goal

pub overflow_sub-last : goal.overflow_sub-last
overflow_sub-last g c = let p = are_last g.T.BitStore.BITS c.args.count c.least_words-last.result.0 c.least_words-last.result.1 c.args.end c.args.n (length c.args.words.now) c.least_words-last.ensures.whole c.least_words-last.ensures.within c.requires.least c.requires.inside c.requires.within in omega (arith, p.enough)

pub exchange_down-requires-clause-inside : goal.exchange_down-requires-clause-inside
exchange_down-requires-clause-inside g c = let p = are_last g.T.BitStore.BITS c.args.count c.least_words-last.result.0 c.least_words-last.result.1 c.args.end c.args.n (length c.args.words.now) c.least_words-last.ensures.whole c.least_words-last.ensures.within c.requires.least c.requires.inside c.requires.within in omega (arith, p.enough, p.there)

pub read_chunk-rest-requires-clause-within : goal.read_chunk-rest-requires-clause-within
read_chunk-rest-requires-clause-within g c = (are_last g.T.BitStore.BITS c.args.count c.least_words-last.result.0 c.least_words-last.result.1 c.args.end c.args.n (length c.args.words.now) c.least_words-last.ensures.whole c.least_words-last.ensures.within c.requires.least c.requires.inside c.requires.within).within

pub write_chunk-requires-4-clause-within : goal.write_chunk-requires-4-clause-within
write_chunk-requires-4-clause-within g c =
    let p = are_last g.T.BitStore.BITS c.args.count c.least_words-last.result.0 c.least_words-last.result.1 c.args.end c.args.n (length c.args.words.now) c.least_words-last.ensures.whole c.least_words-last.ensures.within c.requires.least c.requires.inside c.requires.within in
    let same : length c.write_chunk-3.new.words ≡ length c.args.words.now = c.write_chunk-3.ensures.size ∙ c.write_chunk-2.ensures.size ∙ c.write_chunk.ensures.size ∙ c.exchange_down.ensures.size in
    omega (arith, p.within, ap (λ n. g.T.BitStore.BITS * n) same)

pub write_chunk-requires-4-clause-fits : goal.write_chunk-requires-4-clause-fits
write_chunk-requires-4-clause-fits g c = let p = are_last g.T.BitStore.BITS c.args.count c.least_words-last.result.0 c.least_words-last.result.1 c.args.end c.args.n (length c.args.words.now) c.least_words-last.ensures.whole c.least_words-last.ensures.within c.requires.least c.requires.inside c.requires.within in omega (arith, p.within, c.requires.fits)

pub returns-clause-bits : goal.returns-clause-bits
unfolding rotated_run
returns-clause-bits g c =
    let w = g.T.BitStore.BITS in
    let xs = row g.T.BitStore g.O.BitOrder c.args.words.now in
    let long : length xs ≡ w * length c.args.words.now = row_size g.T.BitStore g.O.BitOrder c.args.words.now in
    let count = c.args.count in
    let n = c.args.n in
    let size : ℕ = count * c.BITS.result in
    let at : ℕ = size - n in
    let last = c.least_words-last.result.0 in
    let skip = c.least_words-last.result.1 in
    let head : ℕ = c.args.end - (n + size) in
    let start : ℕ = head + skip - at in
    let wide : size ≡ count * w = ap (λ n. count * n) c.BITS.ensures in
    let narrow : count * w ≡ size = sym wide in
    let room = c.requires.within in
    let inside = c.requires.inside in
    let most = c.requires.least in
    let enough = c.requires.whole in
    let least = mul_mono 1 count w c.requires.some in
    let within = c.least_words-last.ensures.within in
    let ends : last * w ≡ c.args.end + skip = c.least_words-last.ensures.whole in
    let p = are_last g.T.BitStore.BITS c.args.count c.least_words-last.result.0 c.least_words-last.result.1 c.args.end c.args.n (length c.args.words.now) c.least_words-last.ensures.whole c.least_words-last.ensures.within c.requires.least c.requires.inside c.requires.within in
    let fits : c.args.end + skip ≤ length xs = omega (arith, p.within, long) in
    let full = c.requires.full in
    let double : 2 * count ≡ count + count = omega arith in
    let low : (last - 2 * count) * w ≡ start = omega (arith, ap (λ k. (last - k) * w) double, p.low) in
    let begin = run_of_number xs c.read_chunk-begin.result (head + size) skip (omega arith) c.read_chunk-begin.ensures in
    let middle = run_of_number xs c.read_chunk-middle.result head skip (omega arith) c.read_chunk-middle.ensures in
    let rest = run_of_number xs c.read_chunk-rest.result c.args.end skip (omega arith) c.read_chunk-rest.ensures in
    let before = run_of_number xs c.read_chunk-before.result start at (omega arith) c.read_chunk-before.ensures in
    let run : (a n : ℕ) → _ = λ a n. slice_range xs a (a + n) in
    let exchanged = c.exchange_down.ensures.bits ∙ (λ j. put (put xs (low j) (run (low j + narrow j) (narrow j))) (low j + narrow j) (run (low j + at) (narrow j))) in
    let turned : n + size ≡ size + n = omega arith in
    let later : start + at ≡ head + skip = omega (arith, p.low) in
    let whole = c.write_chunk.ensures.bits ∙ (λ j. put (exchanged j) start (before j)) ∙ exchanged_down xs start size at n (omega arith) (omega arith) ∙ (λ j. rotated_run xs (later j) (turned j) size) in
    let first = c.write_chunk-2.ensures.bits ∙ (λ j. put (whole j) head (begin j)) in
    let second = c.write_chunk-3.ensures.bits ∙ (λ j. put (first j) (head + n) (middle j)) in
    let turned_back : size + n ≡ n + size = omega arith in
    let stop : c.args.end ≡ head + size + n = omega arith in
    let third = c.write_chunk-4.ensures.bits ∙ (λ j. put (second j) c.args.end (rest j)) ∙ (λ j. put (put (put (rotated_run xs (head + skip) (size + n) size) head (run (head + size) skip)) (head + n) (run head skip)) (stop j) (run (stop j) skip)) in
    third ∙ slid_down xs head skip size n (omega arith) (omega arith) (omega arith)
    ∙ (λ j. rotated_run xs head (turned_back j) size) ∙ (λ j. rotated_run xs (c.args.end - (n + wide j)) (n + wide j) (wide j))
