use Rattle.std.proofs.lemmas.Grind.{common_steps}
use Rattle.std.proofs.Common.{◌≡◌, ℕ, ◌+◌, ◌*◌, ◌/◌, ◌%◌, ◌≤◌, map, slice_range, length, refl, sym, ◌∙◌, ap, arith, mul_comm}
use Rattle.std.specs.Prelude.{count_ones}
use Rattle.std.specs.List.{count_by}
use Rattle.std.proofs.lemmas.List.{length-map}
use Rattle.std.proofs.lemmas.Nat.{div-add-mod'}
use Rattle.std.proofs.Math.Nat.{le_of_mul-le-mul_left}
use Rattle.bit_addressing.specs.Row.{number_of, row_of}
use Rattle.bit_addressing.specs.Typed.{row}
use Rattle.bit_rows.proofs.Counts.{counted, counted_next, counted-le, words_alike}
use Rattle.bit_addressing.proofs.lists.Sized.{one_more_word, right_sum}
use Rattle.bit_addressing.proofs.Rows.{width_positive}
use Rattle.bit_addressing.proofs.Typed.{length_row, row_whole}
use Rattle.bit_rows.proofs.searches.count_front.Given as given
use Rattle.bit_rows.proofs.searches.count_front.Goals as goal

-- the whole words with the rest
total : (g : given.Over) (c : goal.After-read_chunk-rest g) → c.count_words-whole.result + count_ones c.read_chunk-rest.result ≡ count_by (λ b. b) (slice_range (row g.T.BitStore g.O.BitOrder c.args.words.now) (c.args.first * g.T.BitStore.BITS) (c.args.first * g.T.BitStore.BITS + c.args.n))
total g c =
    let w = g.T.BitStore.BITS in
    let n = c.args.n in
    let first = c.args.first in
    let words = c.args.words.now in
    let zs = row g.T.BitStore g.O.BitOrder words in
    let e = c.BITS-width.ensures in
    let count : ℕ = n / w in
    let a : ℕ = first * w in
    let b : ℕ = (first + count) * w in
    let last : first + n / c.BITS-width.result ≡ first + count = ap (λ k. first + n / k) e in
    let at : (first + n / c.BITS-width.result) * c.BITS-width.result ≡ b = ap (λ k. (first + n / k) * k) e in
    let left : n % c.BITS-width.result ≡ n % w = ap (λ k. n % k) e in
    let split : b ≡ a + count * w = right_sum first count w in
    let sum : count * w + n % w ≡ n = div-add-mod' n w in
    let long : length zs ≡ w * length words = length_row g.T.BitStore.value g.O.BitOrder.place w words in
    let numbers = map g.T.BitStore.value words in
    let many : length numbers ≡ length words = length-map words g.T.BitStore.value in
    let turned : w * (first + count) ≡ b = mul_comm w (first + count) in
    let positive = width_positive w g.met.T.BitStore.width in
    let inside : first + count ≤ length words = le_of_mul-le-mul_left (omega (arith, c.requires.within)) positive in
    let whole : c.count_words-whole.result ≡ count_by (λ b. b) (slice_range zs a b) = c.count_words-whole.ensures
    ∙ ap (λ k. count_by (λ b. b) (slice_range (row_of (λ v i. i) w numbers) a (k * w))) last
    ∙ sym (words_alike g.O.BitOrder.place w positive (g.met.O.BitOrder.lawful w g.met.T.BitStore.width) numbers first count (first + count) refl (omega (arith, many, inside))) in
    counted_next zs a b (a + n) c.count_words-whole.result (count_ones c.read_chunk-rest.result) (omega arith) (omega arith) (omega (arith, c.requires.within)) whole
    (counted zs ((first + n / c.BITS-width.result) * c.BITS-width.result) ((first + n / c.BITS-width.result) * c.BITS-width.result + n % c.BITS-width.result) b (a + n) c.read_chunk-rest.result (sym at) (omega arith) c.read_chunk-rest.ensures)

pub returns-then-n-width-2 : goal.returns-then-n-width-2
returns-then-n-width-2 g c =
    let same : c.args.first * c.BITS-width.result ≡ c.args.first * g.T.BitStore.BITS = ap (λ k. c.args.first * k) c.BITS-width.ensures in
    let end : c.args.first * g.T.BitStore.BITS + c.args.n ≡ c.args.first * c.BITS-width.result + c.args.n = ap (λ k. k + c.args.n) (sym same) in
    counted (row g.T.BitStore g.O.BitOrder c.args.words.now) (c.args.first * c.BITS-width.result) (c.args.first * c.BITS-width.result + c.args.n) (c.args.first * g.T.BitStore.BITS) (c.args.first * g.T.BitStore.BITS + c.args.n) c.read_chunk.result (sym same) end c.read_chunk.ensures

pub returns-then-n-width : goal.returns-then-n-width
returns-then-n-width g c =
    let w = g.T.BitStore.BITS in
    let words = c.args.words.now in
    let first = c.args.first in
    let zs = row g.T.BitStore g.O.BitOrder words in
    let numbers = map g.T.BitStore.value words in
    let a : ℕ = first * w in
    let positive = width_positive w g.met.T.BitStore.width in
    let many : length numbers ≡ length words = length-map words g.T.BitStore.value in
    let all : c.args.n ≡ w = c.if-n-width.true ∙ c.BITS-width.ensures in
    let next : (first + 1) * w ≡ a + c.args.n = (let one = one_more_word first w in omega (arith, one, all)) in
    let turned : w * (first + 1) ≡ (first + 1) * w = mul_comm w (first + 1) in
    let inside : first + 1 ≤ length words = le_of_mul-le-mul_left (omega (arith, c.requires.within)) positive in
    counted (row_of (λ v i. i) w numbers) a (a + w) a ((first + 1) * w) c.word_number.result refl (omega arith)
    (c.word_number.ensures ∙ ap number_of (row_whole g.T.BitStore.value (λ v i. i) w words first a (a + w) c.index-words-first.result positive (omega arith) c.index-words-first.is refl refl))
    ∙ sym (words_alike g.O.BitOrder.place w positive (g.met.O.BitOrder.lawful w g.met.T.BitStore.width) numbers first 1 (first + 1) refl (omega arith))
    ∙ ap (λ k. count_by (λ b. b) (slice_range zs a k)) next

pub returns-then-goes_back : goal.returns-then-goes_back
returns-then-goes_back g c = counted (row g.T.BitStore g.O.BitOrder c.args.words.now) (c.args.first * g.T.BitStore.BITS) (c.args.first * g.T.BitStore.BITS + c.args.n) (c.args.first * g.T.BitStore.BITS) (c.args.first * g.T.BitStore.BITS + c.args.n) c.chunk_short.result refl refl c.chunk_short.ensures

pub returns : goal.returns
returns g c = total g c

pub overflow_add-result : goal.overflow_add-result
overflow_add-result g c =
    let w = g.T.BitStore.BITS in
    let a : ℕ = c.args.first * w in
    let zs = row g.T.BitStore g.O.BitOrder c.args.words.now in
    let long : length zs ≡ w * length c.args.words.now = length_row g.T.BitStore.value g.O.BitOrder.place w c.args.words.now in
    let most = counted-le zs a (a + c.args.n) (c.count_words-whole.result + count_ones c.read_chunk-rest.result) (omega arith) (omega (arith, c.requires.within)) (total g c) in
    omega (arith, most, c.requires.fits)

pub count_words-whole-requires-clause-within : goal.count_words-whole-requires-clause-within
count_words-whole-requires-clause-within g c = grind (arith, common_steps)
