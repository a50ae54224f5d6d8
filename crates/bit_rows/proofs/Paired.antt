-- How many bits are true of those that a function makes of two rows, by blocks of 64 bits in the order of their places.
use Rattle.std.proofs.Common.{◌≡◌, ℕ, ◌+◌, ◌-◌, ◌*◌, ◌/◌, ◌%◌, ◌^◌, ◌<◌, ◌≤◌, Bool, false, cond, List, [], ◌∷◌, ◌++◌, count_by, get_or, length, slice_range, refl, sym, ◌∙◌, ap, arith, mod-lt}
use Rattle.std.specs.Prelude.{count_ones}
use Rattle.std.specs.Simd.Lanes.{zip2}
use Rattle.std.proofs.lemmas.List.{take_all}
use Rattle.std.proofs.lemmas.List.Sums.{sum_by-append, count_by-le-length}
use Rattle.std.proofs.lemmas.Simd.{length-zip2}
use Rattle.std.proofs.lemmas.Nat.{div-add-mod', div-mul-add, mod-mul-add}
use Rattle.std.proofs.Math.Nat.{div-lt_iff_lt-mul}
use Rattle.bit_addressing.specs.Bits.{has_bit, IsWidth}
use Rattle.bit_addressing.specs.Order.{IsPermutation}
use Rattle.bit_addressing.specs.Row.{number_of, row_of}
use Rattle.bit_addressing.proofs.Chunks.{number_from_bits}
use Rattle.bit_rows.proofs.Combinations.{zip2-append}
use Rattle.bit_rows.proofs.Counts.{counted, permuted}
use Rattle.bit_addressing.proofs.Packs.{pack_fills}
use Rattle.bit_addressing.proofs.Rows.{get_or-row_of, get_or-row_one, length-row_of}
use Rattle.bit_addressing.proofs.Runs.{slices_joined}
use Rattle.bit_rows.proofs.Wholes.{word_in_run}
use Rattle.bit_addressing.proofs.lists.Shown.{get_or-run, length-run}
use Rattle.bit_addressing.proofs.lists.Sized.{right_sum}

abbrev ones : List Bool → ℕ
ones xs = count_by (λ bit. bit) xs

-- what is made of a run and of the one after it
pub made_next : (f : Bool → Bool → Bool) (xs ys : List Bool) (i j m n : ℕ) → i + m + n ≤ length xs → j + m + n ≤ length ys
    → ones (zip2 f (slice_range xs i (i + m)) (slice_range ys j (j + m))) + ones (zip2 f (slice_range xs (i + m) (i + m + n)) (slice_range ys (j + m) (j + m + n))) ≡ ones (zip2 f (slice_range xs i (i + m + n)) (slice_range ys j (j + m + n)))
made_next f xs ys i j m n h l =
    sym (sum_by-append (λ bit. cond bit 1 0) (zip2 f (slice_range xs i (i + m)) (slice_range ys j (j + m))) (zip2 f (slice_range xs (i + m) (i + m + n)) (slice_range ys (j + m) (j + m + n))))
    ∙ ap ones (sym (zip2-append f (slice_range xs i (i + m)) (slice_range xs (i + m) (i + m + n)) (slice_range ys j (j + m)) (slice_range ys (j + m) (j + m + n)) (length-run xs i m (omega arith) ∙ sym (length-run ys j m (omega arith)))))
    ∙ ap (λ z. ones (zip2 f z (slice_range ys j (j + m) ++ slice_range ys (j + m) (j + m + n)))) (slices_joined xs i (i + m) (i + m + n) (omega arith) (omega arith) h)
    ∙ ap (λ z. ones (zip2 f (slice_range xs i (i + m + n)) z)) (slices_joined ys j (j + m) (j + m + n) (omega arith) (omega arith) l)

-- a count of what is made of a run goes on with that of what is made after it
pub counted_on : (f : Bool → Bool → Bool) (xs ys : List Bool) (i j m n k l count more : ℕ) → i + m + n ≤ length xs → j + m + n ≤ length ys → k ≡ i + m → l ≡ j + m
    → count ≡ ones (zip2 f (slice_range xs i (i + m)) (slice_range ys j (j + m))) → more ≡ ones (zip2 f (slice_range xs k (k + n)) (slice_range ys l (l + n)))
    → count + more ≡ ones (zip2 f (slice_range xs i (i + m + n)) (slice_range ys j (j + m + n)))
counted_on f xs ys i j m n k l count more h o e d is next =
    ap (λ x. x + more) is
    ∙ ap (λ x. ones (zip2 f (slice_range xs i (i + m)) (slice_range ys j (j + m))) + x)
    (next ∙ ap (λ z. ones (zip2 f (slice_range xs z (z + n)) (slice_range ys l (l + n)))) e ∙ ap (λ z. ones (zip2 f (slice_range xs (i + m) (i + m + n)) (slice_range ys z (z + n)))) d)
    ∙ made_next f xs ys i j m n h o

-- at most as many are true as places were paired
pub made_le : (f : Bool → Bool → Bool) (xs ys : List Bool) (i j n count : ℕ) → i + n ≤ length xs → j + n ≤ length ys → count ≡ ones (zip2 f (slice_range xs i (i + n)) (slice_range ys j (j + n))) → count ≤ n
made_le f xs ys i j n count h o is =
    let one = length-run xs i n h in
    let two = length-run ys j n o in
    let size = length-zip2 f (slice_range xs i (i + n)) (slice_range ys j (j + n)) (one ∙ sym two) ∙ one in
    omega (arith, is, size, count_by-le-length (λ bit. bit) (zip2 f (slice_range xs i (i + n)) (slice_range ys j (j + n))))

-- the place in a block of 64 bits of the bit at index q, in words of w bits
abbrev pub in_block : (w : ℕ) → (ℕ → ℕ) → ℕ → ℕ
in_block w place q = q / w * w + place (q % w)

-- an order of words is an order of a block of 64 bits
pub block_lawful : (w : ℕ) (place : ℕ → ℕ) → IsWidth w → 0 < w → IsPermutation w place → IsPermutation 64 (in_block w place)
block_lawful w place width positive lawful = record {
  in_range = λ q h.
      let fills = pack_fills w width in
      let below = lawful.in_range (q % w) (mod-lt q positive) in
      let which : q / w < 64 / w = (div-lt_iff_lt-mul positive).1 (omega arith) in
      let inside = word_in_run w w 64 (q / w) refl which in
      omega arith;
  apart = λ i j h l e.
      let a = lawful.in_range (i % w) (mod-lt i positive) in
      let b = lawful.in_range (j % w) (mod-lt j positive) in
      let words : i / w ≡ j / w = sym (div-mul-add (i / w) w (place (i % w)) a) ∙ ap (λ n. n / w) e ∙ div-mul-add (j / w) w (place (j % w)) b in
      let places : place (i % w) ≡ place (j % w) = sym (mod-mul-add (i / w) w (place (i % w)) a) ∙ ap (λ n. n % w) e ∙ mod-mul-add (j / w) w (place (j % w)) b in
      let indices = lawful.apart (i % w) (j % w) (mod-lt i positive) (mod-lt j positive) places in
      let first = div-add-mod' i w in
      let second = div-add-mod' j w in
      let same : i / w * w ≡ j / w * w = ap (λ n. n * w) words in
      omega arith;
}

-- a bit of a row stands at its place in the row of the places
bit_placed : (place : ℕ → ℕ → ℕ) (w : ℕ) (words : List ℕ) (k r : ℕ) → r < w → place w r < w → k * w + w ≤ w * length words → get_or (row_of place w words) (k * w + r) false ≡ get_or (row_of (λ v i. i) w words) (k * w + place w r) false
bit_placed place w words k r h below inside =
    let p : ℕ = place w r in
    get_or-row_of place w words (k * w + r) (omega arith)
    ∙ ap (λ n. has_bit (get_or words n 0) (place w ((k * w + r) % w))) (div-mul-add k w r h) ∙ ap (λ n. has_bit (get_or words k 0) (place w n)) (mod-mul-add k w r h)
    ∙ sym (get_or-row_of (λ v i. i) w words (k * w + p) (omega arith) ∙ ap (λ n. has_bit (get_or words n 0) ((k * w + p) % w)) (div-mul-add k w p below) ∙ ap (has_bit (get_or words k 0)) (mod-mul-add k w p below))

-- a block of a row that begins with a word, whose places are those of a number
pub block_bit : (place : ℕ → ℕ → ℕ) (w : ℕ) (words : List ℕ) (k q x : ℕ) → 0 < w → IsWidth w → IsPermutation w (place w) → q < 64 → k * w + 64 ≤ w * length words → row_of (λ v i. i) 64 (x ∷ []) ≡ slice_range (row_of (λ v i. i) w words) (k * w) (k * w + 64)
    → get_or (slice_range (row_of place w words) (k * w) (k * w + 64)) q false ≡ has_bit x (in_block w (place w) q)
block_bit place w words k q x positive width lawful h inside is =
    let r : ℕ = q % w in
    let p : ℕ = place w r in
    let low = mod-lt q positive in
    let below = lawful.in_range r low in
    let split = div-add-mod' q w in
    let fills = pack_fills w width in
    let which : q / w < 64 / w = (div-lt_iff_lt-mul positive).1 (omega arith) in
    let room = word_in_run w w 64 (q / w) refl which in
    let sum = right_sum k (q / w) w in
    let here : (k + q / w) * w + r ≡ k * w + q = omega arith in
    let there : (k + q / w) * w + p ≡ k * w + in_block w (place w) q = omega arith in
    let small : in_block w (place w) q < 64 = omega arith in
    get_or-run (row_of place w words) (k * w) 64 q h
    ∙ ap (λ n. get_or (row_of place w words) n false) (sym here)
    ∙ bit_placed place w words (k + q / w) r low below (omega arith)
    ∙ ap (λ n. get_or (row_of (λ v i. i) w words) n false) there
    ∙ sym (get_or-run (row_of (λ v i. i) w words) (k * w) 64 (in_block w (place w) q) small)
    ∙ ap (λ l. get_or l (in_block w (place w) q) false) (sym is)
    ∙ get_or-row_one (λ v i. i) 64 x (in_block w (place w) q) (omega arith) small

-- as many bits of a number are set as items are true that stand at its places in another order
pub count_placed : (place : ℕ → ℕ) (z : ℕ) (ms : List Bool) → IsPermutation 64 place → z < 2 ^ 64 → length ms ≡ 64 → ((q : ℕ) → q < 64 → get_or ms q false ≡ has_bit z (place q)) → count_ones z ≡ ones ms
count_placed place z ms lawful fits size bits =
    let zs : List Bool = row_of (λ v i. i) 64 (z ∷ []) in
    let long : length zs ≡ 64 * 1 = length-row_of (λ v i. i) 64 (z ∷ []) in
    let whole : slice_range zs 0 64 ≡ zs = take_all (64 - 0) zs (omega arith) in
    let number = number_from_bits z zs fits (omega arith) (λ i h. sym (get_or-row_one (λ v i. i) 64 z i (omega arith) h)) in
    counted zs 0 64 0 64 z refl refl (number ∙ ap number_of (sym whole)) ∙ ap ones whole
    ∙ sym (permuted 64 place zs ms lawful (omega arith) size (λ q h. bits q h ∙ sym (get_or-row_one (λ v i. i) 64 z (place q) (omega arith) (lawful.in_range q h))))
