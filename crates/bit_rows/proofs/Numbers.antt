-- Numbers read out of a block of 64 bits, and runs written out of one.
use Rattle.std.proofs.Common.{◌≡◌, ℕ, ◌+◌, ◌-◌, ◌*◌, ◌/◌, ◌%◌, ◌^◌, ◌<◌, ◌≤◌, Bool, false, List, [], ◌∷◌, ◌++◌, length, get_or, slice_range, sym, ◌∙◌, ap, subst, inl, inr, arith, mul_comm}
use Rattle.std.proofs.lemmas.Bool.{cases_lt}
use Rattle.std.proofs.lemmas.List.{ext_get_or}
use Rattle.bit_addressing.specs.Bits.{has_bit, IsWidth}
use Rattle.bit_addressing.specs.Row.{binary, number_bits, put, row_of}
use Rattle.bit_addressing.proofs.Chunks.{IsRead}
use Rattle.bit_addressing.proofs.Packs.{pack_fills}
use Rattle.bit_addressing.proofs.Rows.{get_or-row_one, length-row_of}
use Rattle.bit_addressing.proofs.Runs.{mul_mono, slices_joined}
use Rattle.bit_addressing.proofs.Words.{has_shl_high, has_shl_low, has_shr_high, has_shr_low}
use Rattle.bit_addressing.proofs.lists.Put.{put_joined}
use Rattle.bit_addressing.proofs.lists.Shown.{get_or-run, length-between, length-run, shown_part}
use Rattle.bit_addressing.proofs.lists.Sized.{right_sum}
use Rattle.bit_rows.proofs.Binary.{binary_low, binary_parted, get_or-binary, length-binary}
use Rattle.std.proofs.lemmas.List.FromFn.{length-map-range_with_len, get_or-map-range_with_len}

-- a block lies in the words
pub one_block : {u each n : ℕ} (k : ℕ) → IsWidth u → each ≡ u → k + 64 / each ≤ n → k * u + 64 ≤ u * n
one_block {u} {each} {n} k is e h =
    let fills = pack_fills u is in
    let most = mul_mono (k + 64 / u) n u (subst (λ m. k + 64 / m ≤ n) e h) in
    let sum = right_sum k (64 / u) u in
    let turned = mul_comm n u in
    omega arith

-- ---- read

-- the bits of a block from index `skip` on
pub read_later : (ms : List Bool) (a at skip x : ℕ) → at ≡ a + skip → skip ≤ 64 → IsRead ms a 64 x → IsRead ms at (64 - skip) (x / 2 ^ skip)
read_later ms a at skip x is few read = record {
  shown = λ i h q.
      let next : a + (i + skip) ≡ at + i = omega arith in
      has_shr_low x skip i ∙ read.shown (i + skip) (omega arith) (omega arith) ∙ ap (λ n. get_or ms n false) next;
  clear = λ i h. has_shr_low x skip i ∙ read.clear (i + skip) (omega arith);
}

-- a block turned round and then moved up is what was moved down, turned round
pub turned_later : (ms : List Bool) (a x turned skip : ℕ) → skip < 64 → IsRead ms a 64 x → ((p : ℕ) → p < 64 → has_bit turned p ≡ has_bit x (64 - 1 - p)) → (p : ℕ) → p < 64 → has_bit (turned * 2 ^ skip % 2 ^ 64) p ≡ has_bit (x / 2 ^ skip) (64 - 1 - p)
turned_later ms a x turned skip few read round p below = elim (cases_lt p skip) [
  | inl l ↦ has_shl_low 64 turned skip p l few ∙ sym (has_shr_low x skip (64 - 1 - p) ∙ read.clear (64 - 1 - p + skip) (omega arith))
  | inr l ↦
      let there : 64 - 1 - (p - skip) ≡ 64 - 1 - p + skip = omega arith in
      has_shl_high 64 turned skip p l below ∙ round (p - skip) (omega arith) ∙ ap (has_bit x) there ∙ sym (has_shr_low x skip (64 - 1 - p))
]

-- ---- written

-- a run written further, out of the same list
pub put_next : (xs cur zs one : List Bool) (d low p q m : ℕ) → m + low ≡ d + p → low ≤ p → p ≤ q → q ≤ length zs → m + (q - p) ≤ length xs → cur ≡ put xs d (slice_range zs low p) → one ≡ slice_range zs p q → put cur m one ≡ put xs d (slice_range zs low q)
put_next xs cur zs one d low p q m is after ordered within room so_far here =
    let front : length (slice_range zs low p) ≡ p - low = length-between zs low p (omega arith) in
    let back : length (slice_range zs p q) ≡ q - p = length-between zs p q within in
    ap (λ c. put c m one) so_far ∙ ap (put (put xs d (slice_range zs low p)) m) here
    ∙ put_joined xs (slice_range zs low p) (slice_range zs p q) d m (omega arith) (omega arith)
    ∙ ap (put xs d) (slices_joined zs low p q after ordered within)

-- a part of one of the words that a block is taken apart into
pub part_of_block : (zs one : List Bool) (w i low high from upto : ℕ) → one ≡ slice_range zs (i * w) (i * w + w) → from ≡ i * w + low → upto ≡ i * w + high → low ≤ high → high ≤ w → i * w + w ≤ length zs → slice_range one low high ≡ slice_range zs from upto
part_of_block zs one w i low high from upto is begins ends ordered within fits =
    let end : low + (high - low) ≡ high = omega arith in
    let last : i * w + low + (high - low) ≡ upto = omega arith in
    ap (λ l. slice_range l low high) is ∙ ap (slice_range (slice_range zs (i * w) (i * w + w)) low) (sym end)
    ∙ sym (shown_part zs (i * w) w low (high - low) (omega arith) fits)
    ∙ ap (λ n. slice_range zs n (i * w + low + (high - low))) (sym begins) ∙ ap (slice_range zs from) last

-- the run of a block is a list, whose bits are those of a number from a place on
pub run_of_block : (place : ℕ → ℕ → ℕ) (block made low n : ℕ) (ms : List Bool) → low + n ≤ 64 → length ms ≡ n → ((i : ℕ) → i < 64 → has_bit block (place 64 i) ≡ has_bit made i) → ((i : ℕ) → i < n → has_bit made (low + i) ≡ get_or ms i false) → slice_range (row_of place 64 (block ∷ [])) low (low + n) ≡ ms
run_of_block place block made low n ms within size ordered shown =
    let one : List Bool = row_of place 64 (block ∷ []) in
    let all : length one ≡ 64 * 1 = length-row_of place 64 (block ∷ []) in
    let left : length (slice_range one low (low + n)) ≡ n = length-run one low n (omega arith) in
    ext_get_or false (slice_range one low (low + n)) ms (left ∙ sym size) (λ i h.
    let below : i < n = omega arith in
    get_or-run one low n i below ∙ get_or-row_one place 64 block (low + i) (omega arith) (omega arith) ∙ ordered (low + i) (omega arith) ∙ shown i below)

-- the lowest bits of a number, moved up
pub lowest_moved : (place : ℕ → ℕ → ℕ) (block x low n : ℕ) → low + n ≤ 64 → ((i : ℕ) → i < 64 → has_bit block (place 64 i) ≡ has_bit (x * 2 ^ low % 2 ^ 64) i) → slice_range (row_of place 64 (block ∷ [])) low (low + n) ≡ number_bits x n
unfolding number_bits
lowest_moved place block x low n within ordered = run_of_block place block (x * 2 ^ low % 2 ^ 64) low n (number_bits x n) within (length-map-range_with_len (has_bit x) 0 n) ordered (λ i h.
    let back : low + i - low ≡ i = omega arith in
    has_shl_high 64 x low (low + i) (omega arith) (omega arith) ∙ ap (has_bit x) back ∙ sym (get_or-map-range_with_len (has_bit x) 0 n i i false h (omega arith)))

-- the digits of a number, moved to the highest places and down again, and turned round
pub digits_down : (turned x low n i : ℕ) → low + n ≤ 64 → ((p : ℕ) → p < 64 → has_bit turned p ≡ has_bit (x * 2 ^ (64 - n) % 2 ^ 64 / 2 ^ low) (64 - 1 - p)) → i < n → has_bit turned (low + i) ≡ has_bit x (n - 1 - i)
digits_down turned x low n i within round h =
    let up : ℕ = x * 2 ^ (64 - n) % 2 ^ 64 in
    let down : 64 - 1 - (low + i) + low ≡ 64 - 1 - i = omega arith in
    let back : 64 - 1 - i - (64 - n) ≡ n - 1 - i = omega arith in
    round (low + i) (omega arith) ∙ has_shr_low up low (64 - 1 - (low + i)) ∙ ap (has_bit up) down
    ∙ has_shl_high 64 x (64 - n) (64 - 1 - i) (omega arith) (omega arith) ∙ ap (has_bit x) back

-- the digits of a number that was turned round, moved to the lowest places and up again
pub digits_up : (turned x low n i : ℕ) → low + n ≤ 64 → ((p : ℕ) → p < 64 → has_bit turned p ≡ has_bit x (64 - 1 - p)) → i < n → has_bit (turned / 2 ^ (64 - n) * 2 ^ low % 2 ^ 64) (low + i) ≡ has_bit x (n - 1 - i)
digits_up turned x low n i within round h =
    let back : low + i - low ≡ i = omega arith in
    let there : 64 - 1 - (i + (64 - n)) ≡ n - 1 - i = omega arith in
    has_shl_high 64 (turned / 2 ^ (64 - n)) low (low + i) (omega arith) (omega arith) ∙ ap (has_bit (turned / 2 ^ (64 - n))) back ∙ has_shr_low turned (64 - n) i
    ∙ round (i + (64 - n)) (omega arith) ∙ ap (has_bit x) there

-- no bit is set after the digits that were moved down and turned round
pub none_after_down : (turned x low n i : ℕ) → 0 < n → ((p : ℕ) → p < 64 → has_bit turned p ≡ has_bit (x * 2 ^ (64 - n) % 2 ^ 64 / 2 ^ low) (64 - 1 - p)) → low + n ≤ i → i < 64 → has_bit turned i ≡ false
none_after_down turned x low n i some round after h =
    round i h ∙ has_shr_low (x * 2 ^ (64 - n) % 2 ^ 64) low (64 - 1 - i) ∙ has_shl_low 64 x (64 - n) (64 - 1 - i + low) (omega arith) (omega arith)

-- and none after those that were turned round and moved up
pub none_after_up : (turned x low n i : ℕ) → 0 < n → low + n ≤ 64 → turned < 2 ^ 64 → low + n ≤ i → i < 64 → has_bit (turned / 2 ^ (64 - n) * 2 ^ low % 2 ^ 64) i ≡ false
none_after_up turned x low n i some within fits after h =
    has_shl_high 64 (turned / 2 ^ (64 - n)) low i (omega arith) h ∙ has_shr_high 64 turned (64 - n) (i - low) fits (omega arith)

-- a block whose bits are a number's digits, moved up by `low`, holds the digits there
pub digits_moved : (place : ℕ → ℕ → ℕ) (block made x low n : ℕ) → low + n ≤ 64 → ((i : ℕ) → i < n → has_bit made (low + i) ≡ has_bit x (n - 1 - i)) → ((i : ℕ) → i < 64 → has_bit block (place 64 i) ≡ has_bit made i) → slice_range (row_of place 64 (block ∷ [])) low (low + n) ≡ binary n x
digits_moved place block made x low n within shown ordered = run_of_block place block made low n (binary n x) within (length-binary n x) ordered (λ i h. shown i h ∙ sym (get_or-binary n x i h))

-- digits that are written in two parts
pub digits_joined : (xs : List Bool) (at front rest x : ℕ) → at + front + rest ≤ length xs → put (put xs at (binary front (x / 2 ^ rest))) (at + front) (binary rest x) ≡ put xs at (binary (front + rest) x)
digits_joined xs at front rest x fits =
    let a = length-binary front (x / 2 ^ rest) in
    let b = length-binary rest x in
    put_joined xs (binary front (x / 2 ^ rest)) (binary rest x) at (at + front) (omega arith) (omega arith)
    ∙ ap (put xs at) (ap (λ l. binary front (x / 2 ^ rest) ++ l) (sym (binary_low rest x)) ∙ sym (binary_parted front rest x))
