-- What a register of 64 bits gives, whose next bit is its highest.
use Rattle.std.proofs.Common.{◌≡◌, ℕ, ◌+◌, ◌-◌, ◌*◌, ◌/◌, ◌%◌, ◌^◌, ◌<◌, ◌≤◌, Bool, List, [], ◌++◌, append_assoc, length, take, drop, slice_range, refl, sym, ◌∙◌, ap, subst, arith, rules}
use Rattle.std.proofs.lemmas.List.{take-append-drop, length-take-le, drop_at, length-append, nil_from_length, same_lists, places}
use Rattle.std.proofs.lemmas.Nat.{mod-mul-add, mod_below, pow-add, div-add-mod', mul-mod_first}
use Rattle.std.proofs.Math.Pow.{pow_pos}
use Rattle.std.proofs.Math.Nat.{mul_assoc, mul_comm, mul-div-mul_right, mul-div_cancel, mod-eq_of_lt, div-lt_iff_lt-mul}
use Rattle.bit_addressing.specs.Row.{binary, sized, words_for}
use Rattle.bit_addressing.proofs.Runs.{mul_mono, slices_joined}
use Rattle.bit_addressing.proofs.lists.Shown.{length-run}
use Rattle.bit_addressing.proofs.lists.Sized.{words_even, sized_cut}
use Rattle.bit_addressing.proofs.Rows.{width_positive}
use Rattle.bit_addressing.specs.Bits.{IsWidth}
use Rattle.bit_rows.proofs.Binary.{length-binary, binary_parted}
use Rattle.bit_addressing.proofs.Packs.{pack_fills}
use Rattle.bit_streams.specs.Streams.{IsHeld}
use Rattle.bit_streams.proofs.Lists.{slice_whole, take_front, joined_digits, joined_below}

-- two parts of a run
pub parted_run : (row xs ys : List Bool) (a b c : ℕ) → slice_range row a c ≡ xs ++ ys → a ≤ b → b ≤ c → c ≤ length row → length xs ≡ b - a → (slice_range row a b ≡ xs) × (slice_range row b c ≡ ys)
parted_run row xs ys a b c is h k room size =
    let all : slice_range row a b ++ slice_range row b c ≡ xs ++ ys = slices_joined row a b c h k room ∙ is in
    let to : a + (b - a) ≡ b = omega arith in
    let first : length (slice_range row a b) ≡ b - a = ap (λ e. length (slice_range row a e)) (sym to) ∙ length-run row a (b - a) (omega arith) in (
      sym (take_front (b - a) (slice_range row a b) (slice_range row b c) first) ∙ ap (take (b - a)) all ∙ take_front (b - a) xs ys size,
      sym (drop_at (slice_range row a b) (slice_range row b c) (b - a) first) ∙ ap (drop (b - a)) all ∙ drop_at xs ys (b - a) size,
    )

-- a power of a sum is the product of the powers
pub pow_parts : (a b c : ℕ) → a ≡ b + c → 2 ^ a ≡ 2 ^ b * 2 ^ c
pow_parts a b c e = ap (λ k. 2 ^ k) e ∙ pow-add 2 b c

products : (q m r c : ℕ) → (q * m + r) * c ≡ q * (m * c) + r * c
products q m r c = grind (arith, mul_assoc)

pub mod_scaled : (v m c : ℕ) → 0 < m → 0 < c → (v * c) % (m * c) ≡ v % m * c
mod_scaled v m c pm pc =
    let low = mod_below v m pm in
    let most = mul_mono (v % m + 1) m c (omega arith) in
    let one : (v % m + 1) * c ≡ v % m * c + c = omega arith in
    let less : v % m * c < m * c = omega arith in
    let split : v * c ≡ v / m * (m * c) + v % m * c = ap (λ k. k * c) (sym (div-add-mod' v m)) ∙ products (v / m) m (v % m) c in
    ap (λ k. k % (m * c)) split ∙ mod-mul-add (v / m) (m * c) (v % m * c) less

module _ (row : List Bool) (from have window n : ℕ) (some : 0 < n) (held : IsHeld row from have window) where
  -- the highest bits of the register are the first bits held
  pub top_of_held : n ≤ have → window / 2 ^ (64 - n) ≡ held.number / 2 ^ (have - n)
  top_of_held within =
      let few = held.few in
      ap (λ k. k / 2 ^ (64 - n)) held.is ∙ ap (λ k. held.number * 2 ^ (64 - have) / k) (pow_parts (64 - n) (have - n) (64 - have) (omega arith))
      ∙ mul-div-mul_right {m = 2 ^ (64 - have)} held.number (2 ^ (have - n)) (pow_pos (64 - have))

  -- the register moved up by n holds the rest
  pub left_in_held : n ≤ have → window * 2 ^ n % 2 ^ 64 ≡ held.number % 2 ^ (have - n) * 2 ^ (64 - (have - n))
  left_in_held within =
      let few = held.few in
      let up : held.number * 2 ^ (64 - have) * 2 ^ n ≡ held.number * 2 ^ (64 - (have - n)) = mul_assoc held.number (2 ^ (64 - have)) (2 ^ n) ∙ ap (λ k. held.number * k) (sym (pow_parts (64 - (have - n)) (64 - have) n (omega arith))) in
      ap (λ k. k * 2 ^ n % 2 ^ 64) held.is ∙ ap (λ k. k % 2 ^ 64) up
      ∙ ap (λ k. held.number * 2 ^ (64 - (have - n)) % k) (pow_parts 64 (have - n) (64 - (have - n)) (omega arith))
      ∙ mod_scaled held.number (2 ^ (have - n)) (2 ^ (64 - (have - n))) (pow_pos (have - n)) (pow_pos (64 - (have - n)))

  -- the first n bits are taken
  pub taken : n ≤ have → from + have ≤ length row → (binary n (window / 2 ^ (64 - n)) ≡ slice_range row from (from + n)) × (window / 2 ^ (64 - n) < 2 ^ n) × IsHeld row (from + n) (have - n) (window * 2 ^ n % 2 ^ 64)
  taken within room =
      let few = held.few in
      let whole : n + (have - n) ≡ have = omega arith in
      let v = held.number in
      let digits : slice_range row from (from + have) ≡ binary n (v / 2 ^ (have - n)) ++ binary (have - n) (v % 2 ^ (have - n)) =
      sym held.digits ∙ ap (λ k. binary k v) (sym whole) ∙ binary_parted n (have - n) v in
      let first : length (binary n (v / 2 ^ (have - n))) ≡ n = length-binary n (v / 2 ^ (have - n)) in
      let parts = parted_run row (binary n (v / 2 ^ (have - n))) (binary (have - n) (v % 2 ^ (have - n))) from (from + n) (from + have) digits (omega arith) (omega arith) room (omega arith) in
      let top = top_of_held within in
      let size : 2 ^ have ≡ 2 ^ n * 2 ^ (have - n) = pow_parts have n (have - n) (omega arith) in
      let upper : v / 2 ^ (have - n) < 2 ^ n = (div-lt_iff_lt-mul (pow_pos (have - n))).1 (subst (λ k. v < k) size held.small) in
      let end : from + have ≡ from + n + (have - n) = omega arith in (
        ap (binary n) top ∙ sym parts.0,
        subst (λ k. k < 2 ^ n) (sym top) upper,
        record {
          number = v % 2 ^ (have - n);
          is = left_in_held within;
          small = mod_below v (2 ^ (have - n)) (pow_pos (have - n));
          digits = sym parts.1 ∙ ap (slice_range row (from + n)) end;
          few = omega arith;
        },
      )

-- the register is used up, and the rest comes out of the next 64 bits
module _ (row : List Bool) (from have window n block : ℕ) (held : IsHeld row from have window) where
  -- digits taken across the register's end are those of the row
  pub taken_over : have < n → n ≤ 64 → from + have + 64 ≤ length row → binary 64 block ≡ slice_range row (from + have) (from + have + 64)
      → (binary n (window / 2 ^ (64 - n) + block / 2 ^ (64 - (n - have)) % 2 ^ (n - have)) ≡ slice_range row from (from + n))
      × (window / 2 ^ (64 - n) + block / 2 ^ (64 - (n - have)) % 2 ^ (n - have) < 2 ^ n)
      × IsHeld row (from + n) (64 - (n - have)) (block % 2 ^ (64 - (n - have)) * 2 ^ (n - have))
  taken_over over few room next =
      let small = held.few in
      let v = held.number in
      let need = n - have in
      let left = 64 - need in
      let high = block / 2 ^ left in
      let sum : have + need ≡ n = omega arith in
      let all : need + left ≡ 64 = omega arith in
      let top : window / 2 ^ (64 - n) ≡ v * 2 ^ need =
      ap (λ k. k / 2 ^ (64 - n)) (held.is ∙ ap (λ k. v * k) (pow_parts (64 - have) need (64 - n) (omega arith)) ∙ sym (mul_assoc v (2 ^ need) (2 ^ (64 - n))))
      ∙ mul-div_cancel (v * 2 ^ need) (pow_pos (64 - n)) in
      let digits : slice_range row (from + have) (from + have + 64) ≡ binary need high ++ binary left (block % 2 ^ left) =
      sym next ∙ ap (λ k. binary k block) (sym all) ∙ binary_parted need left block in
      let first : length (binary need high) ≡ need = length-binary need high in
      let at : from + have + need ≡ from + n = omega arith in
      let end : from + have + 64 ≡ from + n + left = omega arith in
      let parts = parted_run row (binary need high) (binary left (block % 2 ^ left)) (from + have) (from + n) (from + have + 64) digits (omega arith) (omega arith) room (omega arith) in
      let x : window / 2 ^ (64 - n) + high % 2 ^ need ≡ v * 2 ^ need + high % 2 ^ need = ap (λ k. k + high % 2 ^ need) top in (
        ap (λ k. binary k (window / 2 ^ (64 - n) + high % 2 ^ need)) (sym sum) ∙ ap (binary (have + need)) x ∙ joined_digits have need v high
            ∙ ap (λ l. l ++ binary need high) held.digits ∙ ap (λ l. slice_range row from (from + have) ++ l) (sym parts.0)
            ∙ slices_joined row from (from + have) (from + n) (omega arith) (omega arith) (omega arith),
        subst (λ k. k < 2 ^ n) (sym x) (subst (λ k. v * 2 ^ need + high % 2 ^ need < 2 ^ k) sum (joined_below have need v high held.small)),
        record {
          number = block % 2 ^ left;
          is = ap (λ k. block % 2 ^ left * 2 ^ k) (let e : need ≡ 64 - left = omega arith in e);
          small = mod_below block (2 ^ left) (pow_pos left);
          digits = sym parts.1 ∙ ap (slice_range row (from + n)) end;
          few = omega arith;
        },
      )

-- a part between equal ends is empty
pub slice_empty : (row : List Bool) (a b : ℕ) → a ≡ b → slice_range row a b ≡ []
slice_empty row a b e = same_lists _ _ (search (rules, places)) (λ i d below. grind (arith, places))

-- nothing is held
pub nothing_held : (row : List Bool) (from : ℕ) → IsHeld row from 0 0
nothing_held row from = record {
  number = 0;
  is = refl;
  small = let e : 2 ^ 0 ≡ 1 = refl in omega arith;
  digits = nil_from_length (binary 0 0) (length-binary 0 0) ∙ sym (slice_empty row from (from + 0) (omega arith));
  few = omega arith;
}

-- what is left begins with the bits that are taken
pub rest_parted : (row ds : List Bool) (from n end : ℕ) → ds ≡ slice_range row from (from + n) → from + n ≤ end → end ≤ length row → slice_range row from end ≡ ds ++ slice_range row (from + n) end
rest_parted row ds from n end is h room = sym (slices_joined row from (from + n) end (omega arith) h room) ∙ ap (λ l. l ++ slice_range row (from + n) end) (sym is)

pub high_small : (block left need : ℕ) → left + need ≡ 64 → block < 2 ^ 64 → block / 2 ^ left < 2 ^ need
high_small block left need all below = (div-lt_iff_lt-mul (pow_pos left)).1 (subst (λ k. block < k) (pow_parts 64 need left (omega arith)) below)

shifted_out : (block left need : ℕ) → 0 < need → left + need ≡ 64 → block * 2 ^ (need - 1) % 2 ^ 64 * 2 ^ 1 % 2 ^ 64 ≡ block % 2 ^ left * 2 ^ need
shifted_out block left need some all =
    mul-mod_first (block * 2 ^ (need - 1)) (2 ^ 1) (2 ^ 64)
    ∙ ap (λ k. k % 2 ^ 64) (mul_assoc block (2 ^ (need - 1)) (2 ^ 1) ∙ ap (λ k. block * k) (sym (pow_parts need (need - 1) 1 (omega arith))))
    ∙ ap (λ k. block * 2 ^ need % k) (pow_parts 64 left need (omega arith))
    ∙ mod_scaled block (2 ^ left) (2 ^ need) (pow_pos left) (pow_pos need)

-- the same as code computes it
pub taken_next : (row : List Bool) (from have window n block : ℕ) → IsHeld row from have window → have < n → n ≤ 64 → from + have + 64 ≤ length row → block < 2 ^ 64 → binary 64 block ≡ slice_range row (from + have) (from + have + 64)
    → (binary n (window / 2 ^ (64 - n) + block / 2 ^ (64 - (n - have))) ≡ slice_range row from (from + n))
    × (window / 2 ^ (64 - n) + block / 2 ^ (64 - (n - have)) < 2 ^ n)
    × IsHeld row (from + n) (64 - (n - have)) (block * 2 ^ (n - have - 1) % 2 ^ 64 * 2 ^ 1 % 2 ^ 64)
taken_next row from have window n block held over few room below next =
    let t = taken_over row from have window n block held over few room next in
    let high : block / 2 ^ (64 - (n - have)) % 2 ^ (n - have) ≡ block / 2 ^ (64 - (n - have)) = mod-eq_of_lt (high_small block (64 - (n - have)) (n - have) (omega arith) below) in (
      subst (λ k. binary n (window / 2 ^ (64 - n) + k) ≡ slice_range row from (from + n)) high t.0,
      subst (λ k. window / 2 ^ (64 - n) + k < 2 ^ n) high t.1,
      subst (λ k. IsHeld row (from + n) (64 - (n - have)) k) (sym (shifted_out block (64 - (n - have)) (n - have) (omega arith) (omega arith))) t.2,
    )

-- the rest after n bits begins n bits later
pub dropped : (row : List Bool) (from n end : ℕ) → from + n ≤ end → end ≤ length row → (drop n (slice_range row from end) ≡ slice_range row (from + n) end) × (length (slice_range row (from + n) end) + n ≡ length (slice_range row from end))
dropped row from n end h room =
    let first : length (slice_range row from (from + n)) ≡ n = length-run row from n (omega arith) in
    let both : slice_range row from end ≡ slice_range row from (from + n) ++ slice_range row (from + n) end = sym (slices_joined row from (from + n) end (omega arith) h room) in
    let sum = ap length both ∙ length-append (slice_range row from (from + n)) (slice_range row (from + n) end) in
    (ap (drop n) both ∙ drop_at (slice_range row from (from + n)) (slice_range row (from + n) end) n first, omega arith)

-- whole blocks take whole words
pub blocks_fill : (w at : ℕ) → IsWidth w → at % 64 ≡ 0 → w * words_for w at ≡ at
blocks_fill w at width even =
    let positive = width_positive w width in
    let whole = pack_fills w width in
    let blocks : at ≡ at / 64 * (64 / w) * w + 0 =
    (let d = div-add-mod' at 64 in let e : at ≡ at / 64 * 64 = omega arith in e) ∙ ap (λ k. at / 64 * k) (sym whole) ∙ sym (mul_assoc (at / 64) (64 / w) w) ∙ (let z : at / 64 * (64 / w) * w ≡ at / 64 * (64 / w) * w + 0 = omega arith in z) in
    let none : at % w ≡ 0 = ap (λ k. k % w) blocks ∙ mod-mul-add (at / 64 * (64 / w)) w 0 positive in
    let count = words_even w at positive none in
    let d = div-add-mod' at w in
    let turn : w * (at / w) ≡ at / w * w = mul_comm w (at / w) in
    ap (λ k. w * k) (sym count) ∙ omega arith

-- the list of whole words, and the digits after them
pub list_split : (xs rows ds : List Bool) (at n : ℕ) → at + n ≡ length xs → slice_range rows 0 (0 + length (take at xs)) ≡ take at xs → length rows ≡ at → ds ≡ slice_range xs at (at + n) → rows ++ ds ≡ xs
list_split xs rows ds at n all shows size is =
    let some : length (take at xs) ≡ at = length-take-le at xs (omega arith) in
    let front : rows ≡ take at xs = sym (slice_whole (0 + length (take at xs)) rows (omega arith)) ∙ shows in
    let back : ds ≡ drop at xs = is ∙ ap (slice_range xs at) all ∙ same_lists _ _ (search (rules, places)) (λ i d below. grind (arith, places)) in
    ap (λ l. l ++ ds) front ∙ ap (λ l. take at xs ++ l) back ∙ take-append-drop at xs

pub slice_front : (xs : List Bool) (n : ℕ) → slice_range xs 0 n ≡ take n xs
slice_front xs n = same_lists _ _ (search (rules, places)) (λ i d below. grind (arith, places))

-- a row cut to whole blocks below n, and the bits between these and n
pub cut_row : (w : ℕ) (xs new : List Bool) (n at count pending : ℕ) → IsWidth w → n ≤ length xs → count ≡ n % 64 → at ≡ n - count → new ≡ sized w xs at → binary count pending ≡ slice_range xs at (at + count)
    → new ++ binary count pending ≡ take n xs
cut_row w xs new n at count pending width room is_count is_at is digits =
    let parts = div-add-mod' n 64 in
    let even : at % 64 ≡ 0 = ap (λ k. k % 64) (let e : at ≡ n / 64 * 64 + 0 = omega arith in e) ∙ mod-mul-add (n / 64) 64 0 (omega arith) in
    let whole = blocks_fill w at width even in
    let sum : at + count ≡ n = omega arith in
    let front : new ≡ take at xs = is ∙ sym (sized_cut w xs at (omega arith)) ∙ ap (λ k. take k xs) whole in
    ap (λ l. l ++ binary count pending) front ∙ ap (λ l. take at xs ++ l) digits
    ∙ ap (λ l. l ++ slice_range xs at (at + count)) (sym (slice_front xs at))
    ∙ slices_joined xs 0 at (at + count) (omega arith) (omega arith) (omega arith) ∙ ap (slice_range xs 0) sum ∙ slice_front xs n

-- how many bits are left of a row that is cut to whole blocks
pub cut_size : (w n at count long : ℕ) → IsWidth w → count ≡ n % 64 → at ≡ n - count → long ≡ words_for w at → w * long + count ≡ n
cut_size w n at count long width is_count is_at is =
    let parts = div-add-mod' n 64 in
    let even : at % 64 ≡ 0 = ap (λ k. k % 64) (let e : at ≡ n / 64 * 64 + 0 = omega arith in e) ∙ mod-mul-add (n / 64) 64 0 (omega arith) in
    let whole : w * long ≡ at = ap (λ k. w * k) is ∙ blocks_fill w at width even in
    omega arith

-- the first digits of a number
pub front_digits : (count n p : ℕ) → n ≤ count → binary n (p / 2 ^ (count - n)) ≡ take n (binary count p)
front_digits count n p h =
    let all : n + (count - n) ≡ count = omega arith in
    sym (take_front n (binary n (p / 2 ^ (count - n))) (binary (count - n) (p % 2 ^ (count - n))) (length-binary n (p / 2 ^ (count - n))))
    ∙ ap (take n) (sym (binary_parted n (count - n) p) ∙ ap (λ k. binary k p) all)

-- the first n of some bits are a number below 2^n
pub front_below : (count n p : ℕ) → n ≤ count → p < 2 ^ count → p / 2 ^ (count - n) < 2 ^ n
front_below count n p h small = (div-lt_iff_lt-mul (pow_pos (count - n))).1 (subst (λ k. p < k) (pow_parts count n (count - n) (omega arith)) small)

-- a part of the unread part is a part of the row
pub rest_taken : (row : List Bool) (start from end : ℕ) → start ≤ from → from ≤ end → end ≤ length row
    → slice_range (slice_range row start (start + (end - start))) (from - start) (end - start) ≡ slice_range row from end
rest_taken row start from end begins h room = same_lists _ _ (search (rules, places)) (λ i d below. grind (arith, places))

-- a list up to a place, and the part after it
pub part_more : (xs : List Bool) (a b : ℕ) → a ≤ b → b ≤ length xs → take a xs ++ slice_range xs a b ≡ take b xs
part_more xs a b h room = ap (λ l. l ++ slice_range xs a b) (sym (slice_front xs a)) ∙ slices_joined xs 0 a b (omega arith) h room ∙ slice_front xs b

-- a number that was read of a part is written after what comes before the part
pub part_written : (old now new xs part digits : List Bool) (a b : ℕ) → now ≡ old ++ take a xs → part ≡ slice_range xs a b → digits ≡ part → new ≡ now ++ digits → a ≤ b → b ≤ length xs → new ≡ old ++ take b xs
part_written old now new xs part digits a b is shows same on h room =
    on ∙ ap (λ l. l ++ digits) is ∙ append_assoc old (take a xs) digits ∙ ap (λ l. old ++ l) (ap (λ l. take a xs ++ l) (same ∙ shows) ∙ part_more xs a b h room)

-- the bits after those that are held, out of the next 64, up to 63 that are held
pub held_by_block : (row : List Bool) (from have window block : ℕ) → IsHeld row from have window → have < 63 → from + have + 64 ≤ length row → block < 2 ^ 64 → binary 64 block ≡ slice_range row (from + have) (from + have + 64)
    → IsHeld row from 63 (window + block / 2 ^ (have + 1) * 2 ^ 1)
held_by_block row from have window block held few room below next =
    let v = held.number in
    let k = 63 - have in
    let part = block / 2 ^ (have + 1) in
    let sum : have + k ≡ 63 = omega arith in
    let all : k + (have + 1) ≡ 64 = omega arith in
    let split : slice_range row (from + have) (from + have + 64) ≡ binary k part ++ binary (have + 1) (block % 2 ^ (have + 1)) = sym next ∙ ap (λ j. binary j block) (sym all) ∙ binary_parted k (have + 1) block in
    let size : length (binary k part) ≡ from + have + k - (from + have) = length-binary k part ∙ omega arith in
    let parts = parted_run row (binary k part) (binary (have + 1) (block % 2 ^ (have + 1))) (from + have) (from + have + k) (from + have + 64) split (omega arith) (omega arith) room size in
    let low : part % 2 ^ k ≡ part = mod-eq_of_lt (high_small block (have + 1) k (omega arith) below) in
    let up : v * 2 ^ (64 - have) ≡ v * 2 ^ k * 2 ^ 1 = ap (λ j. v * j) (pow_parts (64 - have) k 1 (omega arith)) ∙ sym (mul_assoc v (2 ^ k) (2 ^ 1)) in
    let end : from + (have + k) ≡ from + have + k = omega arith in
    let digits : binary (have + k) (v * 2 ^ k + part) ≡ slice_range row from (from + (have + k)) =
    ap (λ j. binary (have + k) (v * 2 ^ k + j)) (sym low) ∙ joined_digits have k v part ∙ ap (λ l. l ++ binary k part) held.digits ∙ ap (λ l. slice_range row from (from + have) ++ l) (sym parts.0)
    ∙ slices_joined row from (from + have) (from + have + k) (omega arith) (omega arith) (omega arith) ∙ ap (slice_range row from) (sym end) in
    record {
      number = v * 2 ^ k + part;
      is = ap (λ j. j + part * 2 ^ 1) (held.is ∙ up) ∙ grind arith;
      small = subst (λ j. v * 2 ^ k + part < 2 ^ j) sum (subst (λ j. v * 2 ^ k + j < 2 ^ (have + k)) low (joined_below have k v part held.small));
      digits = subst (λ j. binary j (v * 2 ^ k + part) ≡ slice_range row from (from + j)) sum digits;
      few = omega arith;
    }
