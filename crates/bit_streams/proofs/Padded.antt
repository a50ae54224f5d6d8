-- A reader over a row with zeros after it, whose register is filled by 64 bits everywhere.
use Rattle.std.proofs.Common.{◌≡◌, ℕ, zero, suc, ◌+◌, ◌-◌, ◌*◌, ◌/◌, ◌%◌, ◌^◌, ◌<◌, ◌≤◌, Bool, false, List, ◌++◌, ◌⊎◌, inl, inr, length, drop, replicate, slice_range, take, sym, ◌∙◌, ap, subst, arith, rules}
use Rattle.std.proofs.lemmas.List.{length-append, nil_from_length, same_lists, places}
use Rattle.std.proofs.lemmas.Nat.{pow-add, shl_whole}
use Rattle.std.proofs.Math.Nat.{div-div-eq-div-mul, div-lt_iff_lt-mul, mod-eq_of_lt}
use Rattle.std.proofs.Math.Pow.{pow_pos}
use Rattle.bit_addressing.specs.Row.{binary}
use Rattle.bit_rows.proofs.Binary.{length-binary}
use Rattle.bit_addressing.proofs.lists.Shown.{length-run}
use Rattle.bit_streams.specs.Streams.{IsHeld, IsReading, Passed, Reading, padded}
use Rattle.bit_streams.proofs.Lists.{joined_digits, take_front}
use Rattle.bit_addressing.proofs.Runs.{mul_mono, slices_joined}
use Rattle.bit_streams.proofs.Windows.{dropped, held_by_block, high_small, nothing_held, rest_parted, slice_empty, taken, taken_next}
use Rattle.bit_streams.proofs.Zeros.{zeros_of}

-- a padded row has 64 bits more
pub length-padded : (row : List Bool) → length (padded row) ≡ length row + 64
unfolding padded
length-padded row = length-append row (replicate 64 false)

before_zeros : (row zeros : List Bool) (a b : ℕ) → b ≤ length row → slice_range (row ++ zeros) a b ≡ slice_range row a b
before_zeros row zeros a b room = same_lists _ _ (search (rules, places)) (λ i d below. grind (arith, places))

after_row : (row : List Bool) (m k a b : ℕ) → a ≡ length row → b ≡ a + k → k ≤ m → slice_range (row ++ replicate m false) a b ≡ replicate k false
after_row row m k a b from to few = same_lists _ _ (search (rules, places)) (λ i d below. grind (arith, places))

-- a part of the row itself
pub padded_part : (row : List Bool) (a b : ℕ) → b ≤ length row → slice_range (padded row) a b ≡ slice_range row a b
unfolding padded
padded_part row a b room = before_zeros row (replicate 64 false) a b room

zeros_after : (row : List Bool) (k a b : ℕ) → a ≡ length row → b ≡ a + k → k ≤ 64 → slice_range (padded row) a b ≡ replicate k false
unfolding padded
zeros_after row k a b from to few = after_row row 64 k a b from to few

-- 64 bits of which n are the row's: all, or up to its end
pub padded_begin : (row : List Bool) (at n : ℕ) → at + n ≤ length row → n ≤ 64 → (n ≡ 64) ⊎ (at + n ≡ length row) → slice_range (padded row) at (at + 64) ≡ slice_range row at (at + n) ++ replicate (64 - n) false
padded_begin row at n room few end =
    let long = length-padded row in
    let zeros : slice_range (padded row) (at + n) (at + 64) ≡ replicate (64 - n) false = elim end [
      | inl e ↦ slice_empty (padded row) (at + n) (at + 64) (omega arith) ∙ (let none : 0 ≡ 64 - n = omega arith in ap (λ k. replicate k false) none)
      | inr e ↦ zeros_after row (64 - n) (at + n) (at + 64) e (omega arith) (omega arith)
    ] in
    sym (slices_joined (padded row) at (at + n) (at + 64) (omega arith) (omega arith) (omega arith))
    ∙ ap (λ l. l ++ slice_range (padded row) (at + n) (at + 64)) (padded_part row at (at + n) room) ∙ ap (λ l. slice_range row at (at + n) ++ l) zeros

-- the last digits are zeros
pub digits_padded : (n x : ℕ) → n ≤ 64 → x < 2 ^ n → binary 64 (x * 2 ^ (64 - n) % 2 ^ 64) ≡ binary n x ++ replicate (64 - n) false
digits_padded n x few below =
    let none : 0 % 2 ^ (64 - n) ≡ 0 = mod-eq_of_lt (pow_pos (64 - n)) in
    let all : n + (64 - n) ≡ 64 = omega arith in
    let sum : x * 2 ^ (64 - n) ≡ x * 2 ^ (64 - n) + 0 % 2 ^ (64 - n) = omega (arith, none) in
    ap (binary 64) (shl_whole x n (64 - n) 64 below (omega arith) ∙ sum) ∙ ap (λ k. binary k (x * 2 ^ (64 - n) + 0 % 2 ^ (64 - n))) (sym all)
    ∙ joined_digits n (64 - n) x 0 ∙ ap (λ l. binary n x ++ l) (zeros_of (64 - n) (omega arith))

-- a register has no digit past 64
pub held_below : (row : List Bool) (from have window : ℕ) → IsHeld row from have window → window < 2 ^ 64
held_below row from have window held =
    let few = held.few in
    let small = held.small in
    let most = mul_mono (held.number + 1) (2 ^ have) (2 ^ (64 - have)) (omega arith) in
    let one : (held.number + 1) * 2 ^ (64 - have) ≡ held.number * 2 ^ (64 - have) + 2 ^ (64 - have) = omega arith in
    let all : have + (64 - have) ≡ 64 = omega arith in
    let whole : 2 ^ have * 2 ^ (64 - have) ≡ 2 ^ 64 = sym (pow-add 2 have (64 - have)) ∙ ap (λ e. 2 ^ e) all in
    let p = pow_pos (64 - have) in
    let is = held.is in
    omega arith

-- the first n bits are taken, also none
pub taken_any : (row : List Bool) (from have window n : ℕ) → IsHeld row from have window → n ≤ have → from + have ≤ length row
    → (binary n (window / 2 ^ 1 / 2 ^ (63 - n)) ≡ slice_range row from (from + n)) × (window / 2 ^ 1 / 2 ^ (63 - n) < 2 ^ n) × IsHeld row (from + n) (have - n) (window * 2 ^ n % 2 ^ 64)
taken_any row from have window zero held within room =
    let below = held_below row from have window held in
    let half : window / 2 ^ 1 < 1 * 2 ^ 63 = omega arith in
    let a : from ≡ from + 0 = omega arith in
    let b : have ≡ have - 0 = omega arith in
    let c : window ≡ window * 2 ^ 0 % 2 ^ 64 = sym (mod-eq_of_lt below) ∙ ap (λ k. k % 2 ^ 64) (let e : window ≡ window * 2 ^ 0 = omega arith in e) in (
      nil_from_length (binary 0 (window / 2 ^ 1 / 2 ^ 63)) (length-binary 0 (window / 2 ^ 1 / 2 ^ 63)) ∙ sym (slice_empty row from (from + 0) a),
      (div-lt_iff_lt-mul (pow_pos 63)).1 half,
      subst (λ k. IsHeld row (from + 0) (have - 0) k) c (subst (λ k. IsHeld row (from + 0) k window) b (subst (λ k. IsHeld row k have window) a held)),
    )
taken_any row from have window (suc m) held within room =
    let few = held.few in
    let t = taken row from have window (suc m) (omega arith) held within room in
    let sum : 1 + (63 - suc m) ≡ 64 - suc m = omega arith in
    let both : 2 ^ 1 * 2 ^ (63 - suc m) ≡ 2 ^ (64 - suc m) = sym (pow-add 2 1 (63 - suc m)) ∙ ap (λ e. 2 ^ e) sum in
    let same : window / 2 ^ (64 - suc m) ≡ window / 2 ^ 1 / 2 ^ (63 - suc m) = ap (λ k. window / k) (sym both) ∙ sym (div-div-eq-div-mul window (2 ^ 1) (2 ^ (63 - suc m))) in (
      subst (λ x. binary (suc m) x ≡ slice_range row from (from + suc m)) same t.0,
      subst (λ x. x < 2 ^ suc m) same t.1,
      t.2,
    )

-- 64 bits that begin inside a word, out of the blocks of two words
pub across : (row : List Bool) (at skip first second : ℕ) → 0 < skip → skip < 64 → skip ≤ at → at - skip + 64 + 64 ≤ length row → first < 2 ^ 64 → second < 2 ^ 64
    → binary 64 first ≡ slice_range row (at - skip) (at - skip + 64) → binary 64 second ≡ slice_range row (at - skip + 64) (at - skip + 64 + 64)
    → (binary 64 (first * 2 ^ (skip - 1) % 2 ^ 64 * 2 ^ 1 % 2 ^ 64 + second / 2 ^ (64 - skip)) ≡ slice_range row at (at + 64))
    × (first * 2 ^ (skip - 1) % 2 ^ 64 * 2 ^ 1 % 2 ^ 64 + second / 2 ^ (64 - skip) < 2 ^ 64)
across row at skip first second some few before room a b is next =
    let from : at - skip + skip ≡ at = omega arith in
    let end : at - skip + 64 ≡ at + (64 - skip) = omega arith in
    let same : at - skip ≡ at - skip + 0 = omega arith in
    let held = (taken_next row (at - skip) 0 0 skip first (nothing_held row (at - skip)) some (omega arith) (omega arith) a (subst (λ f. binary 64 first ≡ slice_range row f (f + 64)) same is)).2 in
    let all : skip - 0 ≡ skip = omega arith in
    let later : IsHeld row (at - skip + skip) (64 - skip) (first * 2 ^ (skip - 1) % 2 ^ 64 * 2 ^ 1 % 2 ^ 64) = subst (λ k. IsHeld row (at - skip + skip) (64 - k) (first * 2 ^ (k - 1) % 2 ^ 64 * 2 ^ 1 % 2 ^ 64)) all held in
    let rest : IsHeld row at (64 - skip) (first * 2 ^ (skip - 1) % 2 ^ 64 * 2 ^ 1 % 2 ^ 64) = subst (λ f. IsHeld row f (64 - skip) (first * 2 ^ (skip - 1) % 2 ^ 64 * 2 ^ 1 % 2 ^ 64)) from later in
    let t = taken_next row at (64 - skip) (first * 2 ^ (skip - 1) % 2 ^ 64 * 2 ^ 1 % 2 ^ 64) 64 second rest (omega arith) (omega arith) (omega arith) b (subst (λ f. binary 64 second ≡ slice_range row f (f + 64)) end next) in
    let none : (first * 2 ^ (skip - 1) % 2 ^ 64 * 2 ^ 1 % 2 ^ 64) / 2 ^ (64 - 64) ≡ first * 2 ^ (skip - 1) % 2 ^ 64 * 2 ^ 1 % 2 ^ 64 = omega arith in
    let by : 64 - (64 - (64 - skip)) ≡ 64 - skip = omega arith in
    let sum : (first * 2 ^ (skip - 1) % 2 ^ 64 * 2 ^ 1 % 2 ^ 64) / 2 ^ (64 - 64) + second / 2 ^ (64 - (64 - (64 - skip))) ≡ first * 2 ^ (skip - 1) % 2 ^ 64 * 2 ^ 1 % 2 ^ 64 + second / 2 ^ (64 - skip) =
    ap (λ k. k + second / 2 ^ (64 - (64 - (64 - skip)))) none ∙ ap (λ k. first * 2 ^ (skip - 1) % 2 ^ 64 * 2 ^ 1 % 2 ^ 64 + second / 2 ^ k) by in
    (subst (λ x. binary 64 x ≡ slice_range row at (at + 64)) sum t.0, subst (λ x. x < 2 ^ 64) sum t.1)

part_fits : (block have : ℕ) → block < 2 ^ 64 → have < 63 → block / 2 ^ (have + 1) * 2 ^ 1 % 2 ^ 64 ≡ block / 2 ^ (have + 1) * 2 ^ 1
part_fits block have below few = shl_whole (block / 2 ^ (have + 1)) (63 - have) 1 64 (high_small block (have + 1) (63 - have) (omega arith) below) (omega arith)

module _ (row : List Bool) (w n start left end have window : ℕ) (r : IsReading row w n start left end have window) (size : length row ≡ w * n) where
  -- the length of the rest is what is left
  pub length_rest : length (slice_range row (end - left) end) ≡ left
  length_rest =
      let begins = r.begins in
      let within = r.within in
      let to : end - left + left ≡ end = omega arith in
      ap (λ e. length (slice_range row (end - left) e)) (sym to) ∙ length-run row (end - left) left (omega arith)

  -- k bits further
  pub reading_on : (k after held_after : ℕ) → k ≤ left → end - left + k + after ≤ w * n + 64 → IsHeld (padded row) (end - left + k) after held_after → IsReading row w n start (left - k) end after held_after
  reading_on k after held_after few ahead held =
      let begins = r.begins in
      let to : end - left + k ≡ end - (left - k) = omega arith in
      record {
        held = subst (λ f. IsHeld (padded row) f after held_after) to held;
        ahead = omega arith;
        begins = omega arith;
        within = r.within;
        few = r.few;
        in_word = r.in_word;
        exact = r.exact;
      }

  -- what is left begins with the k bits that are taken
  pub taken_off : (ds : List Bool) (k : ℕ) → k ≤ left → ds ≡ slice_range (padded row) (end - left) (end - left + k) → slice_range row (end - left) end ≡ ds ++ slice_range row (end - (left - k)) end
  taken_off ds k few is =
      let begins = r.begins in
      let within = r.within in
      let to : end - left + k ≡ end - (left - k) = omega arith in
      subst (λ f. slice_range row (end - left) end ≡ ds ++ slice_range row f end) to
      (rest_parted row ds (end - left) k end (is ∙ padded_part row (end - left) (end - left + k) (omega arith)) (omega arith) (omega arith))

  -- 63 bits are held, of which a block has those after the ones that were held
  pub held_more : (block : ℕ) → have < 63 → have + 128 ≤ left → block < 2 ^ 64 → binary 64 block ≡ slice_range (padded row) (end - left + have) (end - left + have + 64) → IsReading row w n start left end 63 (window + block / 2 ^ (have + 1) * 2 ^ 1 % 2 ^ 64)
  held_more block few enough below next =
      let begins = r.begins in
      let within = r.within in
      let long = length-padded row in
      let fits : block / 2 ^ (have + 1) * 2 ^ 1 % 2 ^ 64 ≡ block / 2 ^ (have + 1) * 2 ^ 1 = part_fits block have below few in
      record {
        held = subst (λ k. IsHeld (padded row) (end - left) 63 (window + k)) (sym fits) (held_by_block (padded row) (end - left) have window block r.held few (omega arith) below next);
        ahead = omega arith;
        begins = begins;
        within = within;
        few = r.few;
        in_word = r.in_word;
        exact = r.exact;
      }

  -- k bits are passed
  pub passed_off : (k : ℕ) (old : Reading) → record { rest = slice_range row (end - left) end; position = end - left - start } ≡ old → k ≤ left → Passed k old (record { rest = slice_range row (end - (left - k)) end; position = end - (left - k) - start })
  passed_off k old is few =
      let begins = r.begins in
      let within = r.within in
      let to : end - left + k ≡ end - (left - k) = omega arith in
      let d = dropped row (end - left) k end (omega arith) (omega arith) in
      let after = ap (λ f. slice_range row f end) to in
      record {
        rest = sym after ∙ sym d.0 ∙ ap (λ v. drop k v.rest) is;
        position = (let e : end - (left - k) - start ≡ end - left - start + k = omega arith in e) ∙ ap (λ v. v.position + k) is;
        left = ap (λ l. length l + k) (sym after) ∙ d.1 ∙ ap (λ v. length v.rest) is;
      }

  -- the first k bits that are left
  pub seen_first : (k : ℕ) → k ≤ left → slice_range row (end - left) (end - left + k) ≡ take k (slice_range row (end - left) end)
  seen_first k few =
      let begins = r.begins in
      let within = r.within in
      let first : length (slice_range row (end - left) (end - left + k)) ≡ k = length-run row (end - left) k (omega arith) in
      sym (take_front k (slice_range row (end - left) (end - left + k)) (slice_range row (end - left + k) end) first) ∙ ap (take k) (slices_joined row (end - left) (end - left + k) end (omega arith) (omega arith) (omega arith))
