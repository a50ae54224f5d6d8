-- Numbers whose least significant digit comes first, in registers.
use Rattle.std.proofs.Common.{◌≡◌, ℕ, zero, suc, ◌+◌, ◌-◌, ◌*◌, ◌/◌, ◌%◌, ◌^◌, ◌<◌, ◌≤◌, Bool, true, false, cond, List, [], ◌∷◌, ◌++◌, ◌⊎◌, inl, inr, append-nil, append_assoc, length, nat_eq, take, slice_range, refl, sym, ◌∙◌, ap, subst, arith}
use Rattle.std.proofs.lemmas.List.{length-append}
use Rattle.std.proofs.lemmas.Nat.{div-mul-add, mod-mul-add, mod_below, pow-add}
use Rattle.std.proofs.Math.Pow.{pow_pos, pow_mono}
use Rattle.std.proofs.Math.Nat.{div-div-eq-div-mul, div-lt_iff_lt-mul, mod-eq_of_lt, mul-div_cancel, mul_comm}
use Rattle.bit_addressing.specs.Row.{number_bits}
use Rattle.bit_addressing.proofs.Runs.{mul_mono, slices_joined}
use Rattle.bit_rows.proofs.Binary.{bits_low, length-number_bits, number_bits_none}
use Rattle.bit_rows.proofs.Grown.{number_bits_parted}
use Rattle.bit_streams.specs.Streams.{IsLow}
use Rattle.bit_streams.proofs.Lists.{take_front}
use Rattle.bit_streams.proofs.Windows.{mod_scaled, parted_run, pow_parts, slice_empty}

-- digits of two numbers joined
pub bits_joined : (a b p x : ℕ) → p < 2 ^ a → number_bits (p + x % 2 ^ b * 2 ^ a) (a + b) ≡ number_bits p a ++ number_bits x b
bits_joined a b p x small =
    let y = p + x % 2 ^ b * 2 ^ a in
    let turn : y ≡ x % 2 ^ b * 2 ^ a + p = omega arith in
    let low : y % 2 ^ a ≡ p = ap (λ k. k % 2 ^ a) turn ∙ mod-mul-add (x % 2 ^ b) (2 ^ a) p small in
    let high : y / 2 ^ a ≡ x % 2 ^ b = ap (λ k. k / 2 ^ a) turn ∙ div-mul-add (x % 2 ^ b) (2 ^ a) p small in
    sym (number_bits_parted y a b (a + b) refl)
    ∙ ap (λ l. l ++ number_bits (y / 2 ^ a) b) (sym (bits_low a y) ∙ ap (λ k. number_bits k a) low)
    ∙ ap (λ l. number_bits p a ++ l) (ap (λ k. number_bits k b) high ∙ bits_low b x)

-- bits put in above others are a number below both powers
pub bits_joined_below : (a b p x : ℕ) → p < 2 ^ a → p + x % 2 ^ b * 2 ^ a < 2 ^ (a + b)
bits_joined_below a b p x small =
    let low = mod_below x (2 ^ b) (pow_pos b) in
    let most = mul_mono (x % 2 ^ b + 1) (2 ^ b) (2 ^ a) (omega arith) in
    let one : (x % 2 ^ b + 1) * 2 ^ a ≡ x % 2 ^ b * 2 ^ a + 2 ^ a = omega arith in
    let all : 2 ^ (a + b) ≡ 2 ^ a * 2 ^ b = pow-add 2 a b in
    let turn = mul_comm (2 ^ a) (2 ^ b) in
    omega arith

-- a shift of 64 bits cuts what passes them
pub shl_cut : (x a : ℕ) → a ≤ 64 → x * 2 ^ a % 2 ^ 64 ≡ x % 2 ^ (64 - a) * 2 ^ a
shl_cut x a few =
    ap (λ k. x * 2 ^ a % k) (pow_parts 64 (64 - a) a (omega arith)) ∙ mod_scaled x (2 ^ (64 - a)) (2 ^ a) (pow_pos (64 - a)) (pow_pos a)

-- a number filled up to 64 digits
pub bits_filled : (a p x : ℕ) → a < 64 → p < 2 ^ a → (number_bits (p + x * 2 ^ a % 2 ^ 64) 64 ≡ number_bits p a ++ number_bits x (64 - a)) × (p + x * 2 ^ a % 2 ^ 64 < 2 ^ 64)
bits_filled a p x few small =
    let cut = shl_cut x a (omega arith) in
    let all : a + (64 - a) ≡ 64 = omega arith in (
      ap (λ k. number_bits (p + k) 64) cut ∙ ap (number_bits (p + x % 2 ^ (64 - a) * 2 ^ a)) (sym all) ∙ bits_joined a (64 - a) p x small,
      subst (λ k. p + k < 2 ^ 64) (sym cut) (subst (λ n. p + x % 2 ^ (64 - a) * 2 ^ a < 2 ^ n) all (bits_joined_below a (64 - a) p x small)),
    )

-- two shifts, of which the second is by 1 or the first
pub two_shifts : (x k : ℕ) → 0 < k → (x / 2 ^ (k - 1) / 2 ^ 1 ≡ x / 2 ^ k) × (x / 2 ^ 1 / 2 ^ (k - 1) ≡ x / 2 ^ k)
two_shifts x k some = (
  div-div-eq-div-mul x (2 ^ (k - 1)) (2 ^ 1) ∙ ap (λ m. x / m) (sym (pow_parts k (k - 1) 1 (omega arith))),
  div-div-eq-div-mul x (2 ^ 1) (2 ^ (k - 1)) ∙ ap (λ m. x / m) (sym (pow_parts k 1 (k - 1) (omega arith))),
)

-- the lowest digits by two shifts
pub lowest_kept : (y n : ℕ) → n ≤ 64 → y * 2 ^ (64 - n) % 2 ^ 64 / 2 ^ (64 - n) ≡ y % 2 ^ n
lowest_kept y n few =
    let back : 64 - (64 - n) ≡ n = omega arith in
    ap (λ k. k / 2 ^ (64 - n)) (shl_cut y (64 - n) (omega arith) ∙ ap (λ k. y % 2 ^ k * 2 ^ (64 - n)) back) ∙ mul-div_cancel (y % 2 ^ n) (pow_pos (64 - n))

-- ---- a reader's register

-- no bits are held low before the first block
pub low_none : (row : List Bool) (from low : ℕ) → low < 2 ^ 0 → IsLow row from 0 low
low_none row from low small = record {
  digits = number_bits_none low ∙ sym (slice_empty row from (from + 0) (omega arith));
  small = small;
  few = omega arith;
}

-- where other bits are taken, none is held
pub low_stays : (row : List Bool) (from n have lows low : ℕ) → (have ≡ 0) ⊎ (lows ≡ 0) → n ≤ have → IsLow row from lows low → IsLow row (from + n) lows low
low_stays row from n have lows low (inl e) few held =
    let same : from ≡ from + n = omega arith in subst (λ f. IsLow row f lows low) same held
low_stays row from n have lows low (inr e) few held =
    subst (λ l. IsLow row (from + n) l low) (sym e) (low_none row (from + n) low (subst (λ l. low < 2 ^ l) e held.small))

-- the first n bits are taken
pub low_taken : (row : List Bool) (from lows low n : ℕ) → IsLow row from lows low → n ≤ lows → from + lows ≤ length row
    → (number_bits (low % 2 ^ n) n ≡ slice_range row from (from + n)) × IsLow row (from + n) (lows - n) (low / 2 ^ n)
low_taken row from lows low n held few room =
    let parted : slice_range row from (from + lows) ≡ number_bits low n ++ number_bits (low / 2 ^ n) (lows - n) = sym held.digits ∙ sym (number_bits_parted low n (lows - n) lows (omega arith)) in
    let first = length-number_bits low n in
    let parts = parted_run row (number_bits low n) (number_bits (low / 2 ^ n) (lows - n)) from (from + n) (from + lows) parted (omega arith) (omega arith) room (omega arith) in
    let end : from + lows ≡ from + n + (lows - n) = omega arith in
    let less : low < 2 ^ (lows - n) * 2 ^ n = subst (λ k. low < k) (pow_parts lows (lows - n) n (omega arith)) held.small in
    let was = held.few in (
      bits_low n low ∙ sym parts.0,
      record {
        digits = sym parts.1 ∙ ap (slice_range row (from + n)) end;
        small = (div-lt_iff_lt-mul (pow_pos n)).1 less;
        few = omega arith;
      },
    )

-- the next n bits are those that are held, and the first of a block
pub low_next : (row : List Bool) (from lows low n block ahead : ℕ) → IsLow row from lows low → lows < n → n ≤ 64 → from + lows + 64 ≤ length row → block < 2 ^ 64
    → number_bits block 64 ≡ slice_range row (from + lows) (from + lows + 64) → number_bits ahead 64 ≡ number_bits low lows ++ number_bits block (64 - lows)
    → (number_bits (ahead * 2 ^ (64 - n) % 2 ^ 64 / 2 ^ (64 - n)) n ≡ slice_range row from (from + n))
    × (ahead * 2 ^ (64 - n) % 2 ^ 64 / 2 ^ (64 - n) < 2 ^ n)
    × IsLow row (from + n) (64 - (n - lows)) (block / 2 ^ 1 / 2 ^ (n - lows - 1))
low_next row from lows low n block ahead held over few room below next filled =
    let need = n - lows in
    let cut = lowest_kept ahead n few in
    let shifts = (two_shifts block need (omega arith)).1 in
    let parted : slice_range row (from + lows) (from + lows + 64) ≡ number_bits block need ++ number_bits (block / 2 ^ need) (64 - need) = sym next ∙ sym (number_bits_parted block need (64 - need) 64 (omega arith)) in
    let size = length-number_bits block need in
    let parts = parted_run row (number_bits block need) (number_bits (block / 2 ^ need) (64 - need)) (from + lows) (from + n) (from + lows + 64) parted (omega arith) (omega arith) room (omega arith) in
    let end : from + lows + 64 ≡ from + n + (64 - need) = omega arith in
    let both : number_bits ahead n ≡ number_bits low lows ++ number_bits block need = first_digits in
    let less : block < 2 ^ (64 - need) * 2 ^ need = subst (λ k. block < k) (pow_parts 64 (64 - need) need (omega arith)) below in (
      ap (λ k. number_bits k n) cut ∙ bits_low n ahead ∙ both ∙ ap (λ l. l ++ number_bits block need) held.digits ∙ ap (λ l. slice_range row from (from + lows) ++ l) (sym parts.0)
          ∙ slices_joined row from (from + lows) (from + n) (omega arith) (omega arith) (omega arith),
      subst (λ k. k < 2 ^ n) (sym cut) (mod_below ahead (2 ^ n) (pow_pos n)),
      subst (λ k. IsLow row (from + n) (64 - need) k) (sym shifts) (record {
        digits = sym parts.1 ∙ ap (slice_range row (from + n)) end;
        small = (div-lt_iff_lt-mul (pow_pos need)).1 less;
        few = omega arith;
      }),
    )
  where
    first_digits : number_bits ahead n ≡ number_bits low lows ++ number_bits block (n - lows)
    first_digits =
        let long = length-number_bits ahead n in
        let start = length-number_bits low lows in
        let middle = length-number_bits block (n - lows) in
        let whole : number_bits ahead n ++ number_bits (ahead / 2 ^ n) (64 - n) ≡ (number_bits low lows ++ number_bits block (n - lows)) ++ number_bits (block / 2 ^ (n - lows)) (64 - n) =
        number_bits_parted ahead n (64 - n) 64 (omega arith) ∙ filled ∙ ap (λ l. number_bits low lows ++ l) (sym (number_bits_parted block (n - lows) (64 - n) (64 - lows) (omega arith)))
        ∙ sym (append_assoc (number_bits low lows) (number_bits block (n - lows)) (number_bits (block / 2 ^ (n - lows)) (64 - n))) in
        let sum : length (number_bits low lows ++ number_bits block (n - lows)) ≡ n = length-append (number_bits low lows) (number_bits block (n - lows)) ∙ omega arith in
        sym (take_front n (number_bits ahead n) (number_bits (ahead / 2 ^ n) (64 - n)) long) ∙ ap (take n) whole ∙ take_front n (number_bits low lows ++ number_bits block (n - lows)) (number_bits (block / 2 ^ (n - lows)) (64 - n)) sum

-- what is left of a number after its first digits
pub bits_rest : (n x rest : ℕ) → rest < n → rest < 64 → number_bits x n ≡ number_bits x (n - rest) ++ number_bits (x / 2 ^ (n - rest - 1) / 2 ^ 1 % 2 ^ rest) rest
bits_rest n x rest some few =
    let shifts = (two_shifts x (n - rest) (omega arith)).0 in
    sym (number_bits_parted x (n - rest) rest n (omega arith))
    ∙ ap (λ l. number_bits x (n - rest) ++ l) (ap (λ k. number_bits k rest) (sym shifts) ∙ sym (bits_low rest (x / 2 ^ (n - rest - 1) / 2 ^ 1)))

-- the number of one digit that a bit writes
pub lowest_digit : (b : Bool) → number_bits (cond b 1 0) 1 ≡ b ∷ []
unfolding number_bits
lowest_digit true = refl
lowest_digit false = refl

-- what a register computes, where nothing passes 64 digits
pub joined_fits_le : (a b p x low : ℕ) → a + b < 64 → p < 2 ^ a → low ≡ x % 2 ^ b → (p + low * 2 ^ a % 2 ^ 64 ≡ p + x % 2 ^ b * 2 ^ a) × (p + x % 2 ^ b * 2 ^ a < 2 ^ 64)
joined_fits_le a b p x low few small is =
    let below = bits_joined_below a b p x small in
    let most = pow_mono {i = a + b} {j = 64} (omega arith) in
    let whole : x % 2 ^ b * 2 ^ a % 2 ^ 64 ≡ x % 2 ^ b * 2 ^ a = mod-eq_of_lt (omega arith) in
    (ap (λ k. p + k * 2 ^ a % 2 ^ 64) is ∙ ap (λ k. p + k) whole, omega arith)

-- ---- a writer's last digits

-- none waits
pub no_tail : (list : List Bool) (x : ℕ) → list ++ number_bits x 0 ≡ list
no_tail list x = ap (λ l. list ++ l) (number_bits_none x) ∙ append-nil list

-- the length with the bits that wait is both lengths
pub with_tail : (list : List Bool) (tails tail : ℕ) → length (list ++ number_bits tail tails) ≡ length list + tails
with_tail list tails tail =
    let digits = length-number_bits tail tails in
    length-append list (number_bits tail tails) ∙ omega arith

-- a number of one bit is its bit
pub lowest_read : (x : ℕ) → x < 2 ^ 1 → number_bits x 1 ≡ nat_eq x 1 ∷ []
unfolding number_bits
lowest_read zero h = refl
lowest_read (suc zero) h = refl
lowest_read (suc (suc x)) h = absurd (omega arith)
