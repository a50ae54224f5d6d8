-- Codes of numbers: what is written is one of them, and which number a list that begins with one has.
use Rattle.std.proofs.Common.{◌≡◌, ℕ, zero, suc, ◌+◌, ◌-◌, ◌*◌, ◌/◌, ◌%◌, ◌^◌, ◌<◌, ◌≤◌, Bool, List, ◌++◌, append_assoc, refl, sym, ◌∙◌, ap, subst, arith}
use Rattle.std.proofs.Math.Pow.{pow_pos}
use Rattle.std.proofs.Math.Nat.{mod-eq_of_lt, div-lt_iff_lt-mul, le-div_iff_mul-le}
use Rattle.std.proofs.lemmas.Nat.{div-mul-add, mod-mul-add, div-add-mod', mod_below, pow-add, leading_top}
use Rattle.std.specs.Int.{w64, leading_zeros}
use Rattle.std.specs.Int.Count.{leading_unique}
use Rattle.bit_addressing.specs.Row.{binary}
use Rattle.bit_rows.proofs.Binary.{binary_low}
use Rattle.bit_streams.specs.Codes.{delta, gamma, rice, top_place, unary}

-- the digits after the first ones
pub digits_joined : (k q r : ℕ) → binary k (q * 2 ^ k + r % 2 ^ k) ≡ binary k r
digits_joined k q r =
    sym (binary_low k (q * 2 ^ k + r % 2 ^ k))
    ∙ ap (binary k) (mod-mul-add q (2 ^ k) (r % 2 ^ k) (mod_below r (2 ^ k) (pow_pos k)))
    ∙ binary_low k r

-- two parts, one after the other
pub both_parts : (old mid new xs ys code : List Bool) → old ≡ xs ++ mid → mid ≡ ys ++ new → code ≡ xs ++ ys → old ≡ code ++ new
both_parts old mid new xs ys code first second is = first ∙ ap (λ l. xs ++ l) second ∙ sym (append_assoc xs ys new) ∙ ap (λ l. l ++ new) (sym is)

-- a code of two parts, opened
pub parts_opened : (old more xs ys code : List Bool) → old ≡ code ++ more → code ≡ xs ++ ys → old ≡ xs ++ (ys ++ more)
parts_opened old more xs ys code is parts = is ∙ ap (λ l. l ++ more) parts ∙ append_assoc xs ys more

-- ---- Rice's code

-- a Rice code is the unary quotient and the remainder's digits
pub rice_joined : (k q r : ℕ) → rice k (q * 2 ^ k + r % 2 ^ k) ≡ unary q ++ binary k r
rice_joined k q r =
    ap (λ u. unary u ++ binary k (q * 2 ^ k + r % 2 ^ k)) (div-mul-add q (2 ^ k) (r % 2 ^ k) (mod_below r (2 ^ k) (pow_pos k)))
    ∙ ap (λ l. unary q ++ l) (digits_joined k q r)

-- the Rice code of a number, by its quotient and remainder
pub rice_parted : (k x : ℕ) → rice k x ≡ unary (x / 2 ^ k) ++ binary k (x % 2 ^ k)
rice_parted k x = ap (λ l. unary (x / 2 ^ k) ++ l) (sym (binary_low k x))

-- the remainder of a remainder is itself
pub low_twice : (k x : ℕ) → x % 2 ^ k % 2 ^ k ≡ x % 2 ^ k
low_twice k x = mod-eq_of_lt (mod_below x (2 ^ k) (pow_pos k))

-- a number is its quotient and its rest
pub number_joined : (k x : ℕ) → x / 2 ^ k * 2 ^ k + x % 2 ^ k % 2 ^ k ≡ x
number_joined k x = ap (λ r. x / 2 ^ k * 2 ^ k + r) (low_twice k x) ∙ div-add-mod' x (2 ^ k)

-- a quotient at most the largest fits its digits
pub quotient_fits : (k q : ℕ) → k < 64 → q ≤ 18446744073709551615 / 2 ^ k → q < 2 ^ (64 - k)
quotient_fits k q few h =
    let whole : 2 ^ (64 - k) * 2 ^ k ≡ 2 ^ 64 = sym (pow-add 2 (64 - k) k) ∙ ap (λ e. 2 ^ e) (let e : 64 - k + k ≡ 64 = omega arith in e) in
    let most : 18446744073709551615 / 2 ^ k < 2 ^ (64 - k) = (div-lt_iff_lt-mul (pow_pos k)).1 (subst (λ e. 18446744073709551615 < e) (sym whole) (omega arith)) in
    omega arith

-- a quotient above the largest makes a number past 64 bits
pub quotient_past : (k q : ℕ) → 18446744073709551615 / 2 ^ k < q → 2 ^ 64 ≤ q * 2 ^ k
quotient_past k q h =
    let past = (div-lt_iff_lt-mul {k = 2 ^ k} {x = 18446744073709551615} {y = q} (pow_pos k)).0 h in
    omega arith

-- a quotient at most the largest makes a number of 64 bits
pub quotient_below : (k q : ℕ) → q ≤ 18446744073709551615 / 2 ^ k → q * 2 ^ k < 2 ^ 64
quotient_below k q h =
    let most = (le-div_iff_mul-le {k = 2 ^ k} {x = q} {y = 18446744073709551615} (pow_pos k)).0 h in
    omega arith

-- ---- Elias's codes

-- the place of a number's highest digit
pub top_is : (x : ℕ) → 0 < x → x < 2 ^ 64 → (top_place x < 64) × (2 ^ top_place x ≤ x) × (x < 2 ^ suc (top_place x))
top_is x some below =
    let t = leading_top 64 x some below in
    let j = t.0 in
    let sum : leading_zeros w64 x + suc j ≡ 64 = t.1 in
    let is : top_place x ≡ j = omega arith in (
      let few : j < 64 = omega arith in subst (λ k. k < 64) (sym is) few,
      subst (λ k. 2 ^ k ≤ x) (sym is) t.2,
      subst (λ k. x < 2 ^ suc k) (sym is) t.3,
    )

-- the highest bit of 2^t plus a remainder is t
pub top_of_joined : (t r : ℕ) → t < 64 → top_place (1 * 2 ^ t + r % 2 ^ t) ≡ t
top_of_joined t r few =
    let low = mod_below r (2 ^ t) (pow_pos t) in
    let double : 2 ^ (t + 1) ≡ 2 ^ t * 2 = pow-add 2 t 1 in
    let count : 63 - t ≡ leading_zeros w64 (1 * 2 ^ t + r % 2 ^ t) = leading_unique 64 (1 * 2 ^ t + r % 2 ^ t) (63 - t) (t + 1) (omega arith) (omega arith) (omega arith) in
    omega arith

-- a gamma code is its unary length and the digits below the highest bit
pub gamma_joined : (t r : ℕ) → t < 64 → gamma (1 * 2 ^ t + r % 2 ^ t) ≡ unary t ++ binary t r
gamma_joined t r few =
    ap (λ k. unary k ++ binary k (1 * 2 ^ t + r % 2 ^ t)) (top_of_joined t r few) ∙ ap (λ l. unary t ++ l) (digits_joined t 1 r)

-- the gamma code of a number, by its highest bit and the rest
pub gamma_parted : (x : ℕ) → gamma x ≡ unary (top_place x) ++ binary (top_place x) (x % 2 ^ top_place x)
gamma_parted x = ap (λ l. unary (top_place x) ++ l) (sym (binary_low (top_place x) x))

-- the first digit, and those after it
pub first_digit : (x : ℕ) → 0 < x → x < 2 ^ 64 → 1 * 2 ^ top_place x + x % 2 ^ top_place x % 2 ^ top_place x ≡ x
first_digit x some below =
    let t = top_is x some below in
    let p = top_place x in
    let double : 2 ^ (p + 1) ≡ 2 ^ p * 2 = pow-add 2 p 1 in
    let up : x < 2 ^ (p + 1) = subst (λ k. x < 2 ^ k) (let e : suc p ≡ p + 1 = omega arith in e) t.2 in
    let lower : 1 * 2 ^ p ≤ x = (let h = t.1 in omega arith) in
    let d = div-add-mod' x (2 ^ p) in
    let less : x / 2 ^ p < 2 = (div-lt_iff_lt-mul (pow_pos p)).1 (omega arith) in
    let one : x / 2 ^ p ≡ 1 = first_quotient x (2 ^ p) (pow_pos p) less (omega arith) in
    ap (λ r. 1 * 2 ^ p + r) (low_twice p x) ∙ ap (λ q. q * 2 ^ p + x % 2 ^ p) (sym one) ∙ d
  where
    first_quotient : (a m : ℕ) → 0 < m → a / m < 2 → m ≤ a → a / m ≡ 1
    first_quotient a m positive less some =
        let d = div-add-mod' a m in
        let r = mod_below a m positive in
        not_zero (a / m) (a % m) a m d r less some
      where
        not_zero : (q r a m : ℕ) → q * m + r ≡ a → r < m → q < 2 → m ≤ a → q ≡ 1
        not_zero zero r a m e h less some = absurd (omega arith)
        not_zero (suc zero) r a m e h less some = refl
        not_zero (suc (suc q)) r a m e h less some = absurd (omega arith)

-- a delta code is the gamma code of its length and the digits below the highest bit
pub delta_joined : (t r : ℕ) → t < 64 → delta (1 * 2 ^ t + r % 2 ^ t) ≡ gamma (t + 1) ++ binary t r
delta_joined t r few =
    ap (λ k. gamma (k + 1) ++ binary k (1 * 2 ^ t + r % 2 ^ t)) (top_of_joined t r few) ∙ ap (λ l. gamma (t + 1) ++ l) (digits_joined t 1 r)

-- the delta code of a number, by its highest bit and the rest
pub delta_parted : (x : ℕ) → delta x ≡ gamma (top_place x + 1) ++ binary (top_place x) (x % 2 ^ top_place x)
delta_parted x = ap (λ l. gamma (top_place x + 1) ++ l) (sym (binary_low (top_place x) x))
