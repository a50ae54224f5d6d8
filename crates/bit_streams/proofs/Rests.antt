-- Golomb's codes: the rest by a number, and the quotient.
use Rattle.std.proofs.Common.{◌≡◌, ℕ, zero, suc, ◌+◌, ◌-◌, ◌*◌, ◌/◌, ◌%◌, ◌^◌, ◌<◌, ◌≤◌, Bool, true, false, cond, List, [], ◌∷◌, ◌++◌, append_assoc, refl, sym, ◌∙◌, ap, subst, inl, inr, arith}
use Rattle.std.proofs.Math.Nat.{div-lt_iff_lt-mul, mod-eq_of_lt}
use Rattle.std.proofs.lemmas.Bool.{cases_lt, lt-ltb, le-ltb}
use Rattle.std.proofs.lemmas.Nat.{div-mul-add, mod-mul-add, div-add-mod', mod_below, pow-add, pow_below}
use Rattle.bit_addressing.specs.Row.{binary}
use Rattle.bit_rows.proofs.Binary.{binary_parted}
use Rattle.bit_streams.specs.Codes.{golomb, rest_code, top_place, unary}
use Rattle.bit_streams.proofs.Coded.{top_is}
use Rattle.bit_streams.proofs.Lists.{bit_digit}

-- how many rests have a short code
pub short_is : (m top : ℕ) → 0 < m → m < 2 ^ 64 → top ≡ top_place m → (2 ^ top ≤ m) × (m < 2 ^ (top + 1)) × (2 ^ (top + 1) ≡ 2 ^ top * 2) × (top < 64)
short_is m top some below is =
    let t = top_is m some below in
    let next : suc top ≡ top + 1 = omega arith in
    (subst (λ k. 2 ^ k ≤ m) (sym is) t.1, subst (λ k. m < 2 ^ k) next (subst (λ k. m < 2 ^ suc k) (sym is) t.2), pow-add 2 top 1, subst (λ k. k < 64) (sym is) t.0)

-- a small remainder has the short code
pub short_rest : (m top short r : ℕ) → top ≡ top_place m → short ≡ 2 ^ (top + 1) - m → r < short → rest_code m r ≡ binary top r
short_rest m top short r is count h =
    let less : r < 2 ^ (top_place m + 1) - m = subst (λ k. r < 2 ^ (k + 1) - m) is (omega arith) in
    rw (lt-ltb r (2 ^ (top_place m + 1) - m) less) (ap (λ k. binary k r) (sym is))

-- a larger remainder has the long code
pub long_rest : (m top short r : ℕ) → top ≡ top_place m → short ≡ 2 ^ (top + 1) - m → short ≤ r → rest_code m r ≡ binary (top + 1) (r + short)
long_rest m top short r is count h =
    let same : 2 ^ (top_place m + 1) - m ≡ short = ap (λ k. 2 ^ (k + 1) - m) (sym is) ∙ sym count in
    let more : 2 ^ (top_place m + 1) - m ≤ r = omega arith in
    rw (le-ltb r (2 ^ (top_place m + 1) - m) more) (ap (λ k. binary (k + 1) (r + (2 ^ (top_place m + 1) - m))) (sym is) ∙ ap (λ s. binary (top + 1) (r + s)) same)

-- a digit more
pub digit_after : (n x : ℕ) (b : Bool) → binary (n + 1) (x * 2 + cond b 1 0) ≡ binary n x ++ b ∷ []
digit_after n x b =
    let low : cond b 1 0 < 2 ^ 1 = digit_below b in
    binary_parted n 1 (x * 2 + cond b 1 0)
    ∙ ap (λ h. binary n h ++ binary 1 ((x * 2 + cond b 1 0) % 2 ^ 1)) (div-mul-add x (2 ^ 1) (cond b 1 0) low)
    ∙ ap (λ l. binary n x ++ binary 1 l) (mod-mul-add x (2 ^ 1) (cond b 1 0) low)
    ∙ ap (λ l. binary n x ++ l) (bit_digit b)
  where
    digit_below : (b : Bool) → cond b 1 0 < 2 ^ 1
    digit_below true = let e : 2 ^ 1 ≡ 2 = refl in omega arith
    digit_below false = let e : 2 ^ 1 ≡ 2 = refl in omega arith

-- a number is twice its half, and a digit
pub parity : (y : ℕ) → (b : Bool) × (y ≡ y / 2 * 2 + cond b 1 0)
parity y = by_rest (y % 2) (mod_below y 2 (omega arith)) (div-add-mod' y 2)
  where
    by_rest : (r : ℕ) → r < 2 → y / 2 * 2 + r ≡ y → (b : Bool) × (y ≡ y / 2 * 2 + cond b 1 0)
    by_rest zero h e = (false, sym e)
    by_rest (suc zero) h e = (true, sym e)
    by_rest (suc (suc r)) h e = absurd (omega arith)

-- a long code read digit by digit is the remainder's
pub rest_found_long : (m top short r digit : ℕ) (b : Bool) (old mid new : List Bool) → top ≡ top_place m → short ≡ 2 ^ (top + 1) - m → short ≤ r → digit ≡ cond b 1 0 → old ≡ binary top r ++ mid → mid ≡ b ∷ new
    → old ≡ rest_code m (r - short + r + digit) ++ new
rest_found_long m top short r digit b old mid new is count h is_digit first next =
    let sum : r - short + r + digit + short ≡ r * 2 + digit = omega arith in
    let digits : binary (top + 1) (r - short + r + digit + short) ≡ binary top r ++ b ∷ [] = ap (binary (top + 1)) (sum ∙ ap (λ d. r * 2 + d) is_digit) ∙ digit_after top r b in
    first ∙ ap (λ l. binary top r ++ l) next ∙ sym (append_assoc (binary top r) (b ∷ []) new)
    ∙ ap (λ l. l ++ new) (sym digits ∙ sym (long_rest m top short (r - short + r + digit) is count (omega arith)))

-- a list that begins with the code of a rest begins with its first digits
pub record FirstDigits (top short x : ℕ) (old more : List Bool) : Type 0 where
  pub digits : ℕ
  pub tail : List Bool
  pub is : old ≡ binary top digits ++ tail
  pub below : digits < 2 ^ top
  pub short_is : x < short → (digits ≡ x) × (tail ≡ more)
  pub long_is : short ≤ x → (short ≤ digits) × ((b : Bool) × ((x + short ≡ digits * 2 + cond b 1 0) × (tail ≡ b ∷ more)))

-- the first digits of a remainder tell whether its code is short
pub first_digits : (m top short x : ℕ) (old more : List Bool) → 2 ^ top ≤ m → m < 2 ^ (top + 1) → 2 ^ (top + 1) ≡ 2 ^ top * 2 → top ≡ top_place m → short ≡ 2 ^ (top + 1) - m → x < m → old ≡ rest_code m x ++ more → FirstDigits top short x old more
first_digits m top short x old more least most double is count below e = elim (cases_lt x short) [
  | inl l ↦ record {
    digits = x;
    tail = more;
    is = e ∙ ap (λ c. c ++ more) (short_rest m top short x is count l);
    below = omega arith;
    short_is = λ h. (refl, refl);
    long_is = λ h. absurd (omega arith);
  }
  | inr l ↦
      let p = parity (x + short) in
      let b = p.0 in
      let half : ℕ = (x + short) / 2 in
      let sum : x + short ≡ half * 2 + cond b 1 0 = p.1 in
      let small = digit_small b in
      record {
        digits = half;
        tail = b ∷ more;
        is = e ∙ ap (λ c. c ++ more) (long_rest m top short x is count l ∙ ap (binary (top + 1)) sum ∙ digit_after top half b) ∙ append_assoc (binary top half) (b ∷ []) more;
        below = omega arith;
        short_is = λ h. absurd (omega arith);
        long_is = λ h. (let at : short ≤ half = omega arith in at, (b, (sum, refl)));
      }
]
  where
    digit_small : (b : Bool) → cond b 1 0 < 2
    digit_small true = omega arith
    digit_small false = omega arith

-- ---- the quotient

-- a Golomb code is the unary quotient and the remainder's code
pub golomb_joined : (m q r : ℕ) → r < m → golomb m (q * m + r) ≡ unary q ++ rest_code m r
golomb_joined m q r h = ap (λ k. unary k ++ rest_code m ((q * m + r) % m)) (div-mul-add q m r h) ∙ ap (λ k. unary q ++ rest_code m k) (mod-mul-add q m r h)

-- a quotient above the largest makes a product past the limit
pub product_past : (q a m : ℕ) → 0 < m → a / m < q → a < q * m
product_past q a m positive h = (div-lt_iff_lt-mul {k = m} {x = a} {y = q} positive).0 h

-- a 1 moved up by t is 2^t
pub one_shl : (t : ℕ) → t < 64 → 1 * 2 ^ t % 2 ^ 64 ≡ 2 ^ t
one_shl t few = ap (λ k. k % 2 ^ 64) (let e : 1 * 2 ^ t ≡ 2 ^ t = omega arith in e) ∙ mod-eq_of_lt (pow_below t 64 few)
