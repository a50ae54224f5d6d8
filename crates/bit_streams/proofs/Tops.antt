-- Codes that stand whole in one number: a number's digits from its highest one on.
use Rattle.std.proofs.Common.{◌≡◌, ℕ, zero, suc, ◌+◌, ◌-◌, ◌*◌, ◌/◌, ◌%◌, ◌^◌, ◌<◌, ◌≤◌, Bool, false, true, List, [], ◌∷◌, ◌++◌, append_assoc, drop, length, replicate, take, refl, sym, ◌∙◌, ap, subst, arith}
use Rattle.std.proofs.Math.Nat.{div-lt_iff_lt-mul, le-div_iff_mul-le}
use Rattle.std.proofs.Math.Pow.{pow_pos, pow_mono}
use Rattle.std.proofs.lemmas.List.{drop_at, length-append, length-replicate, take-append-drop}
use Rattle.std.proofs.lemmas.Nat.{div-add-mod', leading_top, mod_below, pow-add}
use Rattle.std.specs.Int.{w64, leading_zeros}
use Rattle.bit_addressing.specs.Row.{binary}
use Rattle.bit_rows.proofs.Binary.{binary_low, binary_parted, length-binary}
use Rattle.bit_streams.specs.Codes.{gamma, top_place, unary}
use Rattle.bit_streams.proofs.Coded.{first_digit, gamma_joined, gamma_parted, parts_opened, top_is}
use Rattle.bit_streams.proofs.Lists.{reads_back}
use Rattle.bit_streams.proofs.Zeros.{last_digits, same_unary}

-- a number between a power and the next has that power once
once : (x k : ℕ) → 2 ^ k ≤ x → x < 2 ^ (k + 1) → x / 2 ^ k ≡ 1
once x k low high =
    let double : 2 ^ (k + 1) ≡ 2 ^ k * 2 = pow-add 2 k 1 in
    let less : x / 2 ^ k < 2 = (div-lt_iff_lt-mul (pow_pos k)).1 (omega arith) in
    let some : 1 ≤ x / 2 ^ k = (le-div_iff_mul-le (pow_pos k)).1 (omega arith) in
    omega arith

-- n digits of a number are zeros, its highest digit, and the digits after it
pub digits_from_top : (n t x : ℕ) → t < n → 2 ^ t ≤ x → x < 2 ^ (t + 1) → binary n x ≡ unary (n - 1 - t) ++ binary t x
digits_from_top n t x inside low high =
    let parts : n ≡ n - 1 - t + 1 + t = omega arith in
    ap (λ k. binary k x) parts ∙ binary_parted (n - 1 - t + 1) t x
    ∙ ap (λ q. binary (n - 1 - t + 1) q ++ binary t (x % 2 ^ t)) (once x t low high)
    ∙ ap (λ l. l ++ binary t (x % 2 ^ t)) (last_digits (n - 1 - t))
    ∙ ap (λ l. unary (n - 1 - t) ++ l) (binary_low t x)

-- as many digits as a gamma code has are that code
pub gamma_digits : (x : ℕ) → 0 < x → x < 2 ^ 64 → binary (2 * top_place x + 1) x ≡ gamma x
gamma_digits x some below =
    let t = top_place x in
    let top = top_is x some below in
    let high : x < 2 ^ (t + 1) = subst (λ k. x < 2 ^ k) (let e : suc t ≡ t + 1 = omega arith in e) top.2 in
    let zeros : 2 * t + 1 - 1 - t ≡ t = omega arith in
    digits_from_top (2 * t + 1) t x (omega arith) top.1 high ∙ ap (λ k. unary k ++ binary t x) zeros

-- a unary number is one longer than its zeros
length-unary : (z : ℕ) → length (unary z) ≡ z + 1
length-unary z = length-append (replicate z false) (true ∷ []) ∙ ap (λ k. k + 1) (length-replicate z false)

-- the zeros before the highest digit of 64, and its place
pub record Leads (block zeros : ℕ) : Type 0 where
  pub few : zeros < 64
  pub low : 2 ^ (63 - zeros) ≤ block
  pub high : block < 2 ^ (63 - zeros + 1)

-- what the count of leading zeros says
pub leads : (block zeros : ℕ) → 0 < block → block < 2 ^ 64 → zeros ≡ leading_zeros w64 block → Leads block zeros
leads block zeros some below is =
    let t = leading_top 64 block some below in
    let sum : leading_zeros w64 block + suc t.0 ≡ 64 = t.1 in
    let place : t.0 ≡ 63 - zeros = omega arith in
    record {
      few = omega arith;
      low = subst (λ k. 2 ^ k ≤ block) place t.2;
      high = subst (λ k. block < 2 ^ k) (let e : suc t.0 ≡ 63 - zeros + 1 = omega arith in e) t.3;
    }

-- 64 bits with fewer than 64 zeros before a one are not all zeros
pub not_all_zeros : (block count : ℕ) → count ≡ leading_zeros w64 block → count < 64 → 0 < block
unfolding lib.Count.count_leading_zeros
not_all_zeros zero count is few = absurd (let e : leading_zeros w64 0 ≡ 64 = refl in omega arith)
not_all_zeros (suc n) count is few = omega arith

-- a list whose first items begin with a code begins with it
begins : (n k : ℕ) (code tail old : List Bool) → take n old ≡ code ++ tail → length code ≡ k → old ≡ code ++ drop k old
begins n k code tail old is size =
    let whole : old ≡ code ++ (tail ++ drop n old) = sym (take-append-drop n old) ∙ ap (λ l. l ++ drop n old) is ∙ append_assoc code tail (drop n old) in
    let rest : drop k old ≡ tail ++ drop n old = ap (drop k) whole ∙ drop_at code (tail ++ drop n old) k size in
    whole ∙ ap (λ l. code ++ l) (sym rest)

-- zeros and a one come first where the next 64 bits have a one
pub unary_first : (block zeros : ℕ) (old new : List Bool) → 0 < block → block < 2 ^ 64 → zeros ≡ leading_zeros w64 block → binary 64 block ≡ take 64 old → new ≡ drop (zeros + 1) old → old ≡ unary zeros ++ new
unary_first block zeros old new some below is bits rest =
    let l = leads block zeros some below is in
    let few = l.few in
    let t = 63 - zeros in
    let back : 64 - 1 - t ≡ zeros = omega arith in
    begins 64 (zeros + 1) (unary zeros) (binary t block) old (sym bits ∙ digits_from_top 64 t block (omega arith) l.low l.high ∙ ap (λ k. unary k ++ binary t block) back) (length-unary zeros)
    ∙ ap (λ l. unary zeros ++ l) (sym rest)

-- what the next 64 bits say of a gamma code that stands in them
pub record GammaFirst (x : ℕ) (old new : List Bool) : Type 0 where
  pub is : old ≡ gamma x ++ new
  pub some : 0 < x
  pub below : x < 2 ^ 64

-- the gamma code of up to 32 digits that comes first
pub gamma_first : (block zeros : ℕ) (old new : List Bool) → 0 < block → block < 2 ^ 64 → zeros ≡ leading_zeros w64 block → zeros < 32 → binary 64 block ≡ take 64 old → new ≡ drop (2 * zeros + 1) old → GammaFirst (block / 2 ^ (63 - 2 * zeros)) old new
gamma_first block zeros old new some below is few bits rest =
    let l = leads block zeros some below is in
    let t = 63 - zeros in
    let s = 63 - 2 * zeros in
    let x = block / 2 ^ s in
    let apart : t ≡ zeros + s = omega arith in
    let lower : 2 ^ t ≡ 2 ^ zeros * 2 ^ s = ap (λ k. 2 ^ k) apart ∙ pow-add 2 zeros s in
    let upper : 2 ^ (t + 1) ≡ 2 ^ (zeros + 1) * 2 ^ s = ap (λ k. 2 ^ k) (let e : t + 1 ≡ zeros + 1 + s = omega arith in e) ∙ pow-add 2 (zeros + 1) s in
    let low : 2 ^ zeros ≤ x = (le-div_iff_mul-le (pow_pos s)).1 (subst (λ k. k ≤ block) lower l.low) in
    let high : x < 2 ^ (zeros + 1) = (div-lt_iff_lt-mul (pow_pos s)).1 (subst (λ k. block < k) upper l.high) in
    let whole : 1 * 2 ^ zeros + x % 2 ^ zeros ≡ x = ap (λ q. q * 2 ^ zeros + x % 2 ^ zeros) (sym (once x zeros low high)) ∙ div-add-mod' x (2 ^ zeros) in
    let code : gamma x ≡ unary zeros ++ binary zeros x = ap gamma (sym whole) ∙ gamma_joined zeros x (omega arith) in
    let tail = binary s (block % 2 ^ s) in
    let back : 64 - 1 - t ≡ zeros = omega arith in
    let digits : binary 64 block ≡ gamma x ++ tail = digits_from_top 64 t block (omega arith) l.low l.high
    ∙ ap (λ k. unary k ++ binary t block) back
    ∙ ap (λ k. unary zeros ++ binary k block) apart
    ∙ ap (λ l. unary zeros ++ l) (binary_parted zeros s block)
    ∙ sym (append_assoc (unary zeros) (binary zeros x) tail)
    ∙ ap (λ l. l ++ tail) (sym code) in
    let one = length-unary zeros in
    let more = length-binary zeros x in
    let size : length (gamma x) ≡ 2 * zeros + 1 = ap length code ∙ length-append (unary zeros) (binary zeros x) ∙ omega arith in
    let positive = pow_pos zeros in
    let most = pow_mono {i = zeros + 1} {j = 64} (omega arith) in
    record {
      is = begins 64 (2 * zeros + 1) (gamma x) tail old (sym bits ∙ digits) size ∙ ap (λ l. gamma x ++ l) (sym rest);
      some = omega arith;
      below = omega arith;
    }

-- equal lists that begin with gamma codes begin with that of the same number
pub same_gamma : (x y : ℕ) (xs ys : List Bool) → 0 < x → x < 2 ^ 64 → 0 < y → y < 2 ^ 64 → gamma x ++ xs ≡ gamma y ++ ys → (x ≡ y) × (xs ≡ ys)
same_gamma x y xs ys some below other under e =
    let p = top_place x in
    let q = top_place y in
    let l = binary p (x % 2 ^ p) ++ xs in
    let opened : unary p ++ l ≡ unary q ++ (binary q (y % 2 ^ q) ++ ys) = sym (parts_opened (gamma x ++ xs) xs (unary p) (binary p (x % 2 ^ p)) (gamma x) refl (gamma_parted x))
    ∙ e ∙ parts_opened (gamma y ++ ys) ys (unary q) (binary q (y % 2 ^ q)) (gamma y) refl (gamma_parted y) in
    let u = same_unary p q l (binary q (y % 2 ^ q) ++ ys) opened in
    let a = reads_back p (x % 2 ^ p) l xs refl (mod_below x (2 ^ p) (pow_pos p)) in
    let b = reads_back p (y % 2 ^ p) l ys (u.1 ∙ ap (λ k. binary k (y % 2 ^ k) ++ ys) (sym u.0)) (mod_below y (2 ^ p) (pow_pos p)) in (
      sym (first_digit x some below) ∙ ap (λ k. 1 * 2 ^ p + k % 2 ^ p) (sym a.0 ∙ b.0) ∙ ap (λ k. 1 * 2 ^ k + y % 2 ^ k % 2 ^ k) u.0 ∙ first_digit y other under,
      sym a.1 ∙ b.1,
    )
