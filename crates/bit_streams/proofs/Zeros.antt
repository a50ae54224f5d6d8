-- Unary codes: written by whole numbers, and read bit by bit.
use Rattle.std.proofs.Common.{◌≡◌, ℕ, zero, suc, ◌+◌, ◌-◌, ◌*◌, ◌/◌, ◌%◌, ◌^◌, ◌<◌, ◌≤◌, Bool, true, false, List, [], ◌∷◌, ◌++◌, append_assoc, length, get_or, drop, replicate, refl, sym, ◌∙◌, ap, arith, inl, inr, eqb}
use Rattle.std.proofs.Math.Pow.{pow_mono}
use Rattle.std.proofs.Math.Nat.{div-eq_of_lt, mod-eq_of_lt}
use Rattle.std.proofs.lemmas.Bool.{cases_lt}
use Rattle.std.proofs.lemmas.List.{ext_get_or, length-append, length-replicate, get_or_append_left, get_or-append_right, get_or-replicate, drop_at}
use Rattle.std.proofs.lemmas.Nat.{div-add-mod', mod-mul-add, mod_below}
use Rattle.bit_addressing.specs.Bits.{has_bit}
use Rattle.bit_addressing.specs.Row.{binary}
use Rattle.bit_rows.proofs.Binary.{binary_low, binary_parted, get_or-binary, length-binary}
use Rattle.bit_streams.specs.Codes.{unary}
use Rattle.bit_streams.proofs.Lists.{heads, tails}

-- filling up to a multiple reaches it
pub aligned_at : (p m : ℕ) → 0 < m → (p + (m - p % m)) % m ≡ 0
aligned_at p m some =
    let low = mod_below p m some in
    let whole = div-add-mod' p m in
    let one : (p / m + 1) * m ≡ p / m * m + m = omega arith in
    let e : p + (m - p % m) ≡ (p / m + 1) * m + 0 = omega arith in
    ap (λ k. k % m) e ∙ mod-mul-add (p / m + 1) m 0 some

-- false bits after false bits are false bits
pub zeros_joined : (a b : ℕ) → replicate a false ++ replicate b false ≡ replicate (a + b) false
zeros_joined zero b = let e : 0 + b ≡ b = omega arith in rw e refl
zeros_joined (suc a) b = let e : suc a + b ≡ suc (a + b) = omega arith in rw e (ap (λ l. false ∷ l) (zeros_joined a b))

-- the digits of 0 are false bits
pub block_of_zeros : binary 64 0 ≡ replicate 64 false
unfolding binary
block_of_zeros = refl

-- one more block
pub more_zeros : (old now : List Bool) (k : ℕ) → now ≡ old ++ replicate (k * 64) false → now ++ binary 64 0 ≡ old ++ replicate ((k + 1) * 64) false
more_zeros old now k is =
    let next : k * 64 + 64 ≡ (k + 1) * 64 = omega arith in
    ap (λ l. l ++ binary 64 0) is ∙ append_assoc old (replicate (k * 64) false) (binary 64 0)
    ∙ ap (λ l. old ++ l) (ap (λ l. replicate (k * 64) false ++ l) block_of_zeros ∙ zeros_joined (k * 64) 64 ∙ ap (λ n. replicate n false) next)

-- equal lists that begin with unary numbers begin with the same one
pub same_unary : (a b : ℕ) (xs ys : List Bool) → unary a ++ xs ≡ unary b ++ ys → (a ≡ b) × (xs ≡ ys)
same_unary zero zero xs ys e = (refl, tails e)
same_unary zero (suc b) xs ys e = absurd (let h = heads e in cc)
same_unary (suc a) zero xs ys e = absurd (let h = heads e in cc)
same_unary (suc a) (suc b) xs ys e = let r = same_unary a b xs ys (tails e) in (ap suc r.0, r.1)

-- false bits alone begin with no unary number
pub no_one : (n q : ℕ) (ys : List Bool) → replicate n false ≡ unary q ++ ys → ⊥
no_one zero zero ys e = let l = ap length e in absurd (omega arith)
no_one zero (suc q) ys e = let l = ap length e in absurd (omega arith)
no_one (suc n) zero ys e = absurd (let h = heads e in cc)
no_one (suc n) (suc q) ys e = no_one n q ys (tails e)

-- false bits and then a true one are a unary number
pub one_passed : (old now rest : List Bool) (q : ℕ) → old ≡ replicate q false ++ now → now ≡ true ∷ rest → old ≡ unary q ++ rest
one_passed old now rest q is next = is ∙ ap (λ l. replicate q false ++ l) next ∙ sym (append_assoc (replicate q false) (true ∷ []) rest)

-- digits of 1: zeros and a one
digit_of_one : (i : ℕ) → has_bit 1 (suc i) ≡ false
digit_of_one i =
    let big : 2 ^ 1 ≤ 2 ^ suc i = pow_mono {i = 1} {j = suc i} (omega arith) in
    let none : 1 / 2 ^ suc i ≡ 0 = div-eq_of_lt (omega arith) in
    ap (λ k. eqb (k % 2) 1) none

-- the digits of 1 are a unary number
pub last_digits : (r : ℕ) → binary (r + 1) 1 ≡ unary r
last_digits r =
    let long = length-binary (r + 1) 1 in
    let zeros : length (replicate r false) ≡ r = length-replicate r false in
    let size : length (unary r) ≡ r + 1 = length-append (replicate r false) (true ∷ []) ∙ omega arith in
    ext_get_or false (binary (r + 1) 1) (unary r) (omega arith)
    (λ i h. elim (cases_lt i r) [
      | inl l ↦
          let back : r + 1 - 1 - i ≡ suc (r - 1 - i) = omega arith in
          get_or-binary (r + 1) 1 i (omega arith) ∙ ap (has_bit 1) back ∙ digit_of_one (r - 1 - i) ∙ sym (get_or-replicate r i false false l)
          ∙ sym (get_or_append_left (replicate r false) (true ∷ []) false i (omega arith))
      | inr l ↦
          let back : r + 1 - 1 - i ≡ 0 = omega arith in
          let here : i - r ≡ 0 = omega arith in
          get_or-binary (r + 1) 1 i (omega arith) ∙ ap (has_bit 1) back ∙ sym (ap (λ k. get_or (true ∷ []) k false) here)
          ∙ sym (get_or-append_right (replicate r false) (true ∷ []) r i false zeros l)
    ])

-- whole blocks of zeros, the rest of them, and the one
pub unary_written : (old now new : List Bool) (q k x n : ℕ) → now ≡ old ++ replicate (k * 64) false → k ≡ q / 64 → n ≡ q % 64 + 1 → new ≡ now ++ binary n 1 → new ≡ old ++ unary q
unary_written old now new q k x n is blocks rest last =
    let whole : k * 64 + q % 64 ≡ q = ap (λ b. b * 64 + q % 64) blocks ∙ div-add-mod' q 64 in
    last ∙ ap (λ l. l ++ binary n 1) is ∙ append_assoc old (replicate (k * 64) false) (binary n 1)
    ∙ ap (λ l. old ++ l) (ap (λ m. replicate (k * 64) false ++ binary m 1) rest ∙ ap (λ l. replicate (k * 64) false ++ l) (last_digits (q % 64))
    ∙ sym (append_assoc (replicate (k * 64) false) (replicate (q % 64) false) (true ∷ [])) ∙ ap (λ l. l ++ true ∷ []) (zeros_joined (k * 64) (q % 64) ∙ ap (λ m. replicate m false) whole))

-- ---- runs of one bit

reps_joined : (b : Bool) (a c : ℕ) → replicate a b ++ replicate c b ≡ replicate (a + c) b
reps_joined b zero c = let e : 0 + c ≡ c = omega arith in rw e refl
reps_joined b (suc a) c = let e : suc a + c ≡ suc (a + c) = omega arith in rw e (ap (λ l. b ∷ l) (reps_joined b a c))

filled_digits : (n x : ℕ) (b : Bool) → n ≤ 64 → binary 64 x ≡ replicate 64 b → binary n x ≡ replicate n b
filled_digits n x b few all =
    let to : 64 - n + n ≡ 64 = omega arith in
    let split : binary (64 - n) (x / 2 ^ n) ++ binary n (x % 2 ^ n) ≡ replicate (64 - n) b ++ replicate n b =
    sym (binary_parted (64 - n) n x) ∙ ap (λ k. binary k x) to ∙ all ∙ ap (λ k. replicate k b) (sym to) ∙ sym (reps_joined b (64 - n) n) in
    sym (binary_low n x) ∙ sym (drop_at (binary (64 - n) (x / 2 ^ n)) (binary n (x % 2 ^ n)) (64 - n) (length-binary (64 - n) (x / 2 ^ n)))
    ∙ ap (drop (64 - n)) split ∙ drop_at (replicate (64 - n) b) (replicate n b) (64 - n) (length-replicate (64 - n) b)

block_of_ones : binary 64 18446744073709551615 ≡ replicate 64 true
unfolding binary
block_of_ones = refl

-- n digits of 0 are false bits
pub zeros_of : (n : ℕ) → n ≤ 64 → binary n 0 ≡ replicate n false
zeros_of n few = filled_digits n 0 false few block_of_zeros

-- n digits of the largest number are true bits
pub ones_of : (n : ℕ) → n ≤ 64 → binary n 18446744073709551615 ≡ replicate n true
ones_of n few = filled_digits n 18446744073709551615 true few block_of_ones

-- where bits do not fill their words the filling is what is missing
pub some_pad : (l m over : ℕ) → 0 < m → over ≡ l % m → 0 < over → (m - l % m) % m ≡ m - over
some_pad l m over some is there = ap (λ k. (m - k) % m) (sym is) ∙ mod-eq_of_lt (omega arith)
