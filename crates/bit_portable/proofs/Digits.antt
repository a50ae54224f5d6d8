-- Numbers by their binary digits.
use Rattle.std.proofs.Common.{◌≡◌, ℕ, zero, suc, ◌+◌, ◌*◌, ◌/◌, ◌%◌, ◌^◌, ◌<◌, ◌≤◌, Bool, true, false, cond, nat_eq, List, [], ◌∷◌, length, get_or, map, refl, sym, ◌∙◌, ap, arith}
use Rattle.std.specs.List.{range_with_len}
use Rattle.std.specs.Int.RustNames.{count_ones}
use Rattle.std.proofs.lemmas.Bool.Decides.{nat_tests}
use Rattle.std.proofs.lemmas.Nat.{shr-shr, ones_cat}
use Rattle.std.proofs.Math.Nat.{pow-suc}
use Rattle.bit_portable.specs.Form.{digits}

-- bit i of a number
abbrev pub bit : ℕ → ℕ → Bool
bit n i = nat_eq (n / 2 ^ i % 2) 1

abbrev pub worth : Bool → ℕ
worth b = cond b 1 0

lowest : (b : Bool) (n : ℕ) → nat_eq ((worth b + 2 * n) / 2 ^ 0 % 2) 1 ≡ b
lowest true n = grind (arith, nat_tests)
lowest false n = grind (arith, nat_tests)

half : (b : Bool) (n : ℕ) → (worth b + 2 * n) / 2 ≡ n
half true n = omega arith
half false n = omega arith

next_bit : (m i : ℕ) → m / 2 ^ suc i ≡ m / 2 / 2 ^ i
next_bit m i = ap (λ (k : ℕ). m / 2 ^ k) (omega arith) ∙ sym (shr-shr m 1 i)

no_bits : (i : ℕ) → 0 / 2 ^ i ≡ 0
no_bits zero = refl
no_bits (suc i) = next_bit 0 i ∙ no_bits i

pub zero_bit : (i : ℕ) → bit 0 i ≡ false
zero_bit i = ap (λ (k : ℕ). nat_eq (k % 2) 1) (no_bits i)

-- digit i of a number is its bit i
pub digit_bit : (bs : List Bool) (i : ℕ) → bit (digits bs) i ≡ get_or bs i false
digit_bit [] i = zero_bit i
digit_bit (b ∷ bs) zero = lowest b (digits bs)
digit_bit (b ∷ bs) (suc i) = ap (λ (k : ℕ). nat_eq (k % 2) 1) (next_bit (worth b + 2 * digits bs) i ∙ ap (λ (k : ℕ). k / 2 ^ i) (half b (digits bs))) ∙ digit_bit bs i

pub digits_below : (bs : List Bool) → digits bs < 2 ^ length bs
digits_below [] = omega arith
digits_below (true ∷ bs) = let rest = digits_below bs in let e = pow-suc 2 (length bs) in omega arith
digits_below (false ∷ bs) = let rest = digits_below bs in let e = pow-suc 2 (length bs) in omega arith

-- how many are true
abbrev pub trues : List Bool → ℕ
trues [] = 0
trues (b ∷ bs) = worth b + trues bs

ones_zero : count_ones 0 ≡ 0
unfolding count_ones
ones_zero = refl

ones_one : count_ones 1 ≡ 1
unfolding count_ones
ones_one = refl

ones_of_worth : (b : Bool) (n : ℕ) → count_ones (worth b + 2 * n) ≡ worth b + count_ones n
ones_of_worth true n =
    let e : 1 + 2 * n ≡ n * 2 ^ 1 + 1 = omega arith in
    ap count_ones e ∙ ones_cat 1 n 1 (omega arith) ∙ omega (arith, ones_one)
ones_of_worth false n =
    let e : 0 + 2 * n ≡ n * 2 ^ 1 + 0 = omega arith in
    ap count_ones e ∙ ones_cat 1 n 0 (omega arith) ∙ omega (arith, ones_zero)

pub ones_of_digits : (bs : List Bool) → count_ones (digits bs) ≡ trues bs
ones_of_digits [] = ones_zero
ones_of_digits (b ∷ bs) = ones_of_worth b (digits bs) ∙ ap (λ (k : ℕ). worth b + k) (ones_of_digits bs)

-- a number has its bits as digits
shifted : (f : ℕ → Bool) (a n : ℕ) → map f (range_with_len (a + 1) n) ≡ map (λ i. f (i + 1)) (range_with_len a n)
shifted f a zero = refl
shifted f a (suc n) = ap (λ (t : List Bool). f (a + 1) ∷ t) (shifted f (a + 1) n)

pub mapped_same : (f g : ℕ → Bool) (a n : ℕ) → ((i : ℕ) → a ≤ i → i < a + n → f i ≡ g i) → map f (range_with_len a n) ≡ map g (range_with_len a n)
mapped_same f g a zero same = refl
mapped_same f g a (suc n) same = ap (λ (b : Bool). b ∷ map f (range_with_len (a + 1) n)) (same a (omega arith) (omega arith)) ∙ ap (λ (t : List Bool). g a ∷ t) (mapped_same f g (a + 1) n (λ i low high. same i (omega arith) (omega arith)))

low_worth : (w : ℕ) → worth (bit w 0) ≡ w % 2
low_worth w = grind (arith, nat_tests)

pub number_digits : (n w : ℕ) → w < 2 ^ n → digits (map (bit w) (range_with_len 0 n)) ≡ w
number_digits zero w below = omega arith
number_digits (suc n) w below =
    let e = pow-suc 2 n in
    let others : map (bit w) (range_with_len (0 + 1) n) ≡ map (bit (w / 2)) (range_with_len 0 n) =
    shifted (bit w) 0 n ∙ mapped_same (λ i. bit w (i + 1)) (bit (w / 2)) 0 n (λ i low high. ap (λ (k : ℕ). nat_eq (k % 2) 1) (ap (λ (k : ℕ). w / 2 ^ k) (omega arith) ∙ next_bit w i)) in
    let rest : digits (map (bit w) (range_with_len (0 + 1) n)) ≡ w / 2 = ap digits others ∙ number_digits n (w / 2) (omega arith) in
    ap (λ (k : ℕ). worth (bit w 0) + 2 * k) rest ∙ ap (λ (k : ℕ). k + 2 * (w / 2)) (low_worth w) ∙ omega arith
