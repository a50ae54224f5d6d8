-- Orders of the bits in a word, and the test by which an order proves its law.
use Rattle.std.specs.Prelude.{◌≡◌, ℕ, ◌-◌, ◌<◌, Bool, true, not, ◌&&◌, ◌||◌, eqb, ltb, zero, suc, refl}
use Rattle.std.proofs.Common.{inl, inr, subst, sym, arith}
use Rattle.std.proofs.lemmas.Bool.Decides.{Decides-below_and, Decides-ltb, nat_tests}
use Rattle.bit_addressing.specs.Bits.{IsWidth}

-- the indices below w go to different places below w
pub record IsPermutation (w : ℕ) (place : ℕ → ℕ) : Type 0 where
  pub in_range : (i : ℕ) → i < w → place i < w
  pub apart : (i j : ℕ) → i < w → j < w → place i ≡ place j → i ≡ j

-- a function from widths and indices to places is a permutation at each width
abbrev pub IsLawful : (ℕ → ℕ → ℕ) → Type 0
IsLawful place = (w : ℕ) → IsWidth w → IsPermutation w (place w)

pub lsb0_lawful : IsLawful (λ w i. i)
lsb0_lawful w _ = record { in_range = λ i h. h; apart = λ i j h k e. e }

pub msb0_lawful : IsLawful (λ w i. w - 1 - i)
msb0_lawful w _ = record { in_range = λ i h. omega arith; apart = λ i j h k e. omega arith }

-- ---- an order that a user writes: `lawful_by_test place refl refl refl refl`

-- a test holds of each number below n
abbrev pub all_below : (ℕ → Bool) → ℕ → Bool
all_below p zero = true
all_below p (suc n) = p n && all_below p n

-- two indices are one, or their places differ
abbrev pub apart_at : (ℕ → ℕ) → ℕ → ℕ → Bool
apart_at place i j = eqb i j || not (eqb (place i) (place j))

-- the places of the indices below w are below w, and differ
abbrev pub permutes : ℕ → (ℕ → ℕ) → Bool
permutes w place = all_below (λ i. ltb (place i) w) w && all_below (λ i. all_below (apart_at place i) w) w

-- a test that holds of each number below n
pub below_tells : (p : ℕ → Bool) (n : ℕ) → all_below p n ≡ true → (k : ℕ) → k < n → p k ≡ true
below_tells p n = (Decides-below_and p (λ k. p k ≡ true) (all_below p) (λ k. (λ e. e, λ e. e)) refl (λ _. refl) n).0

apart_tells : (place : ℕ → ℕ) (i j : ℕ) → apart_at place i j ≡ true → place i ≡ place j → i ≡ j
apart_tells place i j e s = grind (arith, nat_tests)

pub permutes_tells : (w : ℕ) (place : ℕ → ℕ) → permutes w place ≡ true → IsPermutation w place
permutes_tells w place e =
    let both : (all_below (λ i. ltb (place i) w) w ≡ true) × (all_below (λ i. all_below (apart_at place i) w) w ≡ true) = grind arith in
    record {
      in_range = λ i h. (Decides-ltb (place i) w).0 (below_tells (λ k. ltb (place k) w) w both.0 i h);
      apart = λ i j h k s. apart_tells place i j (below_tells (apart_at place i) w (below_tells (λ n. all_below (apart_at place n) w) w both.1 i h) j k) s;
    }

-- an order whose places pass the test at each of the four widths is lawful
pub lawful_by_test : (place : ℕ → ℕ → ℕ) → permutes 8 (place 8) ≡ true → permutes 16 (place 16) ≡ true → permutes 32 (place 32) ≡ true → permutes 64 (place 64) ≡ true → IsLawful place
lawful_by_test place at_8 at_16 at_32 at_64 w width = elim width [
  | inl e ↦ subst (λ n. IsPermutation n (place n)) (sym e) (permutes_tells 8 (place 8) at_8)
  | inr wider ↦ elim wider [
    | inl e ↦ subst (λ n. IsPermutation n (place n)) (sym e) (permutes_tells 16 (place 16) at_16)
    | inr widest ↦ elim widest [
      | inl e ↦ subst (λ n. IsPermutation n (place n)) (sym e) (permutes_tells 32 (place 32) at_32)
      | inr e ↦ subst (λ n. IsPermutation n (place n)) (sym e) (permutes_tells 64 (place 64) at_64)
    ]
  ]
]
