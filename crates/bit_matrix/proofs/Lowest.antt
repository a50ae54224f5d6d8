-- The lowest set bit of a word, and what is left of the others.
use Rattle.std.proofs.Common.{◌≡◌, ℕ, ◌+◌, ◌-◌, ◌*◌, ◌/◌, ◌%◌, ◌^◌, ◌<◌, Bool, true, false, not, ◌&&◌, ◌||◌, ◌⊎◌, eqb, inl, inr, refl, sym, ◌∙◌, ap, arith, bit_and, bit_or, w64, lit<}
use Rattle.std.proofs.lemmas.Bool.{cases_lt, true≢false}
use Rattle.std.proofs.lemmas.Bool.Decides.{eqb_tells}
use Rattle.std.proofs.lemmas.Nat.{and-not, and_comm, or_lt}
use Rattle.std.proofs.lemmas.Nat.Bits.{bit_at-trailing_zeros}
use Rattle.std.specs.Int.{bit_not, trailing_zeros}
use Rattle.bit_addressing.specs.Bits.{has_bit}
use Rattle.bit_addressing.proofs.Words.{has_above, has_and, has_none, has_not, has_or, has_shl_high, has_shl_low}

-- the lowest bit of a number above 0 is below place 64
pub lowest_inside : (n : ℕ) → n < 2 ^ 64 → 0 < n → trailing_zeros w64 n < 64
lowest_inside n fits some = (bit_at-trailing_zeros w64 n some fits).0

-- the lowest bit of a number above 0 is set
pub lowest_set : (n : ℕ) → n < 2 ^ 64 → 0 < n → has_bit n (trailing_zeros w64 n) ≡ true
lowest_set n fits some = ap (λ m. eqb m 1) (bit_at-trailing_zeros w64 n some fits).1

-- a word with one bit
abbrev one_at : ℕ → ℕ
one_at k = 1 * 2 ^ k % 2 ^ 64

one_fits : (k : ℕ) → one_at k < 2 ^ 64
one_fits k = let some : 0 < 2 ^ 64 = lit< tt in omega arith

has_one : (k p : ℕ) → k < 64 → p < 64 → has_bit (one_at k) p ≡ eqb p k
has_one k p inside below = elim (eqb_tells p k) [
  | inl e ↦
      let none : p - k ≡ 0 = (let h = e.1 in omega arith) in
      has_shl_high 64 1 k p (let h = e.1 in omega arith) below ∙ ap (has_bit 1) none ∙ sym e.0
  | inr e ↦ elim (cases_lt p k) [
    | inl l ↦ has_shl_low 64 1 k p l inside ∙ sym e.0
    | inr l ↦ has_shl_high 64 1 k p l below ∙ has_above 1 1 (p - k) (lit< tt) (let h = e.1 in omega arith) ∙ sym e.0
  ]
]

-- what is left of a word's set bits without the one at k and those of another word
module _ (chunk k covered : ℕ) (fits : chunk < 2 ^ 64) (within : covered < 2 ^ 64) (inside : k < 64) where
  gone : ℕ
  gone = bit_or (one_at k) covered

  gone_fits : gone < 2 ^ 64
  unfolding gone
  gone_fits = or_lt 64 (one_at k) covered (one_fits k) within

  has_gone : (p : ℕ) → p < 64 → has_bit gone p ≡ (eqb p k || has_bit covered p)
  unfolding gone
  has_gone p below = has_or (one_at k) covered p ∙ ap (λ b. b || has_bit covered p) (has_one k p inside below)

  -- what is left of a chunk is what is neither the bit just taken nor covered
  pub has_left : (p : ℕ) → has_bit (bit_and chunk (bit_not w64 (bit_or (1 * 2 ^ k % 2 ^ 64) covered))) p ≡ (has_bit chunk p && not (eqb p k || has_bit covered p))
  unfolding gone
  has_left p = has_and chunk (bit_not w64 gone) p ∙ elim (cases_lt p 64) [
    | inl below ↦ ap (λ b. has_bit chunk p && b) (has_not w64 gone p gone_fits below ∙ ap not (has_gone p below))
    | inr above ↦
        let none : has_bit chunk p ≡ false = has_above chunk 64 p fits above in
        rw none refl
  ]

  -- each turn leaves a smaller chunk
  pub fewer_left : has_bit chunk k ≡ true → bit_and chunk (bit_not w64 (bit_or (1 * 2 ^ k % 2 ^ 64) covered)) < chunk
  unfolding gone
  fewer_left set =
      let parts : bit_and (2 ^ 64 - 1 - gone) chunk + bit_and gone chunk ≡ chunk = and-not 64 gone chunk gone_fits fits in
      let same : bit_and chunk (bit_not w64 gone) ≡ bit_and (2 ^ 64 - 1 - gone) chunk = and_comm chunk (bit_not w64 gone) in
      elim (cases_lt 0 (bit_and gone chunk)) [
        | inl some ↦ omega arith
        | inr none ↦
            let zero_is : bit_and gone chunk ≡ 0 = omega arith in
            absurd (true≢false (sym both ∙ ap (λ n. has_bit n k) zero_is ∙ has_none k))
      ]
    where
      here : eqb k k ≡ true
      here = elim (eqb_tells k k) [ inl e ↦ e.0 | inr e ↦ absurd (e.1 refl) ]

      both : has_bit (bit_and gone chunk) k ≡ true
      both = has_and gone chunk k ∙ ap (λ b. b && has_bit chunk k) (has_gone k inside ∙ ap (λ b. b || has_bit covered k) here) ∙ set

both_set : (a b : Bool) → (a && b) ≡ true → a ≡ true
both_set true b is = refl
both_set false b is = is

left_set : (a b c : Bool) → a ≡ true → ((a && not (b || c)) ≡ true) ⊎ ((b ≡ true) ⊎ (c ≡ true))
left_set true true c is = inr (inl refl)
left_set true false true is = inr (inr refl)
left_set true false false is = inl refl
left_set false b c is = absurd (true≢false (sym is))

-- said of each place
pub left_was : (chunk k covered rest : ℕ) → ((p : ℕ) → has_bit rest p ≡ (has_bit chunk p && not (eqb p k || has_bit covered p))) → (p : ℕ) → has_bit rest p ≡ true → has_bit chunk p ≡ true
left_was chunk k covered rest is p set = both_set (has_bit chunk p) (not (eqb p k || has_bit covered p)) (sym (is p) ∙ set)

-- each bit of a chunk is left, was just taken, or is covered
pub left_or_gone : (chunk k covered rest : ℕ) → ((p : ℕ) → has_bit rest p ≡ (has_bit chunk p && not (eqb p k || has_bit covered p))) → (p : ℕ) → has_bit chunk p ≡ true → (has_bit rest p ≡ true) ⊎ ((p ≡ k) ⊎ (has_bit covered p ≡ true))
left_or_gone chunk k covered rest is p set = elim (left_set (has_bit chunk p) (eqb p k) (has_bit covered p) set) [
  | inl more ↦ inl (is p ∙ more)
  | inr gone ↦ inr (elim gone [ inl e ↦ inl (elim (eqb_tells p k) [ inl t ↦ t.1 | inr t ↦ absurd (true≢false (sym e ∙ t.0)) ]) | inr c ↦ inr c ])
]

-- ---- a word whose bits are set one by one

-- the bit that was or-ed in is set
pub one_set : (word k : ℕ) → k < 64 → has_bit (bit_or word (1 * 2 ^ k % 2 ^ 64)) k ≡ true
one_set word k inside = has_or word (one_at k) k ∙ ap (λ b. has_bit word k || b) (has_one k k inside inside ∙ itself) ∙ either (has_bit word k)
  where
    itself : eqb k k ≡ true
    itself = elim (eqb_tells k k) [ inl e ↦ e.0 | inr e ↦ absurd (e.1 refl) ]

    either : (b : Bool) → (b || true) ≡ true
    either true = refl
    either false = refl

-- or-ing a bit in keeps those already set
pub still_set : (word k p : ℕ) → has_bit word p ≡ true → has_bit (bit_or word (1 * 2 ^ k % 2 ^ 64)) p ≡ true
still_set word k p set = has_or word (one_at k) p ∙ ap (λ b. b || has_bit (one_at k) p) set

-- a bit of `and` is set in the first number
pub both_bits : (a b p : ℕ) → has_bit (bit_and a b) p ≡ true → has_bit a p ≡ true
both_bits a b p set = both_set (has_bit a p) (has_bit b p) (sym (has_and a b p) ∙ set)

-- a bit set in both numbers is set in their `and`
pub set_in_both : (a b p : ℕ) → has_bit a p ≡ true → has_bit b p ≡ true → has_bit (bit_and a b) p ≡ true
set_in_both a b p first second = has_and a b p ∙ ap (λ x. x && has_bit b p) first ∙ second

-- a bit is set or not
pub set_or_not : (a p : ℕ) → (has_bit a p ≡ true) ⊎ (has_bit a p ≡ false)
set_or_not a p = elim (eqb_tells (a / 2 ^ p % 2) 1) [ inl e ↦ inl e.0 | inr e ↦ inr e.0 ]
