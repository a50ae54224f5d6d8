use Rattle.std.proofs.Common.{◌≡◌, ℕ, ◌+◌, ◌<◌, ◌≤◌, zero, suc, Bool, true, false, ◌||◌, eqb, List, [], ◌∷◌, length, refl, sym, ◌∙◌, ap, subst, inl, inr, arith, add-one}
use Rattle.std.specs.List.{list_any, IsDistinct, AllByRecursion}
use Rattle.std.proofs.lemmas.Bool.Decides.{eqb_tells}
use Rattle.std.proofs.lemmas.Map.Steps.{length-le_from_distinct_below}
use Rattle.bit_addressing.specs.Order.{IsPermutation}

-- the places of the indices below n
abbrev places : (ℕ → ℕ) → ℕ → List ℕ
places place zero = []
places place (suc n) = place n ∷ places place n

length-places : (place : ℕ → ℕ) (n : ℕ) → length (places place n) ≡ n
length-places place zero = refl
length-places place (suc n) = ap suc (length-places place n)

found : (place : ℕ → ℕ) (n q : ℕ) → list_any (eqb q) (places place n) ≡ true → (i : ℕ) × (i < n) × (place i ≡ q)
found place zero q h = cc
found place (suc n) q h = elim (eqb_tells q (place n)) [
  | inl e ↦ (n, omega arith, sym e.1)
  | inr e ↦ let r = found place n q (subst (λ b. (b || list_any (eqb q) (places place n)) ≡ true) e.0 h) in (r.0, (let l = r.1 in omega arith), r.2)
]

head_apart : (place : ℕ → ℕ) (w n m : ℕ) → IsPermutation w place → n < w → m ≤ n → AllByRecursion (λ y. eqb (place n) y ≡ false) (places place m)
head_apart place w n zero lawful low h = tt
head_apart place w n (suc m) lawful low h = (
  elim (eqb_tells (place n) (place m)) [
    | inl e ↦ let same : n ≡ m = lawful.apart n m low (omega arith) e.1 in absurd (omega arith)
    | inr e ↦ e.0
  ],
  head_apart place w n m lawful low (omega arith),
)

distinct : (place : ℕ → ℕ) (w n : ℕ) → IsPermutation w place → n ≤ w → IsDistinct eqb (places place n)
unfolding IsDistinct
distinct place w zero lawful h = tt
distinct place w (suc n) lawful h = (head_apart place w n n lawful (omega arith) (omega arith), distinct place w n lawful (omega arith))

missed : (place : ℕ → ℕ) (n q : ℕ) → list_any (eqb q) (places place n) ≡ false → AllByRecursion (λ y. eqb q y ≡ false) (places place n)
missed place zero q h = tt
missed place (suc n) q h = elim (eqb_tells q (place n)) [
  | inl e ↦ let same : (eqb q (place n) || list_any (eqb q) (places place n)) ≡ true = ap (λ b. b || list_any (eqb q) (places place n)) e.0 in cc
  | inr e ↦ (e.0, missed place n q (subst (λ b. (b || list_any (eqb q) (places place n)) ≡ false) e.0 h))
]

one_more : (place : ℕ → ℕ) (w q : ℕ) → IsPermutation w place → list_any (eqb q) (places place w) ≡ false → IsDistinct eqb (q ∷ places place w)
unfolding IsDistinct
one_more place w q lawful h = (missed place w q h, distinct place w w lawful (omega arith))

within : (place : ℕ → ℕ) (w q r : ℕ) → IsPermutation w place → q < w → list_any (eqb r) (q ∷ places place w) ≡ true → r < w
within place w q r lawful low h = elim (eqb_tells r q) [
  | inl e ↦ let same : r ≡ q = e.1 in omega arith
  | inr e ↦ let at = found place w r (subst (λ b. (b || list_any (eqb r) (places place w)) ≡ true) e.0 h) in subst (λ m. m < w) at.2 (lawful.in_range at.0 at.1)
]

either : (place : ℕ → ℕ) (w q : ℕ) (b : Bool) → IsPermutation w place → q < w → list_any (eqb q) (places place w) ≡ b → (i : ℕ) × (i < w) × (place i ≡ q)
either place w q true lawful low h = found place w q h
either place w q false lawful low h =
    let most = length-le_from_distinct_below (q ∷ places place w) w (one_more place w q lawful h) (λ r m. within place w q r lawful low m) in
    let size : length (q ∷ places place w) ≡ w + 1 = ap suc (length-places place w) ∙ sym (add-one w) in
    absurd (omega arith)

-- each place is that of an index
pub onto : (w : ℕ) (place : ℕ → ℕ) → IsPermutation w place → (q : ℕ) → q < w → (i : ℕ) × (i < w) × (place i ≡ q)
onto w place lawful q low = either place w q (list_any (eqb q) (places place w)) lawful low refl
