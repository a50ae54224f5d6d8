-- The numbers of a range that pass a test.
use Rattle.std.proofs.Common.{◌≡◌, ℕ, zero, suc, ◌+◌, ◌-◌, ◌<◌, ◌≤◌, Bool, true, false, cond, ◌||◌, List, [], ◌∷◌, ◌++◌, refl, sym, ◌∙◌, ap, inl, inr, arith}
use Rattle.std.proofs.lemmas.Bool.{cases_Bool, cases_eq, ne_eqb, eq-eqb}
use Rattle.bit_blocks.specs.Numbers.{AscendsIn, has, those}
use Rattle.bit_blocks.proofs.Ascending.{above_all, ascends_earlier}

-- the first of them, if it passes, and the others
pub those_first : (p : ℕ → Bool) (a n : ℕ) → those p a (suc n) ≡ cond (p a) (a ∷ those p (a + 1) n) (those p (a + 1) n)
unfolding those
those_first p a n = refl

pub those_none : (p : ℕ → Bool) (a : ℕ) → those p a 0 ≡ []
unfolding those
those_none p a = refl

-- where the first passes
pub those_here : (p : ℕ → Bool) (a n : ℕ) → p a ≡ true → those p a (suc n) ≡ a ∷ those p (a + 1) n
those_here p a n here = those_first p a n ∙ ap (λ b. cond b (a ∷ those p (a + 1) n) (those p (a + 1) n)) here

-- and where it does not
pub those_not_here : (p : ℕ → Bool) (a n : ℕ) → p a ≡ false → those p a (suc n) ≡ those p (a + 1) n
those_not_here p a n out = those_first p a n ∙ ap (λ b. cond b (a ∷ those p (a + 1) n) (those p (a + 1) n)) out

-- they ascend
pub ascends_those : (p : ℕ → Bool) (a n upto : ℕ) → a + n ≤ upto → AscendsIn a upto (those p a n)
unfolding those
ascends_those p a zero upto within = tt
ascends_those p a (suc n) upto within =
    let rest = ascends_those p (a + 1) n upto (omega arith) in
    elim (p a) as (λ b. AscendsIn a upto (cond b (a ∷ those p (a + 1) n) (those p (a + 1) n))) [
      | true ↦ (omega arith, omega arith, rest)
      | false ↦ ascends_earlier (a + 1) a upto (those p (a + 1) n) (omega arith) rest
    ]

-- a number of the range is among them if it passes
pub has_those : (p : ℕ → Bool) (a n k : ℕ) → a ≤ k → k < a + n → has (those p a n) k ≡ p k
has_those p a zero k low high = absurd (omega arith)
has_those p a (suc n) k low high = elim (cases_eq a k) [
  | inl same ↦ elim (cases_Bool (p a)) [
    | inl here ↦ ap (λ l. has l k) (those_here p a n here) ∙ ap (λ b. b || has (those p (a + 1) n) k) (eq-eqb a k same) ∙ sym (ap p (sym same) ∙ here)
    | inr out ↦ ap (λ l. has l k) (those_not_here p a n out) ∙ above_all (a + 1) (a + 1 + n) (those p (a + 1) n) k (ascends_those p (a + 1) n (a + 1 + n) (omega arith)) (omega arith) ∙ sym (ap p (sym same) ∙ out)
  ]
  | inr other ↦ (
      let rest = has_those p (a + 1) n k (omega arith) (omega arith) in
      elim (cases_Bool (p a)) [
        | inl here ↦ ap (λ l. has l k) (those_here p a n here) ∙ ap (λ b. b || has (those p (a + 1) n) k) (ne_eqb a k other) ∙ rest
        | inr out ↦ ap (λ l. has l k) (those_not_here p a n out) ∙ rest
      ])
]

-- a range in two parts
pub those_joined : (p : ℕ → Bool) (a m n : ℕ) → those p a (m + n) ≡ those p a m ++ those p (a + m) n
those_joined p a zero n = ap (λ k. those p a k) (omega arith) ∙ ap (λ k. those p k n) (omega arith) ∙ sym (ap (λ l. l ++ those p (a + 0) n) (those_none p a))
those_joined p a (suc m) n =
    let one : suc m + n ≡ suc (m + n) = omega arith in
    let next : a + 1 + m ≡ a + suc m = omega arith in
    let rest = those_joined p (a + 1) m n ∙ ap (λ k. those p (a + 1) m ++ those p k n) next in
    ap (λ k. those p a k) one ∙ elim (cases_Bool (p a)) [
      | inl here ↦ those_here p a (m + n) here ∙ ap (λ l. a ∷ l) rest ∙ sym (ap (λ l. l ++ those p (a + suc m) n) (those_here p a m here))
      | inr out ↦ those_not_here p a (m + n) out ∙ rest ∙ sym (ap (λ l. l ++ those p (a + suc m) n) (those_not_here p a m out))
    ]

-- tests that agree give the same
pub those_same : (p q : ℕ → Bool) (a n : ℕ) → ((k : ℕ) → a ≤ k → k < a + n → p k ≡ q k) → those p a n ≡ those q a n
those_same p q a zero same = those_none p a ∙ sym (those_none q a)
those_same p q a (suc n) same =
    let rest = those_same p q (a + 1) n (λ k low high. same k (omega arith) (omega arith)) in
    those_first p a n ∙ ap (λ l. cond (p a) (a ∷ l) l) rest ∙ ap (λ b. cond b (a ∷ those q (a + 1) n) (those q (a + 1) n)) (same a (omega arith) (omega arith)) ∙ sym (those_first q a n)

-- none where none passes
pub those_empty : (p : ℕ → Bool) (a n : ℕ) → ((k : ℕ) → a ≤ k → k < a + n → p k ≡ false) → those p a n ≡ []
those_empty p a zero out = those_none p a
those_empty p a (suc n) out = those_not_here p a n (out a (omega arith) (omega arith)) ∙ those_empty p (a + 1) n (λ k low high. out k (omega arith) (omega arith))

-- an ascending list has its own numbers
pub those_of : (from upto : ℕ) (xs : List ℕ) (n : ℕ) → from + n ≡ upto → AscendsIn from upto xs → xs ≡ those (has xs) from n
those_of from upto [] n size h = sym (those_empty (has []) from n (λ k low high. refl))
those_of from upto (x ∷ xs) n size h =
    let first = h.0 in
    let below = h.1 in
    let m = x - from in
    let r = n - suc m in
    let parts : m + suc r ≡ n = omega arith in
    let here : from + m ≡ x = omega arith in
    let rest : xs ≡ those (has (x ∷ xs)) (x + 1) r =
    those_of (x + 1) upto xs r (omega arith) h.2
    ∙ those_same (has xs) (has (x ∷ xs)) (x + 1) r (λ k low high. sym (ap (λ b. b || has xs k) (ne_eqb x k (λ e. omega arith)))) in
    let none : those (has (x ∷ xs)) from m ≡ [] = those_empty (has (x ∷ xs)) from m (λ k low high. above_all x upto (x ∷ xs) k (omega arith, h.1, h.2) (omega arith)) in
    ap (λ l. x ∷ l) rest
    ∙ sym (those_here (has (x ∷ xs)) x r (ap (λ b. b || has xs x) (eq-eqb x x refl)))
    ∙ ap (λ k. those (has (x ∷ xs)) k (suc r)) (sym here)
    ∙ ap (λ l. l ++ those (has (x ∷ xs)) (from + m) (suc r)) (sym none)
    ∙ sym (those_joined (has (x ∷ xs)) from m (suc r))
    ∙ ap (λ k. those (has (x ∷ xs)) from k) parts
