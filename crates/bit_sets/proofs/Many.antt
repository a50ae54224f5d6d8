-- The members of what is made of many sets, and the highest of their bounds.
use Rattle.std.proofs.Common.{◌≡◌, ℕ, zero, suc, ◌+◌, ◌<◌, ◌≤◌, Bool, List, [], ◌∷◌, get_or, length, length-take, max, take, refl, sym, ◌∙◌, ap, subst, inl, inr, arith}
use Rattle.std.specs.Prelude.{◌⊎◌, ◌↔◌}
use Rattle.std.specs.List.{All, Any, fold}
use Rattle.std.proofs.lemmas.Bool.{cases_lt}
use Rattle.std.proofs.lemmas.List.{get_or-take, get_or_default}

module _ {X : Type 0} (P : X → Type 0) (xs : List X) (i : ℕ) (x : X) (inside : i < length xs) (is : x ≡ get_or xs i x) where
  -- one element more
  pub any_more : Any P (take (i + 1) xs) ↔ (Any P (take i xs) ⊎ P x)
  any_more =
      let size = length-take (i + 1) xs in
      let shorter = length-take i xs in (
        (λ h.
            let low = h.2 in
            let item = sym (get_or-take (i + 1) xs h.0 h.1 (omega arith)) ∙ h.3 in
            elim (cases_lt h.0 i) [
              | inl before ↦ inl (h.0, h.1, omega arith, get_or-take i xs h.0 h.1 before ∙ item, h.4)
              | inr after ↦ (let here : h.0 ≡ i = omega arith in inr (subst P (sym item ∙ ap (λ k. get_or xs k h.1) here ∙ get_or_default xs i h.1 x inside ∙ sym is) h.4))
            ]
            ),
        (λ w. elim w [
          | inl h ↦ (let low = h.2 in (h.0, h.1, omega arith, get_or-take (i + 1) xs h.0 h.1 (omega arith) ∙ sym (get_or-take i xs h.0 h.1 (omega arith)) ∙ h.3, h.4))
          | inr p ↦ (i, x, omega arith, get_or-take (i + 1) xs i x (omega arith) ∙ sym is, p)
        ]),
      )

  -- a property of all items so far and of the next
  pub all_more : All P (take (i + 1) xs) ↔ (All P (take i xs) × P x)
  all_more =
      let size = length-take (i + 1) xs in
      let shorter = length-take i xs in (
        (λ h. (
          (λ k d low. subst P (get_or-take (i + 1) xs k d (omega arith) ∙ sym (get_or-take i xs k d (omega arith))) (h k d (omega arith))),
          subst P (get_or-take (i + 1) xs i x (omega arith) ∙ sym is) (h i x (omega arith)),
        )),
        (λ w k d low. elim (cases_lt k i) [
          | inl before ↦ subst P (get_or-take i xs k d before ∙ sym (get_or-take (i + 1) xs k d (omega arith))) (w.0 k d (omega arith))
          | inr after ↦ (let here : i ≡ k = omega arith in subst P (is ∙ get_or_default xs i x d inside ∙ ap (λ j. get_or xs j d) here ∙ sym (get_or-take (i + 1) xs k d (omega arith))) w.1)
        ]),
      )

-- one set more in a union
pub joined_more : {N L O F A M : Type 0} → (N ↔ (L ⊎ O)) → (L ↔ (F ⊎ A)) → (M ↔ (A ⊎ O)) → N ↔ (F ⊎ M)
joined_more n l m = (
  (λ h. elim (n.0 h) [ inl left ↦ elim (l.0 left) [ inl f ↦ inl f | inr a ↦ inr (m.1 (inl a)) ] | inr o ↦ inr (m.1 (inr o)) ]),
  (λ w. n.1 (elim w [ inl f ↦ inl (l.1 (inl f)) | inr h ↦ elim (m.0 h) [ inl a ↦ inl (l.1 (inr a)) | inr o ↦ inr o ] ])),
)

-- one set more in an intersection
pub kept_more : {N L O F A M : Type 0} → (N ↔ (L × O)) → (L ↔ (F × A)) → (M ↔ (A × O)) → N ↔ (F × M)
kept_more n l m = (
  (λ h. let w = n.0 h in let v = l.0 w.0 in (v.0, m.1 (v.1, w.1))),
  (λ w. let v = m.0 w.1 in n.1 (l.1 (w.0, v.0), v.1)),
)

-- ---- the highest bound

abbrev pub highest : ℕ → List (List Bool) → ℕ
highest n sets = fold (λ bound s. max bound (length s)) n sets

-- the highest bound is at least the first one
pub highest_least : (n : ℕ) (sets : List (List Bool)) → n ≤ highest n sets
highest_least n [] = omega arith
highest_least n (s ∷ sets) = let more = highest_least (max n (length s)) sets in omega arith

-- it is at least as high as that of each set
pub highest_above : (n : ℕ) (sets : List (List Bool)) → All (λ s. length s ≤ highest n sets) sets
highest_above n [] k d h = absurd (omega arith)
highest_above n (s ∷ sets) zero d h = let more = highest_least (max n (length s)) sets in omega arith
highest_above n (s ∷ sets) (suc k) d h = highest_above (max n (length s)) sets k d (omega arith)

-- where it is above the bound that it began with, a set has a higher one
pub highest_reached : (n : ℕ) (sets : List (List Bool)) → n < highest n sets → Any (λ s. n < length s) sets
highest_reached n [] h = absurd (omega arith)
highest_reached n (s ∷ sets) h = elim (cases_lt n (length s)) [
  | inl more ↦ (0, s, omega arith, refl, more)
  | inr within ↦ (
      let same : max n (length s) ≡ n = omega arith in
      let rest = highest_reached n sets (subst (λ m. n < highest m sets) same h) in
      let low = rest.2 in
      (suc rest.0, rest.1, omega arith, rest.3, rest.4)
      )
]
