-- The next multiple of a number.
use Rattle.std.proofs.Common.{◌≡◌, ℕ, ◌+◌, ◌-◌, ◌*◌, ◌/◌, ◌%◌, ◌<◌, ◌≤◌, ◌∙◌, ap, inl, inr, arith}
use Rattle.std.specs.Prelude.{◌⊎◌}
use Rattle.std.proofs.lemmas.Bool.{cases_lt}
use Rattle.std.proofs.lemmas.Nat.{mod-mul-add}
use Rattle.bit_addressing.proofs.lists.Sized.{one_more_word}

-- the distance to the next multiple
gap_is : (align first : ℕ) → 0 < align → ((first % align ≡ 0) × ((align - first % align) % align ≡ 0)) ⊎ ((0 < first % align) × ((align - first % align) % align ≡ align - first % align))
gap_is align first some = elim (cases_lt 0 (first % align)) [
  | inl up ↦
      let whole : align - first % align ≡ 0 * align + (align - first % align) = omega arith in
      inr (up, ap (λ x. x % align) whole ∙ mod-mul-add 0 align (align - first % align) (omega arith))
  | inr none ↦
      let zero_is : first % align ≡ 0 = omega arith in
      let whole : align - first % align ≡ 1 * align + 0 = omega arith in
      inl (zero_is, ap (λ x. x % align) whole ∙ mod-mul-add 1 align 0 some)
]

-- the gap leads to a multiple
pub gap_reaches : (align first : ℕ) → 0 < align → (first + (align - first % align) % align) % align ≡ 0
gap_reaches align first some = elim (gap_is align first some) [
  | inl l ↦ (let e : first + (align - first % align) % align ≡ first = (let z = l.1 in omega arith) in ap (λ x. x % align) e ∙ l.0)
  | inr r ↦
      let parts : first ≡ first / align * align + first % align = omega arith in
      let below : first % align < align = omega arith in
      let next : (first / align + 1) * align ≡ first / align * align + align = one_more_word (first / align) align in
      let e : first + (align - first % align) % align ≡ (first / align + 1) * align + 0 = (let z = r.1 in omega arith) in
      ap (λ x. x % align) e ∙ mod-mul-add (first / align + 1) align 0 some
]

-- the gap leads to the first multiple
pub gap_least : (align first i : ℕ) → 0 < align → first ≤ i → i % align ≡ 0 → first + (align - first % align) % align ≤ i
gap_least align first i some from multiple = elim (gap_is align first some) [
  | inl l ↦ (let z = l.1 in omega arith)
  | inr r ↦ elim (cases_lt i (first + (align - first % align))) [
    | inl short ↦
        let parts : first ≡ first / align * align + first % align = omega arith in
        let rest : first % align + (i - first) < align = omega arith in
        let e : i ≡ first / align * align + (first % align + (i - first)) = omega arith in
        let is = ap (λ x. x % align) e ∙ mod-mul-add (first / align) align (first % align + (i - first)) rest in
        absurd (let up = r.0 in omega arith)
    | inr up ↦ (let z = r.1 in omega arith)
  ]
]
