-- Where moved bits come from, a word that is collected bit by bit, and the words that a run touches.
use Rattle.std.proofs.Common.{◌≡◌, ◌≢◌, ◌↔◌, ℕ, ◌+◌, ◌-◌, ◌*◌, ◌/◌, ◌<◌, ◌≤◌, Bool, if◌then◌else◌, ◌&&◌, eqb, leb, ltb, refl, sym, ◌∙◌, ap, inl, inr, arith, eq-eqb}
use Rattle.std.proofs.lemmas.Nat.{div-mul-add}
use Rattle.std.proofs.Math.Nat.{div-mul-le_self, div-lt_iff_lt-mul}
use Rattle.std.proofs.lemmas.Bool.{cases_lt, lt-leb, le-leb, lt-ltb, le-ltb}
use Rattle.std.proofs.lemmas.Bool.Decides.{nat_tests, eqb_tells}
use Rattle.bit_addressing.specs.Bits.{has_bit}
use Rattle.bit_addressing.specs.Order.{IsPermutation}
use Rattle.bit_addressing.specs.Row.{IsSpan, source_of, touched}
use Rattle.bit_addressing.proofs.Runs.{div_mono, mul_mono}

-- the source of each index of a move lies inside the list
pub source_below : (s d n j l : ℕ) → s + n ≤ l → j < l → source_of s d n j < l
source_below s d n j l h k = grind (arith, nat_tests)

-- a word that has the bits of the indices below i gets that of i
pub collect_step : (place : ℕ → ℕ) (w i before after p : ℕ) (b : Bool) (f : ℕ → Bool) → IsPermutation w place → i < w → p ≡ place i → ((q : ℕ) → q < w → has_bit after q ≡ (if eqb q p then b else has_bit before q)) → b ≡ f i → ((j : ℕ) → j < i → has_bit before (place j) ≡ f j) → (j : ℕ) → j < i + 1 → has_bit after (place j) ≡ f j
collect_step place w i before after p b f lawful low is change new old j h = elim (eqb_tells j i) [
  | inl e ↦ rw e.1 (change (place i) (lawful.in_range i low) ∙ ap (λ t. if t then b else has_bit before (place i)) (eq-eqb (place i) p (sym is)) ∙ new)
  | inr e ↦
      let below : j < i = omega arith in
      let apart : (place j ≡ p → ⊥) = λ q. e.1 (lawful.apart j i (omega arith) low (q ∙ is)) in
      change (place j) (lawful.in_range j (omega arith)) ∙ elim (eqb_tells (place j) p) [
        | inl q ↦ absurd (apart q.1)
        | inr q ↦ rw q.0 (old j below)
      ]
]

-- one bit more of a run that replaces those of another word
pub run_step : (place : ℕ → ℕ) (w from i before after p : ℕ) (b : Bool) (f o : ℕ → Bool) → IsPermutation w place → from ≤ i → i < w → p ≡ place i → ((q : ℕ) → q < w → has_bit after q ≡ (if eqb q p then b else has_bit before q)) → b ≡ f i
    → ((j : ℕ) → j < w → has_bit before (place j) ≡ (if leb from j && ltb j i then f j else o j)) → (j : ℕ) → j < w → has_bit after (place j) ≡ (if leb from j && ltb j (i + 1) then f j else o j)
run_step place w from i before after p b f o lawful above low is change new old j h = elim (eqb_tells j i) [
  | inl e ↦ rw (e.1, le-leb from i above, lt-ltb i (i + 1) (omega arith)) (change (place i) (lawful.in_range i low) ∙ ap (λ t. if t then b else has_bit before (place i)) (eq-eqb (place i) p (sym is)) ∙ new)
  | inr e ↦
      let apart : (place j ≡ p → ⊥) = λ q. e.1 (lawful.apart j i h low (q ∙ is)) in
      let same : ltb j i ≡ ltb j (i + 1) = elim (cases_lt j i) [
        | inl l ↦ lt-ltb j i l ∙ sym (lt-ltb j (i + 1) (omega arith))
        | inr l ↦ let past : (j ≡ i → ⊥) = e.1 in le-ltb j i l ∙ sym (le-ltb j (i + 1) (omega arith))
      ] in
      change (place j) (lawful.in_range j h) ∙ elim (eqb_tells (place j) p) [
        | inl q ↦ absurd (apart q.1)
        | inr q ↦ rw q.0 (old j h ∙ ap (λ t. if leb from j && t then f j else o j) same)
      ]
]

-- before the first step of a move no bit is changed
pub none_yet : (from i j : ℕ) (a b : Bool) → i ≡ from → b ≡ (if leb from j && ltb j i then a else b)
none_yet from i j a b is = elim (cases_lt j from) [
  | inl l ↦ rw (lt-leb from j l) refl
  | inr l ↦ rw (le-leb from j l, le-ltb j i (omega arith)) refl
]

-- a run of one word, blended into another under the mask of its indices
pub run_blended : (place : ℕ → ℕ) (w old new mask v from upto : ℕ) (f : ℕ → Bool) → IsPermutation w place → ((p : ℕ) → p < w → has_bit v p ≡ (if has_bit mask p then has_bit new p else has_bit old p)) → ((i : ℕ) → i < w → has_bit mask (place i) ≡ (leb from i && ltb i upto)) → ((i : ℕ) → i < w → has_bit new (place i) ≡ f i)
    → (i : ℕ) → i < w → has_bit v (place i) ≡ (if leb from i && ltb i upto then f i else has_bit old (place i))
run_blended place w old new mask v from upto f lawful change masked window i h =
    change (place i) (lawful.in_range i h)
    ∙ ap (λ t. if t then has_bit new (place i) else has_bit old (place i)) (masked i h)
    ∙ ap (λ b. if leb from i && ltb i upto then b else has_bit old (place i)) (window i h)

-- a move of no bits leaves each index its own source
pub source_none : (s d n j : ℕ) → n ≡ 0 → source_of s d n j ≡ j
source_none s d n j h = grind (arith, nat_tests)

-- the words that a run touches are those of its span
pub touched_span : {w d n first low last end : ℕ} → IsSpan w d (d + n) first low last end → n ≢ 0 → touched w d n ≡ last + 1 - first
touched_span {w} {d} {n} {first} {low} {last} {end} r some =
    let a : d / w ≡ first = ap (λ m. m / w) (sym r.begins) ∙ div-mul-add first w low r.low_below in
    let b : (d + n - 1) / w ≡ last = ap (λ m. m / w) (omega arith) ∙ div-mul-add last w (end - 1) (omega arith) in
    elim (eqb_tells n 0) [
      | inl e ↦ absurd (some e.1)
      | inr e ↦ rw (e.0, a, b) refl
    ]

-- ---- the closed form of `touched` counts the words of which a bit lies in the run

-- word k lies between those of the first and the last of the n bits from d on exactly if it has one of them
pub holds_bit : (w d n k : ℕ) → 0 < w → 0 < n → ((d / w ≤ k) × (k < (d + n - 1) / w + 1)) ↔ ((i : ℕ) × (d ≤ i) × (i < d + n) × (i / w ≡ k))
holds_bit w d n k positive some =
    let first = div-lt_iff_lt-mul positive in
    let whole = div-mul-le_self (d + n - 1) w in (
      (λ h. elim (cases_lt (d / w) k) [
        | inl l ↦
            let m = mul_mono k ((d + n - 1) / w) w (omega (arith, h.1)) in
            let low : d < k * w = first.0 l in
            (k * w + 0, omega arith, omega arith, div-mul-add k w 0 positive)
        | inr l ↦ (d, omega arith, omega arith, let e : d / w ≡ k = omega (arith, h.0) in e)
      ]),
      (λ h.
          let low = div_mono d h.0 w positive h.1 in
          let high = div_mono h.0 (d + n - 1) w positive (omega (arith, h.2)) in
          (omega (arith, h.3), omega (arith, h.3))),
    )
