-- Tables that make words four bits at a time.
use Rattle.std.proofs.Common.{◌≡◌, ℕ, ◌+◌, ◌-◌, ◌*◌, ◌/◌, ◌%◌, ◌^◌, ◌<◌, ◌≤◌, Bool, true, false, ◌&&◌, ◌||◌, if◌then◌else◌, eqb, ltb, List, [], ◌∷◌, get_or, set, length, refl, sym, ◌∙◌, ap, inl, inr, arith, eq-eqb, bit_or, bit_and, add-zero}
use Rattle.std.proofs.lemmas.List.{get_or-set_other}
use Rattle.std.proofs.lemmas.Grind.{get_or-set_at}
use Rattle.std.proofs.lemmas.Nat.{div-mul-add}
use Rattle.std.proofs.lemmas.Bool.{cases_lt, lt-ltb, le-ltb}
use Rattle.std.proofs.lemmas.Bool.Decides.{nat_tests, eqb_tells}
use Rattle.bit_addressing.specs.Bits.{has_bit, IsWidth}
use Rattle.bit_addressing.specs.Order.{IsPermutation, below_tells}
use Rattle.bit_addressing.specs.Row.{row_bit}
use Rattle.bit_addressing.specs.Table.{IsEntry, IsTaken}
use Rattle.bit_addressing.proofs.Words.{has_and, has_or, has_shr_low}

and_true : (x : Bool) → x ≡ (true && (x && true))
and_true true = refl
and_true false = refl

and_false : (x y : Bool) → (x && (y && false)) ≡ false
and_false true true = refl
and_false true false = refl
and_false false y = refl

and_end : (x : Bool) → (x && true) ≡ x
and_end true = refl
and_end false = refl

or_none : (x b : Bool) → (x || b && (false && true)) ≡ x
or_none true true = refl
or_none true false = refl
or_none false true = refl
or_none false false = refl

or_false : (x : Bool) → (x || false) ≡ x
or_false true = refl
or_false false = refl

-- a number that is not i is below i exactly if it is below the next
one_more : (j i : ℕ) → (j ≡ i → ⊥) → ltb j i ≡ ltb j (i + 1)
one_more j i apart = elim (cases_lt j i) [
  | inl l ↦ lt-ltb j i l ∙ sym (lt-ltb j (i + 1) (omega arith))
  | inr l ↦ le-ltb j i l ∙ sym (le-ltb j (i + 1) (omega arith))
]

low_of_15 : (r : ℕ) → r < 4 → has_bit 15 r ≡ true
low_of_15 r h = below_tells (has_bit 15) 4 refl r h

-- one index more in the columns: its bit is in the column of its source
pub column_more : (place s : ℕ → ℕ) (a : ℕ → Bool) (columns : List ℕ) (w i from q new : ℕ) (b : Bool) → IsPermutation w place → w ≤ 64 → i < w → length columns ≡ 64 → from < 64 → from ≡ s i → q ≡ place i → b ≡ a i
    → ((r : ℕ) → r < 64 → has_bit new r ≡ (if eqb r q then b else has_bit (get_or columns from 0) r))
    → ((j p : ℕ) → j < w → p < 64 → has_bit (get_or columns p 0) (place j) ≡ (ltb j i && (a j && eqb p (s j))))
    → (j p : ℕ) → j < w → p < 64 → has_bit (get_or (set columns from new) p 0) (place j) ≡ (ltb j (i + 1) && (a j && eqb p (s j)))
column_more place s a columns w i from q new b lawful most low size fits source is bit change old j p h k = elim (eqb_tells p from) [
  | inl e ↦
      rw (get_or-set_at columns from p new 0 e.1 (omega arith))
      (change (place j) (let r = lawful.in_range j h in omega arith) ∙ elim (eqb_tells j i) [
        | inl f ↦
            let there : eqb (place j) q ≡ true = eq-eqb (place j) q (ap place f.1 ∙ sym is) in
            let met : eqb p (s j) ≡ true = eq-eqb p (s j) (e.1 ∙ source ∙ ap s (sym f.1)) in
            rw (there, met, lt-ltb j (i + 1) (omega arith)) (bit ∙ ap a (sym f.1) ∙ and_true (a j))
        | inr f ↦
            let apart : (place j ≡ q → ⊥) = λ t. f.1 (lawful.apart j i h low (t ∙ is)) in
            let not_there : eqb (place j) q ≡ false = elim (eqb_tells (place j) q) [ inl t ↦ absurd (apart t.1) | inr t ↦ t.0 ] in
            rw not_there (old j from h fits ∙ ap (λ t. t && (a j && eqb from (s j))) (one_more j i f.1) ∙ ap (λ n. ltb j (i + 1) && (a j && eqb n (s j))) (sym e.1))
      ])
  | inr e ↦
      rw (get_or-set_other columns from p new 0 e.1)
      (old j p h k ∙ elim (eqb_tells j i) [
        | inl f ↦
            let other : eqb p (s j) ≡ false = elim (eqb_tells p (s j)) [ inl t ↦ absurd (e.1 (t.1 ∙ ap s f.1 ∙ sym source)) | inr t ↦ t.0 ] in
            rw other (and_false (ltb j i) (a j) ∙ sym (and_false (ltb j (i + 1)) (a j)))
        | inr f ↦ ap (λ t. t && (a j && eqb p (s j))) (one_more j i f.1)
      ])
]

-- one entry more
pub entry_more : (columns entries : List ℕ) (k v n new : ℕ) → n ≡ k * 16 + v → v < 16 → n < length entries → IsEntry columns k v new → ((f u : ℕ) → u < 16 → f * 16 + u < n → IsEntry columns f u (get_or entries (f * 16 + u) 0)) → (f u : ℕ) → u < 16 → f * 16 + u < n + 1 → IsEntry columns f u (get_or (set entries n new) (f * 16 + u) 0)
entry_more columns entries k v n new is few fits made old f u h below = elim (eqb_tells (f * 16 + u) n) [
  | inl e ↦
      let first : f ≡ k = omega (arith, e.1) in
      let second : u ≡ v = omega (arith, e.1) in
      rw (get_or-set_at entries n (f * 16 + u) new 0 e.1 fits, first, second) made
  | inr e ↦
      rw (get_or-set_other entries n (f * 16 + u) new 0 e.1) (old f u h (let apart : (f * 16 + u ≡ n → ⊥) = e.1 in omega arith))
]

-- a place is one of the four from `4 * k` on exactly if its group is k
group_place : (k s j : ℕ) → j < 4 → eqb (k * 4 + j) s ≡ (eqb (s / 4) k && eqb (s % 4) j)
group_place k s j h = grind (arith, nat_tests)

four_places : (x : ℕ → Bool) (b e : Bool) (m : ℕ) → m < 4 → (x 0 && (b && (e && eqb m 0)) || x 1 && (b && (e && eqb m 1)) || x 2 && (b && (e && eqb m 2)) || x 3 && (b && (e && eqb m 3))) ≡ (b && (e && x m))
four_places x b e m h = grind (arith, nat_tests)

-- entries of columns, of which one alone has the bit
pub entries_taken : (columns entries : List ℕ) (s q : ℕ) (b : Bool) → ((k v : ℕ) → k < 16 → v < 16 → IsEntry columns k v (get_or entries (k * 16 + v) 0)) → ((p : ℕ) → p < 64 → has_bit (get_or columns p 0) q ≡ (b && eqb p s)) → IsTaken entries s q b
entries_taken columns entries s q b each column k v hk hv =
    let at : (j : ℕ) → j < 4 → has_bit (get_or columns (k * 4 + j) 0) q ≡ (b && (eqb (s / 4) k && eqb (s % 4) j)) = λ j h. column (k * 4 + j) (omega arith) ∙ ap (λ t. b && t) (group_place k s j h) in
    let first : has_bit (get_or columns (k * 4) 0) q ≡ (b && (eqb (s / 4) k && eqb (s % 4) 0)) = ap (λ n. has_bit (get_or columns n 0) q) (sym (add-zero (k * 4))) ∙ at 0 (omega arith) in
    each k v hk hv q
    ∙ rw (first, at 1 (omega arith), at 2 (omega arith), at 3 (omega arith)) (four_places (has_bit v) b (eqb (s / 4) k) (s % 4) (omega arith))

-- one group of four places more
pub taken_more : (entries : List ℕ) (made word k four new p q : ℕ) (b : Bool) → IsTaken entries p q b → k < 16 → four ≡ bit_and (word / 2 ^ (4 * k)) 15 → four < 16 → new ≡ bit_or made (get_or entries (k * 16 + four) 0) → has_bit made q ≡ (ltb (p / 4) k && (b && has_bit word p)) → has_bit new q ≡ (ltb (p / 4) (k + 1) && (b && has_bit word p))
taken_more entries made word k four new p q b table few is fits now old =
    let seen : p / 4 ≡ k → has_bit four (p % 4) ≡ has_bit word p = λ e. ap (λ n. has_bit n (p % 4)) is ∙ has_and (word / 2 ^ (4 * k)) 15 (p % 4) ∙ rw (low_of_15 (p % 4) (omega arith), has_shr_low word (4 * k) (p % 4)) (and_end (has_bit word (p % 4 + 4 * k)) ∙ ap (has_bit word) (let same : p % 4 + 4 * k ≡ p = omega (arith, e) in same)) in
    ap (λ n. has_bit n q) now ∙ has_or made (get_or entries (k * 16 + four) 0) q ∙ rw (old, table k four few fits) (elim (eqb_tells (p / 4) k) [
      | inl e ↦ rw (e.0, seen e.1, le-ltb (p / 4) k (omega (arith, e.1)), lt-ltb (p / 4) (k + 1) (omega (arith, e.1))) refl
      | inr e ↦ rw (e.0, sym (one_more (p / 4) k e.1)) (or_none (ltb (p / 4) k && (b && has_bit word p)) b)
    ])

-- a word that has, of two words that are tables' entries, those bits
pub pair_made : (place given : ℕ → ℕ → ℕ) (w at i low high first second new : ℕ) → at < w → i < w → has_bit new (place w i) ≡ (has_bit first (place w i) || has_bit second (place w i))
    → has_bit first (place w i) ≡ (eqb ((at + i) / w) 0 && has_bit low (given w ((at + i) % w)))
    → has_bit second (place w i) ≡ (eqb ((at + i) / w) 1 && has_bit high (given w ((at + i) % w)))
    → has_bit new (place w i) ≡ row_bit given w (low ∷ high ∷ []) (at + i)
pair_made place given w at i low high first second new h k both one two = both ∙ rw (one, two) (elim (cases_lt (at + i) w) [
  | inl l ↦ let whole : at + i ≡ 0 * w + (at + i) = omega arith in let none : (at + i) / w ≡ 0 = ap (λ n. n / w) whole ∙ div-mul-add 0 w (at + i) l in rw none (or_false (has_bit low (given w ((at + i) % w))))
  | inr l ↦ let whole : at + i ≡ 1 * w + (at + i - w) = omega arith in let one_word : (at + i) / w ≡ 1 = ap (λ n. n / w) whole ∙ div-mul-add 1 w (at + i - w) (omega arith) in rw one_word refl
])

-- a place of a word is in one of its groups of four
pub fours : (w s : ℕ) → IsWidth w → s < w → s < 4 * (w / 4)
fours w s width h = grind arith
