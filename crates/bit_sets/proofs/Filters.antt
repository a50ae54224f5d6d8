-- The places of a hash in a Bloom filter, one after another.
use Rattle.std.proofs.Common.{◌≡◌, ◌≢◌, ℕ, ◌+◌, ◌*◌, ◌/◌, ◌%◌, ◌^◌, ◌<◌, Bool, true, false, List, get_or, length, set, slice_get, unwrap_or, None, Option, Some, refl, sym, ◌∙◌, ap, subst, inl, inr, add-one, arith}
use Rattle.std.specs.Prelude.{◌⊎◌}
use Rattle.std.proofs.Math.Nat.{add-mul-mod_self_left, mod-add-div, suc-mul}
use Rattle.std.proofs.lemmas.Bool.{cases_eq, cases_lt}
use Rattle.std.proofs.lemmas.List.{get_or-set_other, get_or-set_same, length-set}
use Rattle.bit_slice.specs.Operators.{or_of}
use Rattle.bit_sets.specs.Bloom.{IsFound, IsMarked, place}
use Rattle.bit_sets.specs.Filter.{Filter}
use Rattle.bit_sets.specs.NumberSet.{IsIn}
use Rattle.bit_sets.proofs.Members.{in_bit, in_union}

-- before the first function nothing is marked
pub none_marked : (bits : List Bool) (hash : ℕ) → IsMarked bits bits hash 0
none_marked bits hash = record { size = refl; bits = λ j. ((λ h. inl h), (λ w. elim w [ inl h ↦ h | inr p ↦ (let low = p.1 in absurd (omega arith)) ])) }

-- the place of one function more
pub marked_more : (old now new : List Bool) (hash k at : ℕ) → at ≡ place (length old) hash k → at < length now → new ≡ set now at true → IsMarked old now hash k → IsMarked old new hash (k + 1)
marked_more old now new hash k at is inside made was = record {
  size = ap length made ∙ length-set now at true ∙ was.size;
  bits = λ j. elim (cases_eq j at) [
    | inl here ↦ (
      (λ h. inr (k, omega arith, sym (here ∙ is))),
      (λ w. (in_bit new j).1 (ap (λ l. get_or l j false) made ∙ ap (λ i. get_or (set now at true) i false) here ∙ get_or-set_same now at true false inside)),
    )
    | inr other ↦ (
        let same : get_or new j false ≡ get_or now j false = ap (λ l. get_or l j false) made ∙ get_or-set_other now at j true false other in (
          (λ h. elim ((was.bits j).0 ((in_bit now j).1 (sym same ∙ (in_bit new j).0 h))) [ inl o ↦ inl o | inr p ↦ (let low = p.1 in inr (p.0, omega arith, p.2)) ]),
          (λ w. (in_bit new j).1 (same ∙ (in_bit now j).0 ((was.bits j).1 (elim w [
            | inl o ↦ inl o
            | inr p ↦ elim (cases_lt p.0 k) [ inl low ↦ inr (p.0, low, p.2) | inr past ↦ absurd (let high = p.1 in let e : p.0 ≡ k = omega arith in other (sym p.2 ∙ ap (place (length old) hash) e ∙ sym is)) ]
          ])))),
        )
        )
  ];
}

-- a hash whose places were marked is found, and one that was found still is
pub found_marked : (old new : Filter) (hash : ℕ) → new.functions ≡ old.functions → IsMarked old.bits new.bits hash old.functions → IsFound new hash
found_marked old new hash same marked i low =
    let size = marked.size in
    (marked.bits (place (length new.bits) hash i)).1 (inr (i, omega arith, ap (λ n. place n hash i) (sym size)))

-- what is found stays found as another item is inserted
pub found_still : (old new : Filter) (hash other : ℕ) → new.functions ≡ old.functions → IsMarked old.bits new.bits hash old.functions → IsFound old other → IsFound new other
found_still old new hash other same marked was i low =
    let place_is : place (length new.bits) other i ≡ place (length old.bits) other i = ap (λ n. place n other i) marked.size in
    (marked.bits (place (length new.bits) other i)).1 (inl (subst (λ j. slice_get old.bits j ≡ Some true) (sym place_is) (was i (omega arith))))

-- one place more that is set goes on with the search
pub found_more : (bits : List Bool) (n hash k at : ℕ) → at ≡ place n hash k → ((i : ℕ) → i < k → slice_get bits (place n hash i) ≡ Some true) → slice_get bits at ≡ Some true → (i : ℕ) → i < k + 1 → slice_get bits (place n hash i) ≡ Some true
found_more bits n hash k at is before here i low = elim (cases_lt i k) [
  | inl earlier ↦ before i earlier
  | inr past ↦ (let e : i ≡ k = omega arith in ap (λ j. slice_get bits (place n hash j)) e ∙ ap (slice_get bits) (sym is) ∙ here)
]

-- what a read with false past the end tells
pub told_here : (bits : List Bool) (at : ℕ) (r : Option Bool) → r ≡ slice_get bits at → unwrap_or r false ≡ true → slice_get bits at ≡ Some true
told_here bits at None is told = cc
told_here bits at (Some b) is told = sym is ∙ ap Some told

-- a place that is not set shows that the item was not inserted
pub told_absent : (bits : List Bool) (at : ℕ) (r : Option Bool) → r ≡ slice_get bits at → unwrap_or r false ≡ false → slice_get bits at ≢ Some true
told_absent bits at None is told here = let e = is ∙ here in cc
told_absent bits at (Some b) is told here = let e = is ∙ here in cc

-- the bits that are true in both filters of one shape are true in their union
pub found_in_either : (old other new : Filter) (hash : ℕ) → length old.bits ≡ length other.bits → old.functions ≡ other.functions → new.bits ≡ or_of old.bits other.bits → length new.bits ≡ length old.bits → new.functions ≡ old.functions → (IsFound old hash ⊎ IsFound other hash) → IsFound new hash
found_in_either old other new hash size functions made same kept where_found i low =
    let at : ℕ = place (length new.bits) hash i in
    let here : IsIn old.bits at ⊎ IsIn other.bits at = elim where_found [
      | inl f ↦ inl (subst (λ n. IsIn old.bits (place n hash i)) (sym same) (f i (omega arith)))
      | inr f ↦ inr (subst (λ n. IsIn other.bits (place n hash i)) (sym (same ∙ size)) (f i (omega arith)))
    ] in
    ap (λ l. slice_get l at) made ∙ (in_union old.bits other.bits (omega arith) at).1 here

-- ---- one place after another

-- a sum of remainders has the sum's remainder
sum_mod : (x s n : ℕ) → (x % n + s % n) % n ≡ (x + s) % n
sum_mod x s n =
    let whole : x % n + s % n + n * (x / n) + n * (s / n) ≡ x + s = omega (arith, mod-add-div x n, mod-add-div s n) in
    sym (add-mul-mod_self_left (x % n + s % n) n (x / n)) ∙ sym (add-mul-mod_self_left (x % n + s % n + n * (x / n)) n (s / n)) ∙ ap (λ m. m % n) whole

-- the next place is the present one plus the step, modulo the size
pub next_place : (n hash i : ℕ) → (place n hash i + (hash / 2 ^ 32 + 1) % n) % n ≡ place n hash (i + 1)
next_place n hash i =
    let step : ℕ = hash / 2 ^ 32 + 1 in
    let more : hash % 2 ^ 32 + i * step + step ≡ hash % 2 ^ 32 + (i + 1) * step = one_more (hash % 2 ^ 32) i step in
    sum_mod (hash % 2 ^ 32 + i * step) step n ∙ ap (λ m. m % n) more
  where
    one_more : (a i s : ℕ) → a + i * s + s ≡ a + (i + 1) * s
    one_more a i s = let e : (i + 1) * s ≡ i * s + s = rw add-one (suc-mul i s) in omega arith
