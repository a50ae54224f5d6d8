-- The members of what is made of two sets.
use Rattle.std.proofs.Common.{◌≡◌, ◌≢◌, ℕ, zero, suc, Bool, true, false, not, ◌&&◌, ◌||◌, List, [], ◌∷◌, ◌++◌, ◌<◌, ◌≤◌, ◌+◌, ◌-◌, ap, append-nil, get_or, max, min, replicate, length, subst, sym, ◌∙◌, slice_get, None, Option, Some, refl, inl, inr, arith}
use Rattle.std.specs.Prelude.{◌⊎◌, ◌↔◌, IfNone, IfSome, if◌then◌else◌}
use Rattle.std.proofs.lemmas.Bool.{cases_lt, true≢false}
use Rattle.std.proofs.lemmas.Option.{get_or_from_slice_get, slice_get-get_or}
use Rattle.bit_addressing.specs.Row.{put}
use Rattle.bit_addressing.proofs.lists.Put.{put_before, put_after, put_inside}
use Rattle.bit_slice.specs.Operators.{and_of, and_not_of, or_of, xor_of}
use Rattle.bit_slice.proofs.Combining.{length-combined}
use Rattle.bit_containers.proofs.Making.{combined_all}
use Rattle.std.proofs.lemmas.List.{get_or-replicate, get_or_past, length-append, length-replicate}
use Rattle.bit_containers.specs.Making.{CombinesAll, filled_up}
use Rattle.std.specs.Fmt.{decimal}
use Rattle.std.specs.List.{flat_map}
use Rattle.bit_slice.specs.Places.{ones_of}
use Rattle.bit_sets.specs.NumberSet.{IsIn, numbers_text, set_text}

no_item : (b : Bool) (k : ℕ) → slice_get {X = Bool} [] k ≢ Some b
no_item b k e = cc

union_is : (x y : Bool) → (Some (x || y) ≡ Some true) ↔ ((Some x ≡ Some true) ⊎ (Some y ≡ Some true))
union_is true y = (λ e. inl refl, λ e. refl)
union_is false y = (λ e. inr e, λ e. elim e [ inl f ↦ cc | inr f ↦ f ])

both_is : (x y : Bool) → (Some (x && y) ≡ Some true) ↔ ((Some x ≡ Some true) × (Some y ≡ Some true))
both_is true y = (λ e. (refl, e), λ e. e.1)
both_is false y = (λ e. cc, λ e. cc)

less_is : (x y : Bool) → (Some (x && not y) ≡ Some true) ↔ ((Some x ≡ Some true) × (Some y ≢ Some true))
less_is true true = (λ e. cc, λ e. absurd (e.1 refl))
less_is true false = (λ e. (refl, λ f. cc), λ e. refl)
less_is false y = (λ e. cc, λ e. cc)

none_and : (x : Bool) → Some (x && false) ≢ Some true
none_and true h = cc
none_and false h = cc

alone_is : (x : Bool) → (Some (x || false) ≡ Some true) ↔ ((Some x ≡ Some true) ⊎ (slice_get {X = Bool} [] 0 ≡ Some true))
alone_is true = (λ e. inl refl, λ e. refl)
alone_is false = (λ e. cc, λ e. elim e [ inl f ↦ f | inr f ↦ absurd (no_item true 0 f) ])

left_is : (x : Bool) → (Some (x && true) ≡ Some true) ↔ ((Some x ≡ Some true) × (slice_get {X = Bool} [] 0 ≢ Some true))
left_is true = (λ e. (refl, no_item true 0), λ e. refl)
left_is false = (λ e. cc, λ e. e.0)

-- a shorter list on the right is filled up with false
pub in_union : (xs ys : List Bool) → length ys ≤ length xs → (k : ℕ) → IsIn (or_of xs ys) k ↔ (IsIn xs k ⊎ IsIn ys k)
in_union [] [] e k = (λ h. inl h, λ h. elim h [ inl f ↦ f | inr f ↦ f ])
in_union [] (y ∷ ys) e k = absurd (omega arith)
in_union (x ∷ xs) [] e zero = alone_is x
in_union (x ∷ xs) [] e (suc k) = in_union xs [] (omega arith) k
in_union (x ∷ xs) (y ∷ ys) e zero = union_is x y
in_union (x ∷ xs) (y ∷ ys) e (suc k) = in_union xs ys (omega arith) k

-- the members of an intersection are in both sets
pub in_both : (xs ys : List Bool) (k : ℕ) → IsIn (and_of xs ys) k ↔ (IsIn xs k × IsIn ys k)
in_both [] ys k = (λ h. absurd (no_item true k h), λ h. h.0)
in_both (x ∷ xs) [] zero = (λ h. absurd (none_and x h), λ h. absurd (no_item true 0 h.1))
in_both (x ∷ xs) [] (suc k) = in_both xs [] k
in_both (x ∷ xs) (y ∷ ys) zero = both_is x y
in_both (x ∷ xs) (y ∷ ys) (suc k) = in_both xs ys k

-- the members of a difference are in the first set alone
pub in_difference : (xs ys : List Bool) (k : ℕ) → IsIn (and_not_of xs ys) k ↔ (IsIn xs k × (IsIn ys k → ⊥))
in_difference [] ys k = (λ h. absurd (no_item true k h), λ h. h.0)
in_difference (x ∷ xs) [] zero = left_is x
in_difference (x ∷ xs) [] (suc k) = in_difference xs [] k
in_difference (x ∷ xs) (y ∷ ys) zero = less_is x y
in_difference (x ∷ xs) (y ∷ ys) (suc k) = in_difference xs ys k

-- what is filled up with false has the same members
in_front : (xs : List Bool) (n k : ℕ) → IsIn (xs ++ replicate n false) k ↔ IsIn xs k
in_front [] zero k = (λ h. h, λ h. h)
in_front [] (suc n) zero = (λ h. cc, λ h. cc)
in_front [] (suc n) (suc k) = in_front [] n k
in_front (x ∷ xs) n zero = (λ h. h, λ h. h)
in_front (x ∷ xs) n (suc k) = in_front xs n k

-- the longer of two bounds, and the members of both
pub united : (xs ys zs : List Bool) (n : ℕ) → n ≡ length ys → zs ≡ or_of (filled_up xs n) ys → (k : ℕ) → IsIn zs k ↔ (IsIn xs k ⊎ IsIn ys k)
united xs ys zs n size is k =
    let long : length (filled_up xs n) ≡ length xs + (n - length xs) = simp (length-append, length-replicate) refl in
    let both = in_union (filled_up xs n) ys (omega arith) k in
    let front = in_front xs (n - length xs) k in (
      (λ h. elim (both.0 (subst (λ l. IsIn l k) is h)) [ inl f ↦ inl (front.0 f) | inr f ↦ inr f ]),
      (λ h. subst (λ l. IsIn l k) (sym is) (both.1 (elim h [ inl f ↦ inl (front.1 f) | inr f ↦ inr f ]))),
    )

-- a number is in a set where its bit is true
pub in_bit : (xs : List Bool) (k : ℕ) → IsIn xs k ↔ (get_or xs k false ≡ true)
in_bit xs k = (
  (λ here. get_or_from_slice_get xs k true false here),
  (λ set. elim (cases_lt k (length xs)) [ inl low ↦ slice_get-get_or xs k false low ∙ ap Some set | inr past ↦ absurd (true≢false (sym set ∙ get_or_past xs k false past)) ]),
)

-- a number that is not in a set
pub out_bit : (xs : List Bool) (k : ℕ) → (IsIn xs k → ⊥) → get_or xs k false ≡ false
out_bit xs k out = is_false (get_or xs k false) (λ is. out ((in_bit xs k).1 is))
  where
    is_false : (b : Bool) → (b ≡ true → ⊥) → b ≡ false
    is_false true h = absurd (h refl)
    is_false false h = refl

-- a member is below the bound
pub inside_bound : (xs : List Bool) (k : ℕ) → IsIn xs k → k < length xs
inside_bound xs k here = elim (cases_lt k (length xs)) [ inl low ↦ low | inr past ↦ absurd (true≢false (sym ((in_bit xs k).0 here) ∙ get_or_past xs k false past)) ]

-- the bits of a range that was filled, and those outside
range_bit : (xs : List Bool) (a b : ℕ) (bit : Bool) (k : ℕ) → a ≤ b → b ≤ length xs → a ≤ k → k < b → get_or (put xs a (replicate (b - a) bit)) k false ≡ bit
range_bit xs a b bit k ordered inside low high =
    let size = length-replicate (b - a) bit in
    put_inside xs (replicate (b - a) bit) a k false (omega arith) low (omega arith) ∙ get_or-replicate (b - a) (k - a) bit false (omega arith)

outside_bit : (xs : List Bool) (a b : ℕ) (bit : Bool) (k : ℕ) → a ≤ b → b ≤ length xs → (k < a) ⊎ (b ≤ k) → get_or (put xs a (replicate (b - a) bit)) k false ≡ get_or xs k false
outside_bit xs a b bit k ordered inside out =
    let size = length-replicate (b - a) bit in
    elim out [
      | inl low ↦ put_before xs (replicate (b - a) bit) a k false (omega arith) low
      | inr high ↦ put_after xs (replicate (b - a) bit) a k false (omega arith) (omega arith)
    ]

-- a number is in a range or outside it
pub in_range : (k a b : ℕ) → ((a ≤ k) × (k < b)) ⊎ ((k < a) ⊎ (b ≤ k))
in_range k a b = elim (cases_lt k a) [ inl low ↦ inr (inl low) | inr l ↦ elim (cases_lt k b) [ inl m ↦ inl (l, m) | inr m ↦ inr (inr m) ] ]

-- inserting a range adds its numbers
pub filled_in : (xs : List Bool) (a b : ℕ) → a ≤ b → b ≤ length xs → (k : ℕ) → IsIn (put xs a (replicate (b - a) true)) k ↔ (((a ≤ k) × (k < b)) ⊎ IsIn xs k)
filled_in xs a b ordered inside k =
    let now = in_bit (put xs a (replicate (b - a) true)) k in
    let was = in_bit xs k in (
      (λ here. elim (in_range k a b) [ inl l ↦ inl l | inr out ↦ inr (was.1 (sym (outside_bit xs a b true k ordered inside out) ∙ now.0 here)) ]),
      (λ w. now.1 (elim (in_range k a b) [
        | inl l ↦ range_bit xs a b true k ordered inside l.0 l.1
        | inr out ↦ outside_bit xs a b true k ordered inside out ∙ elim w [ inl l ↦ absurd (elim out [ inl low ↦ omega arith | inr high ↦ omega arith ]) | inr old ↦ was.0 old ]
      ])),
    )

-- removing a range takes its numbers out
pub filled_out : (xs : List Bool) (a b : ℕ) → a ≤ b → b ≤ length xs → (k : ℕ) → IsIn (put xs a (replicate (b - a) false)) k ↔ (((k < a) ⊎ (b ≤ k)) × IsIn xs k)
filled_out xs a b ordered inside k =
    let now = in_bit (put xs a (replicate (b - a) false)) k in
    let was = in_bit xs k in (
      (λ here. elim (in_range k a b) [
        | inl l ↦ absurd (true≢false (sym (now.0 here) ∙ range_bit xs a b false k ordered inside l.0 l.1))
        | inr out ↦ (out, was.1 (sym (outside_bit xs a b false k ordered inside out) ∙ now.0 here))
      ]),
      (λ w. now.1 (outside_bit xs a b false k ordered inside w.0 ∙ was.0 w.1)),
    )

-- the numbers of one set alone
one_alone : (x y : Bool) → ((if x then not y else y) ≡ true) ↔ (((x ≡ true) × ((y ≡ true) → ⊥)) ⊎ ((y ≡ true) × ((x ≡ true) → ⊥)))
one_alone true true = (λ e. cc, λ w. elim w [ inl l ↦ absurd (l.1 refl) | inr r ↦ absurd (r.1 refl) ])
one_alone true false = (λ e. inl (refl, λ f. cc), λ w. refl)
one_alone false true = (λ e. inr (refl, λ f. cc), λ w. refl)
one_alone false false = (λ e. cc, λ w. elim w [ inl l ↦ l.0 | inr r ↦ r.0 ])

toggled_each : (xs ys zs : List Bool) → length zs ≡ max (length xs) (length ys) → CombinesAll (λ x y. if x then not y else y) xs ys zs → (k : ℕ) → IsIn zs k ↔ ((IsIn xs k × (IsIn ys k → ⊥)) ⊎ (IsIn ys k × (IsIn xs k → ⊥)))
toggled_each xs ys zs size each k =
    let x = in_bit xs k in
    let y = in_bit ys k in
    let z = in_bit zs k in
    let one = one_alone (get_or xs k false) (get_or ys k false) in
    let bit : get_or zs k false ≡ (if get_or xs k false then not (get_or ys k false) else get_or ys k false) = elim (cases_lt k (length zs)) [
      | inl low ↦ each k low
      | inr past ↦ get_or_past zs k false past ∙ sym (ap (λ b. if b then not (get_or ys k false) else get_or ys k false) (get_or_past xs k false (omega arith)) ∙ get_or_past ys k false (omega arith))
    ] in (
      (λ here. elim (one.0 (sym bit ∙ z.0 here)) [ inl l ↦ inl (x.1 l.0, λ h. l.1 (y.0 h)) | inr r ↦ inr (y.1 r.0, λ h. r.1 (x.0 h)) ]),
      (λ w. z.1 (bit ∙ one.1 (elim w [ inl l ↦ inl (x.0 l.0, λ h. l.1 (y.1 h)) | inr r ↦ inr (y.0 r.0, λ h. r.1 (x.1 h)) ]))),
    )

-- toggling the members of another set leaves those of one set alone
pub toggled : (xs ys zs : List Bool) (n : ℕ) → n ≡ length ys → zs ≡ xor_of (filled_up xs n) ys → (k : ℕ) → IsIn zs k ↔ ((IsIn xs k × (IsIn ys k → ⊥)) ⊎ (IsIn ys k × (IsIn xs k → ⊥)))
toggled xs ys zs n all is =
    let long = length-append xs (replicate (n - length xs) false) in
    let more = length-replicate (n - length xs) false in
    let size : length zs ≡ length (filled_up xs n) = ap length is ∙ length-combined (λ x y. if x then not y else y) (filled_up xs n) ys in
    toggled_each xs ys zs (omega arith) (combined_all (λ x y. if x then not y else y) xs ys zs n is)

-- the same, of a list that is not longer
pub exchanged : (xs ys zs : List Bool) → length ys ≤ length xs → zs ≡ xor_of xs ys → (k : ℕ) → IsIn zs k ↔ ((IsIn xs k × (IsIn ys k → ⊥)) ⊎ (IsIn ys k × (IsIn xs k → ⊥)))
exchanged xs ys zs within is =
    let none : length ys - length xs ≡ 0 = omega arith in
    let same : filled_up xs (length ys) ≡ xs = ap (λ n. xs ++ replicate n false) none ∙ append-nil xs in
    toggled xs ys zs (length ys) refl (is ∙ ap (λ l. xor_of l ys) (sym same))

-- the numbers below a bound that are not in a set
pub complemented : (xs ys zs : List Bool) (n : ℕ) → ys ≡ replicate n true → ((k : ℕ) → IsIn zs k ↔ (IsIn ys k × (IsIn xs k → ⊥))) → (k : ℕ) → IsIn zs k ↔ ((k < n) × (IsIn xs k → ⊥))
complemented xs ys zs n is out k = (
  (λ h. let w = (out k).0 h in let low = inside_bound ys k w.0 in let size = ap length is in let all = length-replicate n true in (omega arith, w.1)),
  (λ w. (out k).1 ((in_bit ys k).1 (ap (λ l. get_or l k false) is ∙ get_or-replicate n k true false w.0), w.1)),
)

-- what is not found up to an index is not in the set up to a number
pub none_upto : (xs : List Bool) (limit upto before : ℕ) (r : Option ℕ) → length xs ≤ limit → before ≡ min upto limit + 1 → IfNone r ((j : ℕ) → j < before → j < length xs → slice_get xs j ≡ Some false) → IfNone r ((k : ℕ) → k ≤ upto → IsIn xs k → ⊥)
none_upto xs limit upto before (Some i) few is h = h
none_upto xs limit upto before None few is h = λ k most here. let low = inside_bound xs k here in let absent = h k (omega arith) low in cc

-- a search backward from a bound has no member after what it found
pub none_between : (xs : List Bool) (limit upto before : ℕ) (r : Option ℕ) → length xs ≤ limit → before ≡ min upto limit + 1 → IfSome r (λ i. (j : ℕ) → i < j → j < before → j < length xs → slice_get xs j ≡ Some false) → IfSome r (λ i. (k : ℕ) → i < k → k ≤ upto → IsIn xs k → ⊥)
none_between xs limit upto before None few is h = h
none_between xs limit upto before (Some i) few is h = λ k above most here. let low = inside_bound xs k here in let absent = h k above (omega arith) low in cc

-- the text of a set whose numbers were written one after another
pub set_written : (xs : List Bool) (first : ℕ) (rest : List ℕ) → ones_of xs ≡ first ∷ rest → ((123 ∷ decimal first) ++ flat_map (λ k. 44 ∷ 32 ∷ decimal k) rest) ++ 125 ∷ [] ≡ set_text xs
set_written xs first rest numbers = ap (λ l. (123 ∷ numbers_text l) ++ 125 ∷ []) (sym numbers)
