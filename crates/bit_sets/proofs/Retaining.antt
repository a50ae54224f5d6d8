-- The numbers of a set that a function keeps, and those that an iterator gives.
use Rattle.std.proofs.Common.{◌≡◌, ◌≢◌, ℕ, zero, suc, ◌+◌, ◌<◌, ◌≤◌, Bool, true, false, cond, List, [], ◌∷◌, ◌++◌, get_or, length, max, refl, sym, ◌∙◌, ap, subst, inl, inr, arith, append-nil, Option}
use Rattle.std.specs.Prelude.{◌⊎◌, ◌↔◌, Contains}
use Rattle.std.specs.Iterator.{Yields}
use Rattle.std.specs.List.{filter, items_where_true, range_with_len}
use Rattle.std.proofs.lemmas.Bool.{cases_eq}
use Rattle.std.proofs.lemmas.List.Elements.{Contains-append_left, Contains-push, Contains-push_cases, filter-append}
use Rattle.bit_addressing.specs.declared.length.TheConstants.{MAX_BITS}
use Rattle.bit_slice.proofs.Places.{ranges_joined}
use Rattle.bit_slice.specs.Places.{ones_of}
use Rattle.bit_sets.specs.InTurn.{ResultsInTurn, HasTaken, IsRefused, bound_of}
use Rattle.bit_sets.specs.NumberSet.{IsIn}

-- ---- calls in turn

module _ {F : Type 0} (step : F → ℕ → Bool → F → Type 0) where
  -- one call more
  pub in_turn_more : (f : F) (numbers : List ℕ) (results : List Bool) (g : F) (number : ℕ) (given : Bool) (h : F) → ResultsInTurn step f numbers results g → step g number given h → ResultsInTurn step f (numbers ++ number ∷ []) (results ++ given ∷ []) h
  in_turn_more f [] results g number given h run called = (given, [], h, rw run.0 refl, rw run.1 called, (refl, refl))
  in_turn_more f (n ∷ numbers) results g number given h run called = (run.0, run.1 ++ given ∷ [], run.2, rw run.3 refl, run.4, in_turn_more run.2 numbers run.1 g number given h run.5 called)

  -- there is one result for each number
  pub length-in_turn : (f : F) (numbers : List ℕ) (results : List Bool) (g : F) → ResultsInTurn step f numbers results g → length results ≡ length numbers
  length-in_turn f [] results g run = rw run.0 refl
  length-in_turn f (n ∷ numbers) results g run = rw run.3 (ap suc (length-in_turn run.2 numbers run.1 g run.5))

  -- where each call returned what a test says of the number, the numbers that pass it are kept
  pub in_turn_filter : (test : ℕ → Bool) → ((f : F) (number : ℕ) (given : Bool) (next : F) → step f number given next → given ≡ test number)
      → (f : F) (numbers : List ℕ) (results : List Bool) (last : F) → ResultsInTurn step f numbers results last → items_where_true results numbers ≡ filter test numbers
  in_turn_filter test says f [] results last run = rw run.0 refl
  in_turn_filter test says f (n ∷ numbers) results last run =
      let same : run.0 ≡ test n = says f n run.0 run.2 run.4 in
      let rest = in_turn_filter test says run.2 numbers run.1 last run.5 in
      rw (run.3, same) (first (test n) n numbers run.1 ∙ ap (λ l. cond (test n) (n ∷ l) l) rest)
    where
      first : (b : Bool) (n : ℕ) (numbers : List ℕ) (later : List Bool) → items_where_true (b ∷ later) (n ∷ numbers) ≡ cond b (n ∷ items_where_true later numbers) (items_where_true later numbers)
      first true n numbers later = refl
      first false n numbers later = refl

kept_more : (numbers : List ℕ) (results : List Bool) (n : ℕ) (b : Bool) → length results ≡ length numbers → items_where_true (results ++ b ∷ []) (numbers ++ n ∷ []) ≡ items_where_true results numbers ++ cond b (n ∷ []) []
kept_more [] [] n true e = refl
kept_more [] [] n false e = refl
kept_more [] (a ∷ results) n b e = absurd (omega arith)
kept_more (m ∷ numbers) [] n b e = absurd (omega arith)
kept_more (m ∷ numbers) (true ∷ results) n b e = ap (λ l. m ∷ l) (kept_more numbers results n b (omega arith))
kept_more (m ∷ numbers) (false ∷ results) n b e = kept_more numbers results n b (omega arith)

-- ---- the numbers of a set below an index

abbrev ones_below : List Bool → ℕ → List ℕ
ones_below xs n = filter (λ i. get_or xs i false) (range_with_len 0 n)

one_more : (xs : List Bool) (n : ℕ) → ones_below xs (suc n) ≡ ones_below xs n ++ cond (get_or xs n false) (n ∷ []) []
one_more xs n =
    let more : suc n ≡ n + 1 = omega arith in
    let from : 0 + n ≡ n = omega arith in
    ap (ones_below xs) more ∙ ap (filter (λ i. get_or xs i false)) (ranges_joined 0 n 1 ∙ ap (λ k. range_with_len 0 n ++ range_with_len k 1) from)
    ∙ filter-append (λ i. get_or xs i false) (range_with_len 0 n) (range_with_len n 1)

-- only items below an index matter
below_same : (xs ys : List Bool) (n : ℕ) → ((k : ℕ) → k < n → get_or xs k false ≡ get_or ys k false) → ones_below xs n ≡ ones_below ys n
below_same xs ys zero same = refl
below_same xs ys (suc n) same =
    one_more xs n ∙ ap (λ l. l ++ cond (get_or xs n false) (n ∷ []) []) (below_same xs ys n (λ k h. same k (omega arith)))
    ∙ ap (λ b. ones_below ys n ++ cond b (n ∷ []) []) (same n (omega arith)) ∙ sym (one_more ys n)

-- where none stands from an index on, the numbers are those below it
below_shorter : (xs : List Bool) (from n : ℕ) → from ≤ n → ((k : ℕ) → from ≤ k → k < n → get_or xs k false ≡ false) → ones_below xs n ≡ ones_below xs from
below_shorter xs from zero within absent = let none : from ≡ 0 = omega arith in ap (ones_below xs) (sym none)
below_shorter xs from (suc n) within absent = elim (cases_eq from (suc n)) [
  | inl same ↦ ap (ones_below xs) (sym same)
  | inr other ↦
      one_more xs n ∙ ap (λ b. ones_below xs n ++ cond b (n ∷ []) []) (absent n (omega arith) (omega arith)) ∙ append-nil (ones_below xs n)
      ∙ below_shorter xs from n (omega arith) (λ k low high. absent k low (omega arith))
]

-- ---- a set of which the numbers below an index were asked for

module _ {F : Type 0} (step : F → ℕ → Bool → F → Type 0) where
  -- the numbers below `from` were asked for, and those stayed at which a call returned true; from there on nothing changed
  pub record HasRetained (f : F) (old : List Bool) (now : F) (new : List Bool) (from : ℕ) : Type 0 where
    pub bound : length new ≡ length old
    pub inside : from ≤ length old
    pub rest : (k : ℕ) → from ≤ k → get_or new k false ≡ get_or old k false
    pub results : List Bool
    pub calls : ResultsInTurn step f (ones_below old from) results now
    pub kept : ones_below new from ≡ items_where_true results (ones_below old from)

  module _ (f : F) (old : List Bool) (now : F) (new : List Bool) (from : ℕ) (was : HasRetained f old now new from) where
    -- no number is left
    pub retained_all : ((k : ℕ) → from ≤ k → get_or new k false ≡ false) → (results : List Bool) × ResultsInTurn step f (ones_of old) results now × (ones_of new ≡ items_where_true results (ones_of old))
    retained_all none =
        let all : ones_below old (length old) ≡ ones_below old from = below_shorter old from (length old) was.inside (λ k low high. sym (was.rest k low) ∙ none k low) in
        let left : ones_below new (length new) ≡ ones_below new from = let inside = was.inside in let bound = was.bound in below_shorter new from (length new) (omega arith) (λ k low high. none k low) in (
          was.results,
          subst (λ numbers. ResultsInTurn step f numbers was.results now) (sym all) was.calls,
          left ∙ was.kept ∙ ap (items_where_true was.results) (sym all),
        )

    module _ (number : ℕ) (low : from ≤ number) (here : get_or new number false ≡ true) (before : (k : ℕ) → from ≤ k → k < number → get_or new k false ≡ false) (inside : number < length old) (given : Bool) (next : F) (called : step now number given next) where
      asked : ones_below old (suc number) ≡ ones_below old from ++ number ∷ []
      asked =
          one_more old number ∙ ap (λ b. ones_below old number ++ cond b (number ∷ []) []) (sym (was.rest number low) ∙ here)
          ∙ ap (λ l. l ++ number ∷ []) (below_shorter old from number low (λ k at under. sym (was.rest k at) ∙ before k at under))

      -- the next number was asked for, and it stayed or went
      retained_next : (then : List Bool) → length then ≡ length new → ((k : ℕ) → k ≢ number → get_or then k false ≡ get_or new k false) → get_or then number false ≡ given → HasRetained f old next then (suc number)
      retained_next then size others bit = record {
        bound = size ∙ was.bound;
        inside = omega arith;
        rest = λ k past. others k (omega arith) ∙ was.rest k (omega arith);
        results = was.results ++ given ∷ [];
        calls = subst (λ numbers. ResultsInTurn step f numbers (was.results ++ given ∷ []) next) (sym asked) (in_turn_more step f (ones_below old from) was.results now number given next was.calls called);
        kept =
            one_more then number ∙ ap (λ b. ones_below then number ++ cond b (number ∷ []) []) bit
            ∙ ap (λ l. l ++ cond given (number ∷ []) []) (below_same then new number (λ k under. others k (omega arith)) ∙ below_shorter new from number low before ∙ was.kept)
            ∙ sym (ap (items_where_true (was.results ++ given ∷ [])) asked ∙ kept_more (ones_below old from) was.results number given (length-in_turn step f (ones_below old from) was.results now was.calls));
      }

      -- one number more is kept as its result says
      pub retained_more : (then : List Bool) (index : ℕ) → index ≡ number + 1 → length then ≡ length new → ((k : ℕ) → k ≢ number → get_or then k false ≡ get_or new k false) → get_or then number false ≡ given → HasRetained f old next then index
      retained_more then index at size others bit = let same : suc number ≡ index = omega arith in subst (HasRetained f old next then) same (retained_next then size others bit)

-- ---- numbers that are put in

-- one number more
bound_more : (numbers : List ℕ) (number : ℕ) → bound_of (numbers ++ number ∷ []) ≡ max (bound_of numbers) (number + 1)
bound_more [] number = omega arith
bound_more (n ∷ numbers) number = let e = bound_more numbers number in omega arith

-- one number more is taken into the set
pub taken_more : (old now new : List Bool) (numbers : List ℕ) (number : ℕ) → HasTaken old now numbers → length new ≡ max (length now) (number + 1) → ((k : ℕ) → IsIn new k ↔ ((k ≡ number) ⊎ IsIn now k)) → HasTaken old new (numbers ++ number ∷ [])
taken_more old now new numbers number was size members = record {
  bound = let a = was.bound in let b = bound_more numbers number in omega arith;
  members = λ k. (
    (λ h. elim ((members k).0 h) [
      | inl same ↦ inr (subst (Contains (numbers ++ number ∷ [])) (sym same) (Contains-push numbers number))
      | inr there ↦ elim ((was.members k).0 there) [ inl old ↦ inl old | inr one ↦ inr (Contains-append_left numbers (number ∷ []) k one) ]
    ]),
    (λ h. (members k).1 (elim h [
      | inl old ↦ inr ((was.members k).1 (inl old))
      | inr one ↦ elim (Contains-push_cases numbers number k one) [ inl there ↦ inr ((was.members k).1 (inr there)) | inr same ↦ inl (sym same) ]
    ])),
  );
}

-- a number that could not be put in
pub refused_at : (old now new : List Bool) (numbers : List ℕ) (number : ℕ) (too_long : Type 0) → HasTaken old now numbers → new ≡ now → length now ≤ number → (too_long ↔ (MAX_BITS ≤ number)) → IsRefused old new (numbers ++ number ∷ []) too_long
refused_at old now new numbers number too_long was same past why = record {
  earlier = numbers;
  number = number;
  all = refl;
  taken = subst (λ s. HasTaken old s numbers) (sym same) was;
  past = let long = ap length same in omega arith;
  why = why;
}

-- the items before the last ones
pub yields_front : {S A : Type 0} (steps : S → Option A → S → Type 0) (s : S) (xs ys : List A) (t : S) → Yields steps s (xs ++ ys) t → (m : S) × Yields steps s xs m
yields_front steps s [] ys t run = (s, refl)
yields_front steps s (x ∷ xs) ys t run = let more = yields_front steps run.0 xs ys t run.2 in (more.0, (run.0, run.1, more.1))

-- what a set that was empty has taken
pub taken_new : (new : List Bool) (numbers : List ℕ) → HasTaken [] new numbers → (length new ≡ bound_of numbers) × ((k : ℕ) → IsIn new k ↔ Contains numbers k)
taken_new new numbers taken =
    let bound = taken.bound in (
      omega arith,
      (λ k. ((λ h. elim ((taken.members k).0 h) [ inl none ↦ cc | inr here ↦ here ]), (λ h. (taken.members k).1 (inr h)))),
    )
