-- Ascending numbers grouped into runs.
use Rattle.std.proofs.Common.{◌≡◌, ℕ, zero, suc, ◌+◌, ◌-◌, ◌<◌, ◌≤◌, cond, nat_eq, List, [], ◌∷◌, ◌++◌, append_assoc, get_or, length, drop, refl, sym, ◌∙◌, ap, subst, inl, inr, arith}
use Rattle.std.specs.List.{range_with_len}
use Rattle.std.proofs.lemmas.Bool.{cases_eq, eq-eqb, ne_eqb}
use Rattle.bit_blocks.specs.Numbers.{AscendsIn, Ascends}
use Rattle.bit_blocks.specs.Runs.{AreRuns, AreRunsFrom, numbers_of_run, run_numbers}
use Rattle.bit_blocks.specs.declared.ranged.Run.{Run}

abbrev pub run : ℕ → ℕ → Run
run first last = record { first = first; last = last }

-- the runs of a run that may go on, and of the numbers after it
abbrev pub grouped : ℕ → ℕ → List ℕ → List Run
grouped first last [] = run first last ∷ []
grouped first last (x ∷ xs) = cond (nat_eq x (last + 1)) (grouped first x xs) (run first last ∷ grouped x x xs)

-- the next number goes on with a run
grouped_on : (first last x : ℕ) (xs : List ℕ) → x ≡ last + 1 → grouped first last (x ∷ xs) ≡ grouped first x xs
grouped_on first last x xs next = ap (λ b. cond b (grouped first x xs) (run first last ∷ grouped x x xs)) (eq-eqb x (last + 1) next)

-- or begins another
grouped_new : (first last x : ℕ) (xs : List ℕ) → (x ≡ last + 1 → ⊥) → grouped first last (x ∷ xs) ≡ run first last ∷ grouped x x xs
grouped_new first last x xs other = ap (λ b. cond b (grouped first x xs) (run first last ∷ grouped x x xs)) (ne_eqb x (last + 1) other)

-- they are runs
are_grouped : (from first last : ℕ) (xs : List ℕ) → from ≤ first → first ≤ last → last < 65536 → AscendsIn (last + 1) 65536 xs → AreRunsFrom from (grouped first last xs)
are_grouped from first last [] low ordered most h = (low, ordered, most, tt)
are_grouped from first last (x ∷ xs) low ordered most h = let up = h.0 in elim (cases_eq x (last + 1)) [
  | inl next ↦ subst (AreRunsFrom from) (sym (grouped_on first last x xs next)) (are_grouped from first x xs low (omega arith) h.1 h.2)
  | inr other ↦ subst (AreRunsFrom from) (sym (grouped_new first last x xs other)) (low, ordered, most, are_grouped (last + 2) x x xs (omega arith) (omega arith) h.1 h.2)
]

-- one number more at the end of a range
pub range_more : (a n m : ℕ) → m ≡ a + n → range_with_len a (suc n) ≡ range_with_len a n ++ m ∷ []
range_more a zero m at = ap (λ k. k ∷ []) (omega arith)
range_more a (suc n) m at = ap (λ l. a ∷ l) (range_more (a + 1) n m (omega arith))

-- and have the same numbers
numbers_grouped : (first last : ℕ) (xs : List ℕ) → first ≤ last → AscendsIn (last + 1) 65536 xs → run_numbers (grouped first last xs) ≡ numbers_of_run (run first last) ++ xs
numbers_grouped first last [] ordered h = refl
numbers_grouped first last (x ∷ xs) ordered h = let up = h.0 in elim (cases_eq x (last + 1)) [
  | inl next ↦ (
      let size : x + 1 - first ≡ suc (last + 1 - first) = omega arith in
      ap run_numbers (grouped_on first last x xs next) ∙ numbers_grouped first x xs (omega arith) h.2
      ∙ ap (λ n. range_with_len first n ++ xs) size ∙ ap (λ l. l ++ xs) (range_more first (last + 1 - first) x (omega arith)) ∙ append_assoc (range_with_len first (last + 1 - first)) (x ∷ []) xs)
  | inr other ↦ (
      let size : x + 1 - x ≡ 1 = omega arith in
      ap run_numbers (grouped_new first last x xs other)
      ∙ ap (λ l. numbers_of_run (run first last) ++ l) (numbers_grouped x x xs (omega arith) h.2 ∙ ap (λ n. range_with_len x n ++ xs) size))
]

-- ---- numbers that are read one after another

-- the rest of a list begins with the number at its index
pub rest_begins : (xs : List ℕ) (i : ℕ) → i < length xs → drop i xs ≡ get_or xs i 0 ∷ drop (i + 1) xs
rest_begins xs i inside = let e : i + 1 ≡ suc i = omega arith in next xs i inside ∙ ap (λ n. get_or xs i 0 ∷ drop n xs) (sym e)
  where
    next : (l : List ℕ) (n : ℕ) → n < length l → drop n l ≡ get_or l n 0 ∷ drop (suc n) l
    next [] n h = absurd (omega arith)
    next (x ∷ l) zero h = refl
    next (x ∷ l) (suc n) h = next l n (omega arith)

-- runs that were made, and those still to be made, are all of them
pub record GroupedTo (xs : List ℕ) (made : List Run) (i first last : ℕ) : Type 0 where
  pub all : made ++ grouped first last (drop i xs) ≡ grouped (get_or xs 0 0) (get_or xs 0 0) (drop 1 xs)

pub drop_end : (l : List ℕ) (n : ℕ) → length l ≤ n → drop n l ≡ []
drop_end [] zero e = refl
drop_end [] (suc n) e = refl
drop_end (x ∷ l) zero e = absurd (omega arith)
drop_end (x ∷ l) (suc n) e = drop_end l n (omega arith)

all_grouped : (xs : List ℕ) (made new : List Run) (i first last : ℕ) → length xs ≤ i → GroupedTo xs made i first last → new ≡ made ++ run first last ∷ [] → new ≡ grouped (get_or xs 0 0) (get_or xs 0 0) (drop 1 xs)
all_grouped xs made new i first last past g is = is ∙ ap (λ l. made ++ grouped first last l) (sym (drop_end xs i past)) ∙ g.all

pub runs_grouped : (xs : List ℕ) (made new : List Run) (i first last : ℕ) → Ascends xs → 0 < length xs → length xs ≤ i → GroupedTo xs made i first last → new ≡ made ++ run first last ∷ [] → AreRuns new
runs_grouped [] made new i first last h some past g is = absurd (omega arith)
runs_grouped (x ∷ xs) made new i first last h some past g is =
    subst AreRuns (sym (all_grouped (x ∷ xs) made new i first last past g is)) (are_grouped 0 x x xs (omega arith) (omega arith) h.1 h.2)

pub same_grouped : (xs : List ℕ) (made new : List Run) (i first last : ℕ) → Ascends xs → 0 < length xs → length xs ≤ i → GroupedTo xs made i first last → new ≡ made ++ run first last ∷ [] → run_numbers new ≡ xs
same_grouped [] made new i first last h some past g is = absurd (omega arith)
same_grouped (x ∷ xs) made new i first last h some past g is =
    let size : x + 1 - x ≡ 1 = omega arith in
    ap run_numbers (all_grouped (x ∷ xs) made new i first last past g is) ∙ numbers_grouped x x xs (omega arith) h.2 ∙ ap (λ n. range_with_len x n ++ xs) size
