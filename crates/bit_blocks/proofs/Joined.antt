-- Ascending numbers in as few runs as there can be.
use Rattle.std.proofs.Common.{◌≡◌, ℕ, zero, suc, ◌+◌, ◌-◌, ◌<◌, ◌≤◌, Bool, true, false, cond, nat_eq, List, [], ◌∷◌, ◌++◌, drop, get_or, length, refl, sym, ◌∙◌, ap, subst, arith, inl, inr}
use Rattle.std.specs.List.{range_with_len}
use Rattle.std.proofs.lemmas.Bool.{cases_eq, eq-eqb, ne_eqb}
use Rattle.bit_blocks.specs.declared.ranged.Run.{Run}
use Rattle.bit_blocks.specs.Numbers.{Ascends, AscendsIn}
use Rattle.bit_blocks.proofs.Grouped.{drop_end, rest_begins}
use Rattle.bit_blocks.proofs.Runs.{few_runs}
use Rattle.bit_blocks.specs.Runs.{AreRuns, AreRunsFrom, joined, numbers_of_run, run_numbers, runs_of}

joined_on : (x : ℕ) (r : Run) (rs : List Run) → r.first ≡ x + 1 → joined x (r ∷ rs) ≡ record { first = x; last = r.last } ∷ rs
joined_on x r rs next = ap (λ b. cond b (record { first = x; last = r.last } ∷ rs) (record { first = x; last = x } ∷ r ∷ rs)) (eq-eqb r.first (x + 1) next)

joined_apart : (x : ℕ) (r : Run) (rs : List Run) → (r.first ≡ x + 1 → ⊥) → joined x (r ∷ rs) ≡ record { first = x; last = x } ∷ r ∷ rs
joined_apart x r rs apart = ap (λ b. cond b (record { first = x; last = r.last } ∷ rs) (record { first = x; last = x } ∷ r ∷ rs)) (ne_eqb r.first (x + 1) apart)

joined_good : (from x : ℕ) (rs : List Run) → from ≤ x → x < 65536 → AreRunsFrom (x + 1) rs → AreRunsFrom from (joined x rs)
joined_good from x [] low high good = (low, omega arith, high, tt)
joined_good from x (r ∷ rs) low high good =
    let begins : x + 1 ≤ r.first = good.0 in
    let ordered : r.first ≤ r.last = good.1 in
    elim (cases_eq r.first (x + 1)) [
      | inl next ↦ subst (AreRunsFrom from) (sym (joined_on x r rs next)) (low, omega arith, good.2, good.3)
      | inr apart ↦ subst (AreRunsFrom from) (sym (joined_apart x r rs apart)) (low, omega arith, high, (omega arith, good.1, good.2, good.3))
    ]

pub runs_good : (from : ℕ) (xs : List ℕ) → AscendsIn from 65536 xs → AreRunsFrom from (runs_of xs)
runs_good from [] h = tt
runs_good from (x ∷ xs) h = joined_good from x (runs_of xs) h.0 h.1 (runs_good (x + 1) xs h.2)

one_number : (x : ℕ) (rest : List ℕ) → numbers_of_run (record { first = x; last = x }) ++ rest ≡ x ∷ rest
one_number x rest = let one : x + 1 - x ≡ 1 = omega arith in ap (λ (n : ℕ). range_with_len x n ++ rest) one

joined_numbers : (x : ℕ) (rs : List Run) → AreRunsFrom (x + 1) rs → run_numbers (joined x rs) ≡ x ∷ run_numbers rs
joined_numbers x [] good = one_number x []
joined_numbers x (r ∷ rs) good =
    let ordered : r.first ≤ r.last = good.1 in
    elim (cases_eq r.first (x + 1)) [
      | inl next ↦ (
          let more : r.last + 1 - x ≡ suc (r.last + 1 - r.first) = omega arith in
          ap run_numbers (joined_on x r rs next)
          ∙ ap (λ (n : ℕ). range_with_len x n ++ run_numbers rs) more
          ∙ ap (λ (a : ℕ). x ∷ (range_with_len a (r.last + 1 - r.first) ++ run_numbers rs)) (sym next))
      | inr apart ↦ ap run_numbers (joined_apart x r rs apart) ∙ one_number x (run_numbers (r ∷ rs))
    ]

-- the runs have the numbers
pub runs_numbers : (from : ℕ) (xs : List ℕ) → AscendsIn from 65536 xs → run_numbers (runs_of xs) ≡ xs
runs_numbers from [] h = refl
runs_numbers from (x ∷ xs) h = joined_numbers x (runs_of xs) (runs_good (x + 1) xs h.2) ∙ ap (λ (t : List ℕ). x ∷ t) (runs_numbers (x + 1) xs h.2)

run_joined : (a n : ℕ) (rest : List ℕ) (rs : List Run) → AreRunsFrom (a + n + 2) rs → runs_of rest ≡ rs → runs_of (range_with_len a (suc n) ++ rest) ≡ record { first = a; last = a + n } ∷ rs
run_joined a zero rest [] good is = ap (joined a) is ∙ ap (λ (k : ℕ). record { first = a; last = k } ∷ []) (omega arith)
run_joined a zero rest (r ∷ rs) good is =
    let begins : a + 0 + 2 ≤ r.first = good.0 in
    ap (joined a) is ∙ joined_apart a r rs (λ e. omega arith) ∙ ap (λ (k : ℕ). record { first = a; last = k } ∷ r ∷ rs) (omega arith)
run_joined a (suc n) rest rs good is =
    let others = run_joined (a + 1) n rest rs (subst (λ (k : ℕ). AreRunsFrom k rs) (omega arith) good) is in
    ap (joined a) others ∙ joined_on a (record { first = a + 1; last = a + 1 + n }) rs refl ∙ ap (λ (k : ℕ). record { first = a; last = k } ∷ rs) (omega arith)

-- there is one way to write numbers as runs
pub runs_again : (from : ℕ) (rs : List Run) → AreRunsFrom from rs → runs_of (run_numbers rs) ≡ rs
runs_again from [] good = refl
runs_again from (r ∷ rs) good =
    let ordered : r.first ≤ r.last = good.1 in
    let n : ℕ = r.last - r.first in
    let size : r.last + 1 - r.first ≡ suc n = omega arith in
    let last : r.first + n ≡ r.last = omega arith in
    ap (λ (k : ℕ). runs_of (range_with_len r.first k ++ run_numbers rs)) size
    ∙ run_joined r.first n (run_numbers rs) rs (subst (λ (k : ℕ). AreRunsFrom (k + 2) rs) (sym last) good.3) (runs_again (r.last + 2) rs good.3)
    ∙ ap (λ (k : ℕ). record { first = r.first; last = k } ∷ rs) last

pub are_runs_of : (xs : List ℕ) (rs : List Run) → AreRuns rs → run_numbers rs ≡ xs → rs ≡ runs_of xs
are_runs_of xs rs good is = sym (runs_again 0 rs good) ∙ ap runs_of is

-- ---- how many runs there are

pub count_again : (rs : List Run) → AreRuns rs → length rs ≡ length (runs_of (run_numbers rs))
count_again rs good = ap length (sym (runs_again 0 rs good))

-- there are at most half as many as numbers below 65536
pub few_runs_of : (xs : List ℕ) → Ascends xs → length (runs_of xs) ≤ 32768
few_runs_of xs h = let few = few_runs 0 (runs_of xs) (omega arith) (runs_good 0 xs h) in omega arith

-- how many numbers do not follow the one before them
abbrev pub breaks : ℕ → List ℕ → ℕ
breaks last [] = 0
breaks last (x ∷ xs) = cond (nat_eq x (last + 1)) 0 1 + breaks x xs

-- a number before a run makes one run more, if the run does not follow it
joined_size : (x : ℕ) (r : Run) (rs : List Run) → length (joined x (r ∷ rs)) ≡ cond {A = ℕ} (nat_eq r.first (x + 1)) 0 1 + length (r ∷ rs)
joined_size x r rs = by_test (nat_eq r.first (x + 1))
  where
    by_test : (b : Bool) → length (cond b (record { first = x; last = r.last } ∷ rs) (record { first = x; last = x } ∷ r ∷ rs)) ≡ cond {A = ℕ} b 0 1 + length (r ∷ rs)
    by_test true = omega arith
    by_test false = omega arith

joined_twice : (x y : ℕ) (rs : List Run) → length (joined x (joined y rs)) ≡ cond {A = ℕ} (nat_eq y (x + 1)) 0 1 + length (joined y rs)
joined_twice x y [] = joined_size x (record { first = y; last = y }) []
joined_twice x y (r ∷ rs) = elim (cases_eq r.first (y + 1)) [
  | inl next ↦ (
      let e = joined_on y r rs next in
      ap (λ l. length (joined x l)) e ∙ joined_size x (record { first = y; last = r.last }) rs ∙ ap (λ l. cond {A = ℕ} (nat_eq y (x + 1)) 0 1 + length l) (sym e))
  | inr apart ↦ (
      let e = joined_apart y r rs apart in
      ap (λ l. length (joined x l)) e ∙ joined_size x (record { first = y; last = y }) (r ∷ rs) ∙ ap (λ l. cond {A = ℕ} (nat_eq y (x + 1)) 0 1 + length l) (sym e))
]

-- one run begins at the first number, and one at each number that does not follow the one before it
pub runs_breaks : (x : ℕ) (xs : List ℕ) → length (runs_of (x ∷ xs)) ≡ suc (breaks x xs)
runs_breaks x [] = refl
runs_breaks x (y ∷ xs) = let rest = runs_breaks y xs in joined_twice x y (runs_of xs) ∙ (omega arith)

-- a list is read to index i, after the number `last`
pub record BreaksTo (xs : List ℕ) (i last count : ℕ) : Type 0 where
  pub sum : count + breaks last (drop i xs) ≡ length (runs_of xs)
  pub few : count ≤ i

pub breaks_begun : (xs : List ℕ) → 0 < length xs → BreaksTo xs 1 (get_or xs 0 0) 1
breaks_begun [] some = absurd (omega arith)
breaks_begun (x ∷ xs) some = let all = runs_breaks x xs in let sum : 1 + breaks x xs ≡ length (runs_of (x ∷ xs)) = omega arith in record { sum = sum; few = omega arith }

breaks_step : (xs : List ℕ) (i last : ℕ) → i < length xs → breaks last (drop i xs) ≡ cond {A = ℕ} (nat_eq (get_or xs i 0) (last + 1)) 0 1 + breaks (get_or xs i 0) (drop (i + 1) xs)
breaks_step xs i last inside = ap (breaks last) (rest_begins xs i inside)

pub breaks_on : (xs : List ℕ) (i last count : ℕ) → i < length xs → BreaksTo xs i last count → get_or xs i 0 ≡ last + 1 → BreaksTo xs (i + 1) (get_or xs i 0) count
breaks_on xs i last count inside g next =
    let all = g.sum in
    let low = g.few in
    let step = breaks_step xs i last inside ∙ ap (λ b. cond {A = ℕ} b 0 1 + breaks (get_or xs i 0) (drop (i + 1) xs)) (eq-eqb (get_or xs i 0) (last + 1) next) in
    record { sum = omega arith; few = omega arith }

pub breaks_new : (xs : List ℕ) (i last count : ℕ) → i < length xs → BreaksTo xs i last count → (get_or xs i 0 ≡ last + 1 → ⊥) → BreaksTo xs (i + 1) (get_or xs i 0) (count + 1)
breaks_new xs i last count inside g other =
    let all = g.sum in
    let low = g.few in
    let step = breaks_step xs i last inside ∙ ap (λ b. cond {A = ℕ} b 0 1 + breaks (get_or xs i 0) (drop (i + 1) xs)) (ne_eqb (get_or xs i 0) (last + 1) other) in
    record { sum = omega arith; few = omega arith }

pub breaks_done : (xs : List ℕ) (i last count : ℕ) → length xs ≤ i → BreaksTo xs i last count → count ≡ length (runs_of xs)
breaks_done xs i last count past g = let all = g.sum in let none = ap (breaks last) (drop_end xs i past) in omega arith
