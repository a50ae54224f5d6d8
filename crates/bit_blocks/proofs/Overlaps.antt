-- The numbers that two lists of runs have in common, counted run by run.
use Rattle.std.proofs.Common.{◌≡◌, ℕ, zero, suc, ◌+◌, ◌-◌, ◌<◌, ◌≤◌, Bool, true, false, ◌&&◌, ◌||◌, nat_eq, leb, List, [], ◌∷◌, append-nil, get_or, length, min, max, drop, refl, sym, ◌∙◌, ap, subst, inl, inr, arith}
use Rattle.std.proofs.Math.Bool.{or-false, or-true, and-false}
use Rattle.std.proofs.lemmas.Bool.{and_parts, cases_Bool, eq-eqb, leb-true, lt-leb}
use Rattle.bit_blocks.specs.Numbers.{Ascends, AscendsIn, count_where, has}
use Rattle.bit_blocks.specs.Runs.{AreRuns, AreRunsFrom, numbers_of_run, run_numbers}
use Rattle.bit_blocks.specs.declared.ranged.Run.{Run}
use Rattle.bit_blocks.proofs.Ascending.{above_all, at_least}
use Rattle.bit_blocks.proofs.Counting.{count_append, count_none, count_range, count_same, counts_here, counts_not}
use Rattle.bit_blocks.proofs.Edits.{has_append}
use Rattle.bit_blocks.proofs.Runs.{ascends_runs, from_end, from_run, has_run, range_below, run_ordered}

-- numbers that pass one of two tests, of which none passes both
count_either : (p q : ℕ → Bool) (xs : List ℕ) → ((k : ℕ) → has xs k ≡ true → (p k && q k) ≡ false) → count_where (λ k. p k || q k) xs ≡ count_where p xs + count_where q xs
count_either p q [] apart = refl
count_either p q (x ∷ xs) apart =
    let rest = count_either p q xs (λ k here. apart k (ap (λ t. nat_eq x k || t) here ∙ or-true (nat_eq x k))) in
    elim (cases_Bool (p x)) [
      | inl here_too ↦ (
          let out : q x ≡ false = sym (ap (λ t. t && q x) here_too) ∙ apart x (ap (λ t. t || has xs x) (eq-eqb x x refl)) in
          let whole = counts_here (λ k. p k || q k) x xs (ap (λ t. t || q x) here_too) in
          let a = counts_here p x xs here_too in
          let b = counts_not q x xs out in
          omega arith)
      | inr out ↦ elim (cases_Bool (q x)) [
        | inl here_too ↦ (
            let whole = counts_here (λ k. p k || q k) x xs (ap (λ t. t || q x) out ∙ here_too) in
            let a = counts_not p x xs out in
            let b = counts_here q x xs here_too in
            omega arith)
        | inr nor ↦ (
            let whole = counts_not (λ k. p k || q k) x xs (ap (λ t. t || q x) out ∙ nor) in
            let a = counts_not p x xs out in
            let b = counts_not q x xs nor in
            omega arith)
      ]
    ]

-- a number of a run is not past its last
upto_last : (r : Run) (k : ℕ) → r.first ≤ r.last → has (numbers_of_run r) k ≡ true → k ≤ r.last
upto_last r k ordered here = leb-true k r.last (and_parts (leb r.first k) (leb k r.last) (sym (has_run r k ordered) ∙ here)).1

past_last : (r : Run) (k : ℕ) → r.first ≤ r.last → r.last < k → has (numbers_of_run r) k ≡ false
past_last r k ordered past = has_run r k ordered ∙ ap (λ t. leb r.first k && t) (lt-leb k r.last past) ∙ and-false (leb r.first k)

-- the numbers that two runs have in common
overlap : (r o : Run) → r.first ≤ r.last → o.first ≤ o.last → o.last < 65536 → count_where (has (numbers_of_run o)) (numbers_of_run r) ≡ min r.last o.last + 1 - max r.first o.first
overlap r o ordered too small =
    let up : Ascends (numbers_of_run o) = subst (AscendsIn 0 65536) (append-nil (numbers_of_run o)) (ascends_runs 0 (o ∷ []) (omega arith, too, small, tt)) in
    let whole = count_range (numbers_of_run o) r.first (r.last + 1 - r.first) (r.last + 1) up (omega arith) in
    let from = range_below o.first (o.last + 1 - o.first) r.first in
    let upto = range_below o.first (o.last + 1 - o.first) (r.last + 1) in
    omega arith

-- the runs after one begin past it
runs_after : (from : ℕ) (rs : List Run) (i : ℕ) (d : Run) → AreRunsFrom from rs → i < length rs → AreRunsFrom ((get_or rs i d).last + 2) (drop (suc i) rs)
runs_after from [] i d h inside = absurd (omega arith)
runs_after from (r ∷ rs) zero d h inside = h.3
runs_after from (r ∷ rs) (suc i) d h inside = runs_after (r.last + 2) rs i d h.3 (omega arith)

-- two lists of runs are read to i and j, and the numbers of both that were found before are counted
pub record OverlapsTo (xs ys : List Run) (i j count : ℕ) : Type 0 where
  pub left : i ≤ length xs
  pub right : j ≤ length ys
  pub sum : count + count_where (has (run_numbers (drop j ys))) (run_numbers (drop i xs)) ≡ count_where (has (run_numbers ys)) (run_numbers xs)

module _ (xs ys : List Run) (i j : ℕ) (d : Run) (h : AreRuns xs) (g : AreRuns ys) (inside : i < length xs) (within : j < length ys) where
  abbrev r : Run
  r = get_or xs i d

  abbrev o : Run
  o = get_or ys j d

  abbrev later : List ℕ
  later = run_numbers (drop (i + 1) xs)

  abbrev after : List ℕ
  after = run_numbers (drop (j + 1) ys)

  later_ascends : AscendsIn (r.last + 2) 65536 later
  later_ascends = let e : i + 1 ≡ suc i = omega arith in ascends_runs (r.last + 2) (drop (i + 1) xs) (subst (λ n. AreRunsFrom (r.last + 2) (drop n xs)) (sym e) (runs_after 0 xs i d h inside))

  after_ascends : AscendsIn (o.last + 2) 65536 after
  after_ascends = let e : j + 1 ≡ suc j = omega arith in ascends_runs (o.last + 2) (drop (j + 1) ys) (subst (λ n. AreRunsFrom (o.last + 2) (drop n ys)) (sym e) (runs_after 0 ys j d g within))

  has_next : (k : ℕ) → has (run_numbers (drop j ys)) k ≡ (has (numbers_of_run o) k || has after k)
  has_next k = ap (λ l. has l k) (from_run ys j d within) ∙ has_append (numbers_of_run o) after k

  both : count_where (has (numbers_of_run o)) (numbers_of_run r) ≡ min r.last o.last + 1 - max r.first o.first
  both =
      let a = run_ordered 0 xs i d h inside in
      let b = run_ordered 0 ys j d g within in
      overlap r o a.0 b.0 b.1

  -- the left run ends first: it is done
  pub left_done : r.last < o.last → count_where (has (run_numbers (drop j ys))) (run_numbers (drop i xs)) ≡ (min r.last o.last + 1 - max r.first o.first) + count_where (has (run_numbers (drop j ys))) later
  left_done less =
      let a = run_ordered 0 xs i d h inside in
      let p = has (run_numbers (drop j ys)) in
      let parts = ap (count_where p) (from_run xs i d inside) ∙ count_append p (numbers_of_run r) later in
      let same = count_same p (has (numbers_of_run o)) (numbers_of_run r) (λ k here. has_next k ∙ ap (λ t. has (numbers_of_run o) k || t) (above_all (o.last + 2) 65536 after k after_ascends (let low = upto_last r k a.0 here in omega arith)) ∙ or-false (has (numbers_of_run o) k)) in
      parts ∙ ap (λ n. n + count_where p later) (same ∙ both)

  -- the right run ends no later: it is done
  pub right_done : o.last ≤ r.last → count_where (has (run_numbers (drop j ys))) (run_numbers (drop i xs)) ≡ (min r.last o.last + 1 - max r.first o.first) + count_where (has after) (run_numbers (drop i xs))
  right_done less =
      let b = run_ordered 0 ys j d g within in
      let p = has (numbers_of_run o) in
      let all = run_numbers (drop i xs) in
      let either = count_same (has (run_numbers (drop j ys))) (λ k. p k || has after k) all (λ k here. has_next k) ∙ count_either p (has after) all (λ k here. apart k) in
      let parts = ap (count_where p) (from_run xs i d inside) ∙ count_append p (numbers_of_run r) later in
      let none = count_none p later (λ m l. past_last o (get_or later m 0) b.0 (let low = at_least (r.last + 2) 65536 later m 0 later_ascends l in omega arith)) in
      let here = both in
      omega (arith, either, parts, none, here)
    where
      apart : (k : ℕ) → (has (numbers_of_run o) k && has after k) ≡ false
      apart k = elim (cases_Bool (has (numbers_of_run o) k)) [
        | inl here_too ↦ ap (λ t. t && has after k) here_too ∙ above_all (o.last + 2) 65536 after k after_ascends (let b = run_ordered 0 ys j d g within in let low = upto_last o k b.0 here_too in omega arith)
        | inr out ↦ ap (λ t. t && has after k) out
      ]

-- nothing is left to find where one list is read to its end
pub overlaps_done : (xs ys : List Run) (i j count : ℕ) → OverlapsTo xs ys i j count → (length xs ≤ i → count ≡ count_where (has (run_numbers ys)) (run_numbers xs)) × (length ys ≤ j → count ≡ count_where (has (run_numbers ys)) (run_numbers xs))
overlaps_done xs ys i j count c = (
  λ past. let e = ap (count_where (has (run_numbers (drop j ys)))) (from_end xs i past) in let s = c.sum in omega arith,
  λ past.
      let e = ap (λ l. count_where (has l) (run_numbers (drop i xs))) (from_end ys j past) ∙ count_none (has []) (run_numbers (drop i xs)) (λ m l. refl) in
      let s = c.sum in
      omega arith,
)
