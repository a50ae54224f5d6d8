-- Runs without the numbers of one.
use Rattle.std.proofs.Common.{◌≡◌, ℕ, zero, suc, ◌+◌, ◌-◌, ◌<◌, ◌≤◌, true, false, not, ◌&&◌, ◌||◌, List, [], ◌∷◌, ◌++◌, append-nil, append_assoc, get_or, length, length-take, take, drop, sym, ◌∙◌, ap, subst, inl, inr, arith}
use Rattle.std.proofs.Math.Bool.{and-false, and-true, or-false}
use Rattle.std.proofs.Math.ListN.{drop_of_length-le}
use Rattle.std.proofs.lemmas.Bool.{cases_lt}
use Rattle.std.proofs.lemmas.List.{get_or-drop, get_or-take, get_or_default, length-drop, take-append-drop}
use Rattle.bit_blocks.specs.Numbers.{LosesBetween, has, is_between}
use Rattle.bit_blocks.specs.RunPlaces.{IsBegunBefore, IsEndedBefore}
use Rattle.bit_blocks.specs.Runs.{AreRuns, AreRunsFrom, is_in_runs, run_below, run_numbers}
use Rattle.bit_blocks.specs.declared.ranged.Run.{Run}
use Rattle.bit_blocks.proofs.Absorbed.{gap, is_in_append}
use Rattle.bit_blocks.proofs.Between.{after_range, before_range, in_between}
use Rattle.bit_blocks.proofs.Clipped.{runs_taken}
use Rattle.bit_blocks.proofs.Combined.{EndApart, apart_later, below_apart, below_none, below_runs, below_some, in_no_run, in_some_run}
use Rattle.bit_blocks.proofs.Runs.{first_at_least, firsts_ascend, has_runs, lasts_ascend, run_ordered, runs_from, runs_later}

-- ---- parts of runs

runs_append : (from b : ℕ) (xs ys : List Run) → from ≤ b → AreRunsFrom from xs → EndApart xs b → AreRunsFrom b ys → AreRunsFrom from (xs ++ ys)
runs_append from b [] ys low h apart g = runs_later b from ys low g
runs_append from b (r ∷ xs) ys low h apart g = let here = apart.0 in (h.0, h.1, h.2, runs_append (r.last + 2) b xs ys here h.3 apart.1 g)

-- the runs before one end apart from it
ends_apart : (from : ℕ) (rs : List Run) (i : ℕ) (d : Run) → AreRunsFrom from rs → i < length rs → EndApart (take i rs) (get_or rs i d).first
ends_apart from [] i d h inside = absurd (omega arith)
ends_apart from (r ∷ rs) zero d h inside = tt
ends_apart from (r ∷ rs) (suc i) d h inside = (first_at_least (r.last + 2) rs i d h.3 (omega arith), ends_apart (r.last + 2) rs i d h.3 (omega arith))

ends_before : (rs : List Run) (i b : ℕ) → ((j : ℕ) (d : Run) → j < i → (get_or rs j d).last + 2 ≤ b) → EndApart (take i rs) b
ends_before [] zero b low = tt
ends_before [] (suc i) b low = tt
ends_before (r ∷ rs) zero b low = tt
ends_before (r ∷ rs) (suc i) b low = (low 0 r (omega arith), ends_before rs i b (λ j d l. low (suc j) d (omega arith)))

-- a number is in the run below a bound
in_below : (first upto k : ℕ) → first ≤ k → k < upto → is_in_runs (run_below first upto) k ≡ true
in_below first upto k low high = ap (λ l. is_in_runs l k) (below_some first upto (omega arith)) ∙ ap (λ b. b || false) (in_between first (upto - 1) k low (omega arith))

before_below : (first upto k : ℕ) → k < first → is_in_runs (run_below first upto) k ≡ false
before_below first upto k low = elim (cases_lt first upto) [
  | inl some ↦ ap (λ l. is_in_runs l k) (below_some first upto some) ∙ ap (λ b. b || false) (before_range first (upto - 1) k low)
  | inr none ↦ ap (λ l. is_in_runs l k) (below_none first upto none)
]

past_below : (first upto k : ℕ) → upto ≤ k → is_in_runs (run_below first upto) k ≡ false
past_below first upto k high = elim (cases_lt first upto) [
  | inl some ↦ ap (λ l. is_in_runs l k) (below_some first upto some) ∙ ap (λ b. b || false) (after_range first (upto - 1) k (omega arith))
  | inr none ↦ ap (λ l. is_in_runs l k) (below_none first upto none)
]

-- ---- what is left of runs, some of which meet a range

-- the run after a range
after_some : (last e : ℕ) → last < e → run_below (last + 1) (e + 1) ≡ record { first = last + 1; last = e } ∷ []
after_some last e high = let end : (e + 1) - 1 ≡ e = omega arith in below_some (last + 1) (e + 1) (omega arith) ∙ ap (λ n. record { first = last + 1; last = n } ∷ []) end

-- a part before the range and one after it stay
pub both_left : (rs made : List Run) (i j a e first last : ℕ) → a < first → last < e → made ≡ take i rs ++ record { first = a; last = first - 1 } ∷ record { first = last + 1; last = e } ∷ drop j rs
    → made ≡ ((take i rs ++ run_below a first) ++ run_below (last + 1) (e + 1)) ++ drop j rs
both_left rs made i j a e first last low high is =
    let front : List Run = record { first = a; last = first - 1 } ∷ [] in
    let back : List Run = record { first = last + 1; last = e } ∷ [] in
    is ∙ sym (ap (λ l. ((take i rs ++ l) ++ run_below (last + 1) (e + 1)) ++ drop j rs) (below_some a first low) ∙ ap (λ l. ((take i rs ++ front) ++ l) ++ drop j rs) (after_some last e high)
    ∙ append_assoc (take i rs ++ front) back (drop j rs) ∙ append_assoc (take i rs) front (back ++ drop j rs))

-- a part before the range stays
pub front_left : (rs made : List Run) (i j a e first last : ℕ) → a < first → e ≤ last → made ≡ take i rs ++ record { first = a; last = first - 1 } ∷ drop j rs
    → made ≡ ((take i rs ++ run_below a first) ++ run_below (last + 1) (e + 1)) ++ drop j rs
front_left rs made i j a e first last low none is =
    let front : List Run = record { first = a; last = first - 1 } ∷ [] in
    is ∙ sym (ap (λ l. ((take i rs ++ l) ++ run_below (last + 1) (e + 1)) ++ drop j rs) (below_some a first low) ∙ ap (λ l. ((take i rs ++ front) ++ l) ++ drop j rs) (below_none (last + 1) (e + 1) (omega arith))
    ∙ ap (λ l. l ++ drop j rs) (append-nil (take i rs ++ front)) ∙ append_assoc (take i rs) front (drop j rs))

-- a part after the range stays
pub back_left : (rs made : List Run) (i j a e first last : ℕ) → first ≤ a → last < e → made ≡ take i rs ++ record { first = last + 1; last = e } ∷ drop j rs
    → made ≡ ((take i rs ++ run_below a first) ++ run_below (last + 1) (e + 1)) ++ drop j rs
back_left rs made i j a e first last none high is =
    let back : List Run = record { first = last + 1; last = e } ∷ [] in
    is ∙ sym (ap (λ l. ((take i rs ++ l) ++ run_below (last + 1) (e + 1)) ++ drop j rs) (below_none a first none) ∙ ap (λ l. (l ++ run_below (last + 1) (e + 1)) ++ drop j rs) (append-nil (take i rs))
    ∙ ap (λ l. (take i rs ++ l) ++ drop j rs) (after_some last e high) ∙ append_assoc (take i rs) back (drop j rs))

-- no part of the runs that meet the range stays
pub none_left : (rs made : List Run) (i j a e first last : ℕ) → first ≤ a → e ≤ last → made ≡ take i rs ++ drop j rs → made ≡ ((take i rs ++ run_below a first) ++ run_below (last + 1) (e + 1)) ++ drop j rs
none_left rs made i j a e first last low high is =
    is ∙ sym (ap (λ l. ((take i rs ++ l) ++ run_below (last + 1) (e + 1)) ++ drop j rs) (below_none a first low) ∙ ap (λ l. (l ++ run_below (last + 1) (e + 1)) ++ drop j rs) (append-nil (take i rs))
    ∙ ap (λ l. (take i rs ++ l) ++ drop j rs) (below_none (last + 1) (e + 1) (omega arith)) ∙ ap (λ l. l ++ drop j rs) (append-nil (take i rs)))

module _ (rs made : List Run) (first last i j a e : ℕ) (d f : Run) (h : AreRuns rs) (ordered : first ≤ last) (most : j ≤ length rs) (some : i < j) (ended : IsEndedBefore rs first i) (begun : IsBegunBefore rs last j)
    (begins : a ≡ (get_or rs i d).first) (ends : e ≡ (get_or rs (j - 1) f).last) (is : made ≡ ((take i rs ++ run_below a first) ++ run_below (last + 1) (e + 1)) ++ drop j rs) where
  -- the first run that meets the range ends in it or past it, and the last one begins in it or before it
  first_ends : first ≤ (get_or rs i d).last
  first_ends = ended.after i d (omega arith) (omega arith)

  last_begins : (get_or rs (j - 1) f).first ≤ last
  last_begins = begun.before (j - 1) f (omega arith)

  abbrev one : List Run
  one = take i rs ++ run_below a first

  abbrev two : List Run
  two = (take i rs ++ run_below a first) ++ run_below (last + 1) (e + 1)

  front : AreRuns (take i rs)
  front = runs_taken 0 rs i h

  front_apart : EndApart (take i rs) a
  front_apart = subst (EndApart (take i rs)) (sym begins) (ends_apart 0 rs i d h (omega arith))

  front_before : EndApart (take i rs) (last + 1)
  front_before = ends_before rs i (last + 1) (λ n q l. let low = ended.before n q l in omega arith)

  e_small : e + 1 ≤ 65536
  e_small = let up = (run_ordered 0 rs (j - 1) f h (omega arith)).1 in omega (arith, ends)

  one_runs : AreRuns one
  one_runs = let up = (run_ordered 0 rs i d h (omega arith)).1 in below_runs 0 (take i rs) a first (omega (arith, first_ends)) (omega arith) front front_apart

  one_apart : EndApart one (last + 1)
  one_apart = elim (cases_lt first a) [
    | inl none ↦ subst (λ l. EndApart (take i rs ++ l) (last + 1)) (sym (below_none a first (omega arith))) (subst (λ l. EndApart l (last + 1)) (sym (append-nil (take i rs))) front_before)
    | inr low ↦ below_apart (take i rs) a first (last + 1) low (omega arith) front_apart
  ]

  two_runs : AreRuns two
  two_runs = below_runs 0 one (last + 1) (e + 1) e_small (omega arith) one_runs one_apart

  two_apart : j < length rs → EndApart two (get_or rs j d).first
  two_apart inside =
      let past = begun.after j d (omega arith) inside in
      let next = gap 0 rs (j - 1) j f d h (omega arith) inside in
      elim (cases_lt e last) [
        | inl none ↦ subst (λ l. EndApart (one ++ l) (get_or rs j d).first) (sym (below_none (last + 1) (e + 1) (omega arith))) (subst (λ l. EndApart l (get_or rs j d).first) (sym (append-nil one)) (apart_later one (last + 1) (get_or rs j d).first (omega arith) one_apart))
        | inr high ↦ below_apart one (last + 1) (e + 1) (get_or rs j d).first (omega arith) (omega (arith, ends)) one_apart
      ]

  pub cleared_runs : AreRuns made
  cleared_runs = subst AreRuns (sym is) (elim (cases_lt j (length rs)) [
    | inl inside ↦ runs_append 0 (get_or rs j d).first two (drop j rs) (omega arith) two_runs (two_apart inside) (runs_from 0 rs j d h inside)
    | inr past ↦ subst (λ l. AreRuns (two ++ l)) (sym (drop_of_length-le rs past)) (subst AreRuns (sym (append-nil two)) two_runs)
  ])

  parts : (k : ℕ) → is_in_runs made k ≡ (((is_in_runs (take i rs) k || is_in_runs (run_below a first) k) || is_in_runs (run_below (last + 1) (e + 1)) k) || is_in_runs (drop j rs) k)
  parts k = ap (λ l. is_in_runs l k) is ∙ is_in_append two (drop j rs) k ∙ ap (λ b. b || is_in_runs (drop j rs) k) (is_in_append one (run_below (last + 1) (e + 1)) k
      ∙ ap (λ b. b || is_in_runs (run_below (last + 1) (e + 1)) k) (is_in_append (take i rs) (run_below a first) k))

  cut_at : (n k : ℕ) → is_in_runs rs k ≡ (is_in_runs (take n rs) k || is_in_runs (drop n rs) k)
  cut_at n k = ap (λ l. is_in_runs l k) (sym (take-append-drop n rs)) ∙ is_in_append (take n rs) (drop n rs) k

  none_in_front : (k : ℕ) → first ≤ k → is_in_runs (take i rs) k ≡ false
  none_in_front k high = in_no_run (take i rs) k (λ n q l.
      let inside : n < i = omega (arith, length-take i rs) in
      let low = ended.before n q inside in
      inl (omega (arith, ap (λ (r : Run). r.last) (get_or-take i rs n q inside))))

  none_in_back : (k : ℕ) → k ≤ last → is_in_runs (drop j rs) k ≡ false
  none_in_back k low = in_no_run (drop j rs) k (λ n q l.
      let high = begun.after (j + n) q (omega arith) (omega (arith, length-drop j rs)) in
      inr (omega (arith, ap (λ (r : Run). r.first) (get_or-drop j rs n q))))

  -- numbers before the range
  same_before : (k : ℕ) → k < first → is_in_runs (drop i rs) k ≡ is_in_runs (run_below a first) k
  same_before k low = elim (cases_lt k a) [
    | inl out ↦ in_no_run (drop i rs) k (λ n q l.
        let up = firsts_ascend 0 rs h i (i + n) d (omega arith) (omega (arith, length-drop i rs)) in
        let same = ap (λ (r : Run). r.first) (get_or-drop i rs n q) in
        let other = ap (λ (r : Run). r.first) (get_or_default rs (i + n) d q (omega (arith, length-drop i rs))) in
        inr (omega (arith, begins))) ∙ sym (before_below a first k out)
    | inr here ↦ in_some_run (drop i rs) k 0 d (omega (arith, length-drop i rs)) (let same = ap (λ (r : Run). r.first) (get_or-drop i rs 0 d ∙ ap (λ n. get_or rs n d) (let z : i + 0 ≡ i = omega arith in z)) in omega (arith, begins))
        (let same = ap (λ (r : Run). r.last) (get_or-drop i rs 0 d ∙ ap (λ n. get_or rs n d) (let z : i + 0 ≡ i = omega arith in z)) in omega (arith, first_ends)) ∙ sym (in_below a first k here low)
  ]

  -- and those after it
  same_after : (k : ℕ) → last < k → is_in_runs (take j rs) k ≡ is_in_runs (run_below (last + 1) (e + 1)) k
  same_after k high = elim (cases_lt e k) [
    | inl out ↦ in_no_run (take j rs) k (λ n q l.
        let inside : n < j = omega (arith, length-take j rs) in
        let up = lasts_ascend 0 rs h n (j - 1) q (omega arith) (omega arith) in
        let same = ap (λ (r : Run). r.last) (get_or-take j rs n q inside) in
        let other = ap (λ (r : Run). r.last) (get_or_default rs (j - 1) q f (omega arith)) in
        inl (omega (arith, ends))) ∙ sym (past_below (last + 1) (e + 1) k (omega arith))
    | inr here ↦ in_some_run (take j rs) k (j - 1) f (omega (arith, length-take j rs)) (let same = ap (λ (r : Run). r.first) (get_or-take j rs (j - 1) f (omega arith)) in omega (arith, last_begins))
        (let same = ap (λ (r : Run). r.last) (get_or-take j rs (j - 1) f (omega arith)) in omega (arith, ends)) ∙ sym (in_below (last + 1) (e + 1) k (omega arith) (omega arith))
  ]

  pub cleared_loses : LosesBetween (run_numbers rs) (run_numbers made) first last
  cleared_loses k =
      let before = is_in_runs (take i rs) k in
      let left = is_in_runs (run_below a first) k in
      let right = is_in_runs (run_below (last + 1) (e + 1)) k in
      let after = is_in_runs (drop j rs) k in
      has_runs 0 made k cleared_runs ∙ parts k ∙ elim (cases_lt k first) [
        | inl low ↦ ap (λ b. ((before || left) || b) || after) (before_below (last + 1) (e + 1) k (omega arith)) ∙ ap (λ b. ((before || left) || false) || b) (none_in_back k (omega arith))
            ∙ or-false ((before || left) || false) ∙ or-false (before || left) ∙ ap (λ b. before || b) (sym (same_before k low))
            ∙ sym (ap (λ b. b && not (is_between first last k)) (has_runs 0 rs k h ∙ cut_at i k) ∙ ap (λ b. (before || is_in_runs (drop i rs) k) && not b) (before_range first last k low) ∙ and-true (before || is_in_runs (drop i rs) k))
        | inr high ↦ ap (λ b. ((b || left) || right) || after) (none_in_front k high) ∙ ap (λ b. (b || right) || after) (past_below a first k high) ∙ elim (cases_lt last k) [
          | inl past ↦ ap (λ b. b || after) (sym (same_after k past))
              ∙ sym (ap (λ b. b && not (is_between first last k)) (has_runs 0 rs k h ∙ cut_at j k) ∙ ap (λ b. (is_in_runs (take j rs) k || after) && not b) (after_range first last k past) ∙ and-true (is_in_runs (take j rs) k || after))
          | inr within ↦ ap (λ b. b || after) (before_below (last + 1) (e + 1) k (omega arith)) ∙ none_in_back k within
              ∙ sym (ap (λ b. has (run_numbers rs) k && not b) (in_between first last k high within) ∙ and-false (has (run_numbers rs) k))
        ]
      ]

-- no run meets the range
pub none_cleared : (rs : List Run) (first last i j : ℕ) → AreRuns rs → first ≤ last → j ≤ i → IsEndedBefore rs first i → IsBegunBefore rs last j → LosesBetween (run_numbers rs) (run_numbers rs) first last
none_cleared rs first last i j h ordered none ended begun k = elim (cases_lt k first) [
  | inl low ↦ sym (ap (λ b. has (run_numbers rs) k && not b) (before_range first last k low) ∙ and-true (has (run_numbers rs) k))
  | inr high ↦ elim (cases_lt last k) [
    | inl past ↦ sym (ap (λ b. has (run_numbers rs) k && not b) (after_range first last k past) ∙ and-true (has (run_numbers rs) k))
    | inr within ↦ (
        let absent : has (run_numbers rs) k ≡ false = has_runs 0 rs k h ∙ in_no_run rs k (λ n q l. elim (cases_lt n i) [
          | inl earlier ↦ (let low = ended.before n q earlier in inl (omega arith))
          | inr later ↦ (let more = begun.after n q (omega arith) l in inr (omega arith))
        ]) in
        absent ∙ sym (ap (λ b. b && not (is_between first last k)) absent))
  ]
]
