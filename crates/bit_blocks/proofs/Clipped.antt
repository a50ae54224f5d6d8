-- The numbers of runs that are in a range.
use Rattle.std.proofs.Common.{◌≡◌, ℕ, zero, suc, ◌+◌, ◌-◌, ◌<◌, ◌≤◌, true, ◌&&◌, nat_eq, nat_lt, List, [], ◌∷◌, ◌++◌, append-nil, get_or, length, length-take, max, min, take, drop, refl, sym, ◌∙◌, ap, inl, inr, arith}
use Rattle.std.specs.Prelude.{All}
use Rattle.std.specs.List.{range_with_len}
use Rattle.std.proofs.Math.Bool.{and-true}
use Rattle.std.proofs.lemmas.Bool.{and_parts, cases_lt, eqb-true, ltb-true}
use Rattle.std.proofs.lemmas.List.{get_or-drop, get_or-take, get_or_default, length-drop}
use Rattle.bit_blocks.specs.Numbers.{Ascends, AscendsIn, count_below, count_where, has, is_between, numbers_between}
use Rattle.bit_blocks.specs.RunPlaces.{EachMeets, IsBegunBefore, IsEndedBefore}
use Rattle.bit_blocks.specs.Runs.{AreRuns, AreRunsFrom, numbers_of_run, run_numbers}
use Rattle.bit_blocks.specs.declared.ranged.Run.{Run}
use Rattle.bit_blocks.proofs.Ascending.{ascends_earlier, at_place, later}
use Rattle.bit_blocks.proofs.Between.{after_range, all_between, before_range, between_append, in_between, leaves_first, takes_first}
use Rattle.bit_blocks.proofs.Counting.{count_same, count_swapped}
use Rattle.bit_blocks.proofs.LeftOfRuns.{last_run, no_range}
use Rattle.bit_blocks.proofs.Ranges.{has_filter}
use Rattle.bit_blocks.proofs.Runs.{all_ordered, ascends_all, ascends_range, first_at_least, run_ordered, runs_later}

-- the numbers of a range that are in another
range_between : (first last a n : ℕ) → numbers_between first last (range_with_len a n) ≡ range_with_len (max a first) (min (a + n) (last + 1) - max a first)
range_between first last a zero = sym (no_range (max a first) (min (a + 0) (last + 1)) (omega arith))
range_between first last a (suc n) =
    let rest = range_between first last (a + 1) n in
    elim (cases_lt a first) [
      | inl low ↦ (
          let from : max (a + 1) first ≡ max a first = omega arith in
          let size : min (a + 1 + n) (last + 1) - max a first ≡ min (a + suc n) (last + 1) - max a first = omega arith in
          leaves_first first last a (range_with_len (a + 1) n) (before_range first last a low) ∙ rest
          ∙ ap (λ m. range_with_len m (min (a + 1 + n) (last + 1) - m)) from ∙ ap (range_with_len (max a first)) size)
      | inr high ↦ elim (cases_lt last a) [
        | inl past ↦ leaves_first first last a (range_with_len (a + 1) n) (after_range first last a past) ∙ rest
            ∙ no_range (max (a + 1) first) (min (a + 1 + n) (last + 1)) (omega arith) ∙ sym (no_range (max a first) (min (a + suc n) (last + 1)) (omega arith))
        | inr within ↦ (
            let from : max (a + 1) first ≡ a + 1 = omega arith in
            let begins : a ≡ max a first = omega arith in
            let size : suc (min (a + 1 + n) (last + 1) - (a + 1)) ≡ min (a + suc n) (last + 1) - max a first = omega arith in
            takes_first first last a (range_with_len (a + 1) n) (in_between first last a high within)
            ∙ ap (λ l. a ∷ l) (rest ∙ ap (λ m. range_with_len m (min (a + 1 + n) (last + 1) - m)) from)
            ∙ ap (range_with_len a) size ∙ ap (λ m. range_with_len m (min (a + suc n) (last + 1) - max a first)) begins)
      ]
    ]

-- the numbers of a run that are in a range, from one bound up to another
run_between : (r : Run) (first last from upto : ℕ) → r.first ≤ r.last → from ≡ max r.first first → upto ≡ min (r.last + 1) (last + 1) → numbers_between first last (numbers_of_run r) ≡ range_with_len from (upto - from)
run_between r first last from upto ordered begins ends =
    let size : min (r.first + (r.last + 1 - r.first)) (last + 1) - max r.first first ≡ upto - from = omega arith in
    range_between first last r.first (r.last + 1 - r.first) ∙ ap (range_with_len (max r.first first)) size ∙ ap (λ m. range_with_len m (upto - from)) (sym begins)

-- a run outside of a range has no number of it
run_outside : (r : Run) (first last : ℕ) → r.first ≤ r.last → min (r.last + 1) (last + 1) ≤ max r.first first → numbers_between first last (numbers_of_run r) ≡ []
run_outside r first last ordered none =
    run_between r first last (max r.first first) (min (r.last + 1) (last + 1)) ordered refl refl ∙ no_range (max r.first first) (min (r.last + 1) (last + 1)) none

-- the first runs end before a range
skipped : (from first last : ℕ) (rs : List Run) (i : ℕ) → AreRunsFrom from rs → i ≤ length rs → ((j : ℕ) (d : Run) → j < i → (get_or rs j d).last < first) → numbers_between first last (run_numbers (drop i rs)) ≡ numbers_between first last (run_numbers rs)
skipped from first last [] zero h within before = refl
skipped from first last [] (suc i) h within before = absurd (omega arith)
skipped from first last (r ∷ rs) zero h within before = refl
skipped from first last (r ∷ rs) (suc i) h within before =
    let low = before 0 r (omega arith) in
    skipped (r.last + 2) first last rs i h.3 (omega arith) (λ j d l. before (suc j) d (omega arith))
    ∙ sym (between_append first last (numbers_of_run r) (run_numbers rs) ∙ ap (λ l. l ++ numbers_between first last (run_numbers rs)) (run_outside r first last h.1 (omega arith)))

-- all runs begin after a range
all_after : (from first last : ℕ) (rs : List Run) → AreRunsFrom from rs → ((j : ℕ) (d : Run) → j < length rs → last < (get_or rs j d).first) → numbers_between first last (run_numbers rs) ≡ []
all_after from first last [] h after = refl
all_after from first last (r ∷ rs) h after =
    let high = after 0 r (omega arith) in
    between_append first last (numbers_of_run r) (run_numbers rs) ∙ ap (λ l. l ++ numbers_between first last (run_numbers rs)) (run_outside r first last h.1 (omega arith))
    ∙ all_after (r.last + 2) first last rs h.3 (λ j d l. after (suc j) d (omega arith))

-- the runs from run n on do
cut : (from first last : ℕ) (rs : List Run) (n : ℕ) → AreRunsFrom from rs → ((j : ℕ) (d : Run) → n ≤ j → j < length rs → last < (get_or rs j d).first) → numbers_between first last (run_numbers (take n rs)) ≡ numbers_between first last (run_numbers rs)
cut from first last [] zero h after = refl
cut from first last [] (suc n) h after = refl
cut from first last (r ∷ rs) zero h after = sym (all_after from first last (r ∷ rs) h (λ j d l. after j d (omega arith) l))
cut from first last (r ∷ rs) (suc n) h after =
    between_append first last (numbers_of_run r) (run_numbers (take n rs))
    ∙ ap (λ l. numbers_between first last (numbers_of_run r) ++ l) (cut (r.last + 2) first last rs n h.3 (λ j d low l. after (suc j) d (omega arith) (omega arith)))
    ∙ sym (between_append first last (numbers_of_run r) (run_numbers rs))

-- runs without the first ones, and without the last ones
pub runs_dropped : (from : ℕ) (rs : List Run) (i : ℕ) → AreRunsFrom from rs → AreRunsFrom from (drop i rs)
runs_dropped from [] zero h = tt
runs_dropped from [] (suc i) h = tt
runs_dropped from (r ∷ rs) zero h = h
runs_dropped from (r ∷ rs) (suc i) h = let low = h.0 in let ordered = h.1 in runs_dropped from rs i (runs_later (r.last + 2) from rs (omega arith) h.3)

pub runs_taken : (from : ℕ) (rs : List Run) (n : ℕ) → AreRunsFrom from rs → AreRunsFrom from (take n rs)
runs_taken from [] zero h = tt
runs_taken from [] (suc n) h = tt
runs_taken from (r ∷ rs) zero h = tt
runs_taken from (r ∷ rs) (suc n) h = (h.0, h.1, h.2, runs_taken (r.last + 2) rs n h.3)

-- a part of runs is in order
pub part_ordered : (rs : List Run) (i n : ℕ) → AreRuns rs → All (λ r. r.first ≤ r.last) (take n (drop i rs))
part_ordered rs i n h = all_ordered (take n (drop i rs)) (runs_taken 0 (drop i rs) n (runs_dropped 0 rs i h))

-- the runs that have numbers of a range lie between two places
module _ (rs : List Run) (first last i j : ℕ) (h : AreRuns rs) (ordered : first ≤ last) (least : i ≤ length rs) (most : j ≤ length rs) (ended : IsEndedBefore rs first i) (begun : IsBegunBefore rs last j) where
  none : Run
  none = record { first = 0; last = 0 }

  -- they are in order
  pub places_ordered : i ≤ j
  places_ordered = elim (cases_lt j i) [
    | inl less ↦ absurd (let low = ended.before j none less in let high = begun.after j none (omega arith) (omega arith) in let up = (run_ordered 0 rs j none h (omega arith)).0 in omega arith)
    | inr fine ↦ fine
  ]

  pub parts_meet : EachMeets (take (j - i) (drop i rs)) first last
  parts_meet = record {
    begins = λ k d l. let e = item k d (inside k l) in let low = begun.before (i + k) d (let m = inside k l in omega arith) in omega (arith, ap (λ (r : Run). r.first) e);
    ends = λ k d l. let e = item k d (inside k l) in let m = inside k l in let high = ended.after (i + k) d (omega arith) (omega arith) in omega (arith, ap (λ (r : Run). r.last) e);
  }
    where
      inside : (k : ℕ) → k < length (take (j - i) (drop i rs)) → k < j - i
      inside k l = omega (arith, length-take (j - i) (drop i rs))

      item : (k : ℕ) (d : Run) → k < j - i → get_or (take (j - i) (drop i rs)) k d ≡ get_or rs (i + k) d
      item k d l = get_or-take (j - i) (drop i rs) k d l ∙ get_or-drop i rs k d

  pub parts_are_runs : AreRuns (take (j - i) (drop i rs))
  parts_are_runs = runs_taken 0 (drop i rs) (j - i) (runs_dropped 0 rs i h)

  pub same_between : numbers_between first last (run_numbers (take (j - i) (drop i rs))) ≡ numbers_between first last (run_numbers rs)
  same_between =
      cut 0 first last (drop i rs) (j - i) (runs_dropped 0 rs i h)
      (λ k d low l. let size = length-drop i rs in let high = begun.after (i + k) d (omega arith) (omega arith) in omega (arith, ap (λ (r : Run). r.first) (get_or-drop i rs k d)))
      ∙ skipped 0 first last rs i h least ended.before

-- the numbers of the first n runs are below the next run
before_run : (from : ℕ) (rs : List Run) (n : ℕ) (d : Run) → AreRunsFrom from rs → n < length rs → AscendsIn from (get_or rs n d).first (run_numbers (take n rs))
before_run from [] n d h inside = absurd (omega arith)
before_run from (r ∷ rs) zero d h inside = tt
before_run from (r ∷ rs) (suc n) d h inside =
    let low = h.0 in
    let up = h.1 in
    let next = first_at_least (r.last + 2) rs n d h.3 (omega arith) in
    let b = (get_or rs n d).first in
    ascends_earlier r.first from b (run_numbers (take (suc n) (r ∷ rs))) low
    (ascends_range r.first (r.last + 1 - r.first) b (run_numbers (take n rs)) (omega arith)
    (ascends_earlier (r.last + 2) (r.first + (r.last + 1 - r.first)) b (run_numbers (take n rs)) (omega arith) (before_run (r.last + 2) rs n d h.3 (omega arith))))

-- one run that has numbers of a range
pub one_clipped : (rs : List Run) (first last from upto : ℕ) (d : Run) → AreRuns rs → length rs ≡ 1 → from ≡ max (get_or rs 0 d).first first → upto ≡ min (get_or rs 0 d).last last + 1
    → range_with_len from (upto - from) ++ (run_numbers (take (length rs - 1) (drop 1 rs)) ++ range_with_len 0 0) ≡ numbers_between first last (run_numbers rs)
one_clipped [] first last from upto d h one begins ends = absurd (omega arith)
one_clipped (r ∷ (q ∷ rs)) first last from upto d h one begins ends = absurd (omega arith)
one_clipped (r ∷ []) first last from upto d h one begins ends =
    append-nil (range_with_len from (upto - from))
    ∙ sym (ap (numbers_between first last) (append-nil (numbers_of_run r)) ∙ run_between r first last from upto h.1 begins (omega arith))

-- several such runs
pub several_clipped : (rs : List Run) (first last from upto back_from back_upto : ℕ) (d : Run) → AreRuns rs → 1 < length rs → first ≤ last → EachMeets rs first last
    → from ≡ max (get_or rs 0 d).first first → upto ≡ (get_or rs 0 d).last + 1 → back_from ≡ (get_or rs (length rs - 1) d).first → back_upto ≡ min (get_or rs (length rs - 1) d).last last + 1
    → range_with_len from (upto - from) ++ (run_numbers (take (length rs - 1 - 1) (drop 1 rs)) ++ range_with_len back_from (back_upto - back_from)) ≡ numbers_between first last (run_numbers rs)
several_clipped [] first last from upto back_from back_upto d h some ordered meet begins ends back_begins back_ends = absurd (omega arith)
several_clipped (r ∷ rs) first last from upto back_from back_upto d h some ordered meet begins ends back_begins back_ends =
    let n = length rs - 1 in
    let size : length rs ≡ suc n = omega arith in
    let place : length (r ∷ rs) - 1 ≡ suc n = omega arith in
    let b = get_or rs n d in
    let at : get_or (r ∷ rs) (length (r ∷ rs) - 1) d ≡ b = ap (λ k. get_or (r ∷ rs) k d) place in
    let back_first : back_from ≡ b.first = back_begins ∙ ap (λ (q : Run). q.first) at in
    let back_last : back_upto ≡ min b.last last + 1 = back_ends ∙ ap (λ (q : Run). min q.last last + 1) at in
    let low = meet.ends 0 d (omega arith) in
    let high : b.first ≤ last = meet.begins (suc n) d (omega arith) in
    let up = h.1 in
    let next = first_at_least (r.last + 2) rs n d h.3 (omega arith) in
    let back_up = (run_ordered (r.last + 2) rs n d h.3 (omega arith)).0 in
    let count : length (r ∷ rs) - 1 - 1 ≡ n = omega arith in
    let middle : List Run = take n rs in
    sym (between_append first last (numbers_of_run r) (run_numbers rs)
    ∙ ap (λ l. l ++ numbers_between first last (run_numbers rs)) (run_between r first last from upto h.1 begins (omega arith))
    ∙ ap (λ l. range_with_len from (upto - from) ++ numbers_between first last l) (last_run rs n d size)
    ∙ ap (λ l. range_with_len from (upto - from) ++ l) (between_append first last (run_numbers middle) (numbers_of_run b)
    ∙ ap (λ l. l ++ numbers_between first last (numbers_of_run b)) (all_between (r.last + 2) b.first (run_numbers middle) first last (before_run (r.last + 2) rs n d h.3 (omega arith)) (omega arith) (omega arith))
    ∙ ap (λ l. run_numbers middle ++ l) (run_between b first last back_from back_upto back_up (omega arith) (omega arith)))
    ∙ sym (ap (λ m. range_with_len from (upto - from) ++ (run_numbers (take m rs) ++ range_with_len back_from (back_upto - back_from))) count))

-- ---- runs beside a list

-- a number of a range is in a list if it is in what the list has of the range
pub has_between : (first last k : ℕ) (xs : List ℕ) → first ≤ k → k ≤ last → has (numbers_between first last xs) k ≡ has xs k
has_between first last k xs low high = has_filter (λ k. is_between first last k) xs k ∙ ap (λ b. has xs k && b) (in_between first last k low high) ∙ and-true (has xs k)

-- a number of a list lies between its first one and its last one
within_ends : (xs : List ℕ) (k d : ℕ) → Ascends xs → has xs k ≡ true → (get_or xs 0 d ≤ k) × (k ≤ get_or xs (length xs - 1) d)
within_ends xs k d h there =
    let i = count_below xs k in
    let at = and_parts (nat_lt i (length xs)) (nat_eq (get_or xs i 0) k) (sym (at_place 0 65536 xs k h) ∙ there) in
    let inside : i < length xs = ltb-true i (length xs) at.0 in
    let here : get_or xs i d ≡ k = get_or_default xs i d 0 inside ∙ eqb-true (get_or xs i 0) k at.1 in (
      elim (cases_lt 0 i) [
        | inl more ↦ (let low = later 0 65536 xs 0 i d h more inside in omega arith)
        | inr first ↦ (let is : i ≡ 0 = omega arith in omega (arith, ap (λ n. get_or xs n d) is))
      ],
      elim (cases_lt i (length xs - 1)) [
        | inl less ↦ (let high = later 0 65536 xs i (length xs - 1) d h less (omega arith) in omega arith)
        | inr final ↦ (let is : i ≡ length xs - 1 = omega arith in omega (arith, ap (λ n. get_or xs n d) is))
      ],
    )

-- and the first one is at most the last one
pub ends_ordered : (xs : List ℕ) (first last d : ℕ) → Ascends xs → first ≡ get_or xs 0 d → last ≡ get_or xs (length xs - 1) d → first ≤ last
ends_ordered xs first last d h begins ends = elim (cases_lt 0 (length xs - 1)) [
  | inl more ↦ (let up = later 0 65536 xs 0 (length xs - 1) d h more (omega arith) in omega arith)
  | inr one ↦ (let is : length xs - 1 ≡ 0 = omega arith in omega (arith, ap (λ n. get_or xs n d) is))
]

-- runs that have the same numbers from a list's first number to its last one have as many of the list
pub count_met : (xs : List ℕ) (ps rs : List Run) (first last d : ℕ) → Ascends xs → AreRuns ps → AreRuns rs → first ≡ get_or xs 0 d → last ≡ get_or xs (length xs - 1) d
    → numbers_between first last (run_numbers ps) ≡ numbers_between first last (run_numbers rs) → count_where (has xs) (run_numbers ps) ≡ count_where (has xs) (run_numbers rs)
count_met xs ps rs first last d up h g begins ends same =
    count_swapped 65536 (run_numbers ps) xs (ascends_all ps h) up ∙ count_same (has (run_numbers ps)) (has (run_numbers rs)) xs alike ∙ sym (count_swapped 65536 (run_numbers rs) xs (ascends_all rs g) up)
  where
    alike : (k : ℕ) → has xs k ≡ true → has (run_numbers ps) k ≡ has (run_numbers rs) k
    alike k there =
        let ends_at = within_ends xs k d up there in
        let low : first ≤ k = omega (arith, ends_at.0) in
        let high : k ≤ last = omega (arith, ends_at.1) in
        sym (has_between first last k (run_numbers ps) low high) ∙ ap (λ l. has l k) same ∙ has_between first last k (run_numbers rs) low high
