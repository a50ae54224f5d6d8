-- Runs with one more, which takes up those that it meets or that are next to it.
use Rattle.std.proofs.Common.{◌≡◌, ℕ, zero, suc, ◌+◌, ◌-◌, ◌<◌, ◌≤◌, Bool, true, false, ◌||◌, List, [], ◌∷◌, ◌++◌, get_or, length, length-take, max, min, take, drop, refl, sym, ◌∙◌, ap, subst, inl, inr, arith}
use Rattle.std.proofs.Math.Bool.{or-false}
use Rattle.std.proofs.Math.ListN.{drop_of_length-le}
use Rattle.std.proofs.lemmas.Bool.{cases_lt}
use Rattle.std.proofs.lemmas.List.{drop-drop, get_or-drop, get_or-take, length-drop, take-append-drop, take_more}
use Rattle.bit_blocks.specs.Numbers.{GainsBetween}
use Rattle.bit_blocks.specs.RunPlaces.{Absorbs, IsEndedBefore}
use Rattle.bit_blocks.specs.Runs.{AreRuns, AreRunsFrom, is_in_run, is_in_runs, run_numbers}
use Rattle.bit_blocks.specs.declared.ranged.Run.{Run}
use Rattle.bit_blocks.proofs.Between.{after_range, before_range, in_between}
use Rattle.bit_blocks.proofs.Clipped.{runs_taken}
use Rattle.bit_blocks.proofs.Edits.{or_assoc}
use Rattle.bit_blocks.proofs.Runs.{first_at_least, has_runs, run_ordered, runs_from, runs_later}

-- ---- numbers of runs

pub is_in_append : (xs ys : List Run) (k : ℕ) → is_in_runs (xs ++ ys) k ≡ (is_in_runs xs k || is_in_runs ys k)
is_in_append [] ys k = refl
is_in_append (r ∷ xs) ys k = ap (λ b. is_in_run r k || b) (is_in_append xs ys k) ∙ sym (or_assoc (is_in_run r k) (is_in_runs xs k) (is_in_runs ys k))

-- the run that has two runs which meet, or are next to one another
abbrev pub both_runs : Run → Run → Run
both_runs r s = record { first = min r.first s.first; last = max r.last s.last }

is_in_both : (r s : Run) (k : ℕ) → r.first ≤ r.last → s.first ≤ s.last → s.first ≤ r.last + 1 → r.first ≤ s.last + 1 → is_in_run (both_runs r s) k ≡ (is_in_run r k || is_in_run s k)
is_in_both r s k up also low high =
    let first = min r.first s.first in
    let last = max r.last s.last in
    elim (cases_lt k r.first) [
      | inl less ↦ elim (cases_lt k s.first) [
        | inl below ↦ before_range first last k (omega arith) ∙ sym (ap (λ b. b || is_in_run s k) (before_range r.first r.last k less) ∙ before_range s.first s.last k below)
        | inr above ↦ in_between first last k (omega arith) (omega arith) ∙ sym (ap (λ b. b || is_in_run s k) (before_range r.first r.last k less) ∙ in_between s.first s.last k above (omega arith))
      ]
      | inr more ↦ elim (cases_lt r.last k) [
        | inl past ↦ elim (cases_lt s.last k) [
          | inl over ↦ after_range first last k (omega arith) ∙ sym (ap (λ b. b || is_in_run s k) (after_range r.first r.last k past) ∙ after_range s.first s.last k over)
          | inr within ↦ in_between first last k (omega arith) (omega arith) ∙ sym (ap (λ b. b || is_in_run s k) (after_range r.first r.last k past) ∙ in_between s.first s.last k (omega arith) within)
        ]
        | inr here ↦ in_between first last k (omega arith) (omega arith) ∙ sym (ap (λ b. b || is_in_run s k) (in_between r.first r.last k more here))
      ]
    ]

-- between two runs a number is left out
pub gap : (from : ℕ) (rs : List Run) (n j : ℕ) (d e : Run) → AreRunsFrom from rs → n < j → j < length rs → (get_or rs n d).last + 1 < (get_or rs j e).first
gap from [] n j d e h before inside = absurd (omega arith)
gap from (r ∷ rs) n zero d e h before inside = absurd (omega arith)
gap from (r ∷ rs) zero (suc j) d e h before inside = let low = first_at_least (r.last + 2) rs j e h.3 (omega arith) in omega arith
gap from (r ∷ rs) (suc n) (suc j) d e h before inside = gap (r.last + 2) rs n j d e h.3 (omega arith) (omega arith)

-- ---- runs that are taken up, one after another

-- the runs from i to j were taken up
pub record AbsorbsTo (rs : List Run) (i : ℕ) (r all : Run) (j : ℕ) : Type 0 where
  pub within : (i ≤ j) × (j ≤ length rs)
  pub ordered : (all.first ≤ all.last) × (all.last < 65536)
  pub grown : (all.first ≤ r.first) × (r.last ≤ all.last)
  pub same : (k : ℕ) → is_in_run all k ≡ (is_in_run r k || is_in_runs (take (j - i) (drop i rs)) k)
  pub before : (n : ℕ) (d : Run) → n < i → (get_or rs n d).last + 1 < all.first

pub none_absorbed : (rs : List Run) (i : ℕ) (r : Run) → i ≤ length rs → r.first ≤ r.last → r.last < 65536 → IsEndedBefore rs (r.first - 1) i → AbsorbsTo rs i r r i
none_absorbed rs i r least ordered most place = record {
  within = (omega arith, least);
  ordered = (ordered, most);
  grown = (omega arith, omega arith);
  same = λ k. let none : i - i ≡ 0 = omega arith in sym (ap (λ n. is_in_run r k || is_in_runs (take n (drop i rs)) k) none ∙ or-false (is_in_run r k));
  before = λ n d l. let low = place.before n d l in omega arith;
}

both_absorbed : (rs : List Run) (i j : ℕ) (r all d : Run) → AreRuns rs → IsEndedBefore rs (r.first - 1) i → AbsorbsTo rs i r all j → j < length rs → (get_or rs j d).first ≤ all.last + 1 → AbsorbsTo rs i r (both_runs all (get_or rs j d)) (j + 1)
both_absorbed rs i j r all d h place a inside meets =
    let next = get_or rs j d in
    let low = a.within.0 in
    let up = run_ordered 0 rs j d h inside in
    let high = place.after j d low inside in
    let first = a.ordered.0 in
    let most = a.ordered.1 in
    let begins = a.grown.0 in
    let ends = a.grown.1 in
    let also = up.0 in
    let below = up.1 in
    record {
      within = (omega arith, omega arith);
      ordered = (omega arith, omega arith);
      grown = (omega arith, omega arith);
      same = λ k. is_in_both all next k first also meets (omega arith) ∙ ap (λ b. b || is_in_run next k) (a.same k) ∙ or_assoc (is_in_run r k) (is_in_runs (take (j - i) (drop i rs)) k) (is_in_run next k) ∙ ap (λ b. is_in_run r k || b) (sym (more k low));
      before = λ n e l. let less = a.before n e l in let apart = gap 0 rs n j e d h (omega arith) inside in omega arith;
    }
  where
    more : (k : ℕ) → i ≤ j → is_in_runs (take (j + 1 - i) (drop i rs)) k ≡ (is_in_runs (take (j - i) (drop i rs)) k || is_in_run (get_or rs j d) k)
    more k low =
        let size : j + 1 - i ≡ (j - i) + 1 = omega arith in
        let at : i + (j - i) ≡ j = omega arith in
        ap (λ n. is_in_runs (take n (drop i rs)) k) size ∙ ap (λ l. is_in_runs l k) (take_more (drop i rs) (j - i) d (omega (arith, length-drop i rs)))
        ∙ is_in_append (take (j - i) (drop i rs)) (get_or (drop i rs) (j - i) d ∷ []) k
        ∙ ap (λ b. is_in_runs (take (j - i) (drop i rs)) k || b) (or-false (is_in_run (get_or (drop i rs) (j - i) d) k) ∙ ap (λ s. is_in_run s k) (get_or-drop i rs (j - i) d ∙ ap (λ n. get_or rs n d) at))

pub one_absorbed : (rs : List Run) (i j : ℕ) (r all d : Run) (first last : ℕ) → AreRuns rs → IsEndedBefore rs (r.first - 1) i → AbsorbsTo rs i r all j → j < length rs → (get_or rs j d).first ≤ all.last + 1 → first ≡ min all.first (get_or rs j d).first → last ≡ max all.last (get_or rs j d).last
    → AbsorbsTo rs i r (record { first = first; last = last }) (j + 1)
one_absorbed rs i j r all d first last h place a inside meets begin end =
    subst (λ n. AbsorbsTo rs i r (record { first = n; last = last }) (j + 1)) (sym begin)
    (subst (λ n. AbsorbsTo rs i r (record { first = min all.first (get_or rs j d).first; last = n }) (j + 1)) (sym end) (both_absorbed rs i j r all d h place a inside meets))

pub all_absorbed : (rs : List Run) (i : ℕ) (r all : Run) (j : ℕ) → AbsorbsTo rs i r all j → ((d : Run) → j < length rs → all.last + 1 < (get_or rs j d).first) → Absorbs rs i r all j
all_absorbed rs i r all j a apart = record { within = a.within; ordered = a.ordered; same = a.same; before = a.before; after = apart }

-- ---- the runs with one more

apart_runs : (from : ℕ) (xs ys : List Run) (r : Run) → AreRunsFrom from xs → ((n : ℕ) (d : Run) → n < length xs → (get_or xs n d).last + 1 < r.first) → from ≤ r.first → r.first ≤ r.last → r.last < 65536 → AreRunsFrom (r.last + 2) ys → AreRunsFrom from (xs ++ r ∷ ys)
apart_runs from [] ys r h below low ordered most up = (low, ordered, most, up)
apart_runs from (x ∷ xs) ys r h below low ordered most up =
    let first = below 0 x (omega arith) in
    (h.0, h.1, h.2, apart_runs (x.last + 2) xs ys r h.3 (λ n d l. below (suc n) d (omega arith)) (omega arith) ordered most up)

module _ (rs made : List Run) (i j : ℕ) (r all : Run) (h : AreRuns rs) (a : Absorbs rs i r all j) (is : made ≡ take i rs ++ all ∷ drop j rs) where
  later : AreRunsFrom (all.last + 2) (drop j rs)
  later = elim (cases_lt j (length rs)) [
    | inl inside ↦ (let apart = a.after all inside in runs_later (get_or rs j all).first (all.last + 2) (drop j rs) (omega arith) (runs_from 0 rs j all h inside))
    | inr past ↦ subst (AreRunsFrom (all.last + 2)) (sym (drop_of_length-le rs past)) tt
  ]

  pub put_runs : AreRuns made
  put_runs = subst AreRuns (sym is) (apart_runs 0 (take i rs) (drop j rs) all (runs_taken 0 rs i h) below (omega arith) a.ordered.0 a.ordered.1 later)
    where
      below : (n : ℕ) (d : Run) → n < length (take i rs) → (get_or (take i rs) n d).last + 1 < all.first
      below n d l =
          let inside : n < i = omega (arith, length-take i rs) in
          let low = a.before n d inside in
          omega (arith, ap (λ (s : Run). s.last) (get_or-take i rs n d inside))

  parts : rs ≡ take i rs ++ (take (j - i) (drop i rs) ++ drop j rs)
  parts =
      let low = a.within.0 in
      let at : i + (j - i) ≡ j = omega arith in
      sym (ap (λ l. take i rs ++ l) (ap (λ l. take (j - i) (drop i rs) ++ l) (sym (drop-drop (j - i) i rs ∙ ap (λ n. drop n rs) at)) ∙ take-append-drop (j - i) (drop i rs)) ∙ take-append-drop i rs)

  pub put_gains : GainsBetween (run_numbers rs) (run_numbers made) r.first r.last
  put_gains k =
      let before = is_in_runs (take i rs) k in
      let met = is_in_runs (take (j - i) (drop i rs)) k in
      let after = is_in_runs (drop j rs) k in
      has_runs 0 made k put_runs ∙ ap (λ l. is_in_runs l k) is ∙ is_in_append (take i rs) (all ∷ drop j rs) k ∙ ap (λ b. before || (b || after)) (a.same k) ∙ turned before (is_in_run r k) met after
      ∙ ap (λ b. is_in_run r k || b) (sym (has_runs 0 rs k h ∙ ap (λ l. is_in_runs l k) parts ∙ is_in_append (take i rs) (take (j - i) (drop i rs) ++ drop j rs) k ∙ ap (λ b. before || b) (is_in_append (take (j - i) (drop i rs)) (drop j rs) k)))
    where
      turned : (b r m a : Bool) → (b || ((r || m) || a)) ≡ (r || (b || (m || a)))
      turned true true m a = refl
      turned true false m a = refl
      turned false true m a = refl
      turned false false m a = refl
