-- Two lists of runs that are combined, a stretch at a time.
use Rattle.std.proofs.Common.{◌≡◌, ◌≢◌, ℕ, zero, suc, ◌+◌, ◌-◌, ◌<◌, ◌≤◌, Bool, true, false, cond, ◌&&◌, ◌||◌, leb, List, [], ◌∷◌, ◌++◌, append-nil, append_assoc, get_or, length, refl, sym, ◌∙◌, ap, subst, inl, inr, arith}
use Rattle.std.specs.Prelude.{◌⊎◌, ⊤}
use Rattle.std.specs.List.{range_with_len}
use Rattle.std.proofs.Math.Bool.{or-true, and-false}
use Rattle.std.proofs.lemmas.Bool.{cases_lt, le-leb, lt-leb, lt-ltb, le-ltb}
use Rattle.std.proofs.lemmas.List.{get_or_default}
use Rattle.bit_blocks.specs.declared.operation.Operation.{Operation}
use Rattle.bit_blocks.specs.declared.ranged.Run.{Run}
use Rattle.bit_blocks.specs.Numbers.{Combines, has, numbers_between, those}
use Rattle.bit_blocks.specs.Operation.{made_by}
use Rattle.bit_blocks.specs.Runs.{AreRuns, AreRunsFrom, is_in_run, is_in_runs, numbers_of_run, run_below, run_numbers}
use Rattle.bit_blocks.specs.RunPlaces.{EndBefore, IsEndedBefore, IsStretch}
use Rattle.bit_blocks.proofs.Absorbed.{gap}
use Rattle.bit_blocks.proofs.Clipped.{has_between}
use Rattle.bit_blocks.proofs.Merging.{combines_those, kept, kept_where}
use Rattle.bit_blocks.proofs.Runs.{ascends_all, firsts_ascend, has_runs, lasts_ascend, run_ordered}
use Rattle.bit_blocks.proofs.Those.{those_empty, those_here, those_joined, those_none}

-- ---- stretches of one list

-- a number that is past a run's end or before its beginning, whichever run it is, is in none
pub in_no_run : (rs : List Run) (k : ℕ) → ((j : ℕ) (d : Run) → j < length rs → ((get_or rs j d).last < k) ⊎ (k < (get_or rs j d).first)) → is_in_runs rs k ≡ false
in_no_run [] k out = refl
in_no_run (r ∷ rs) k out =
    let rest = in_no_run rs k (λ j d l. out (suc j) d (omega arith)) in
    elim (out 0 r (omega arith)) [
      | inl past ↦ ap (λ b. (leb r.first k && b) || is_in_runs rs k) (lt-leb k r.last past) ∙ ap (λ b. b || is_in_runs rs k) (and-false (leb r.first k)) ∙ rest
      | inr before ↦ ap (λ b. (b && leb k r.last) || is_in_runs rs k) (lt-leb r.first k before) ∙ rest
    ]

pub in_some_run : (rs : List Run) (k i : ℕ) (d : Run) → i < length rs → (get_or rs i d).first ≤ k → k ≤ (get_or rs i d).last → is_in_runs rs k ≡ true
in_some_run [] k i d inside low high = absurd (omega arith)
in_some_run (r ∷ rs) k zero d inside low high = ap (λ b. (b && leb k r.last) || is_in_runs rs k) (le-leb r.first k low) ∙ ap (λ b. b || is_in_runs rs k) (le-leb k r.last high)
in_some_run (r ∷ rs) k (suc i) d inside low high = ap (λ b. is_in_run r k || b) (in_some_run rs k i d (omega arith) low high) ∙ or-true (is_in_run r k)

-- a number of runs lies between the first one of the first run and the last one of the last run
within_runs : (rs : List Run) (k : ℕ) (d : Run) → AreRuns rs → 0 < length rs → has (run_numbers rs) k ≡ true → ((get_or rs 0 d).first ≤ k) × (k ≤ (get_or rs (length rs - 1) d).last)
within_runs rs k d h some there = (
  elim (cases_lt k (get_or rs 0 d).first) [
    | inl low ↦ absurd (let e : true ≡ false = sym there ∙ has_runs 0 rs k h ∙ in_no_run rs k (λ j e l.
        let up = firsts_ascend 0 rs h 0 j e (omega arith) l in
        let same = ap (λ (r : Run). r.first) (get_or_default rs 0 d e some) in
        inr (omega arith)) in cc)
    | inr fine ↦ fine
  ],
  elim (cases_lt (get_or rs (length rs - 1) d).last k) [
    | inl high ↦ absurd (let e : true ≡ false = sym there ∙ has_runs 0 rs k h ∙ in_no_run rs k (λ j e l.
        let up = lasts_ascend 0 rs h j (length rs - 1) e (omega arith) (omega arith) in
        let same = ap (λ (r : Run). r.last) (get_or_default rs (length rs - 1) d e (omega arith)) in
        inl (omega arith)) in cc)
    | inr fine ↦ fine
  ],
)

-- runs that have the same numbers from the first number of others to their last one have the same of these
pub alike_beside : (rs ps os : List Run) (first last k : ℕ) (d : Run) → AreRuns os → 0 < length os → first ≡ (get_or os 0 d).first → last ≡ (get_or os (length os - 1) d).last
    → numbers_between first last (run_numbers ps) ≡ numbers_between first last (run_numbers rs) → has (run_numbers os) k ≡ true → has (run_numbers ps) k ≡ has (run_numbers rs) k
alike_beside rs ps os first last k d h some begins ends same there =
    let at = within_runs os k d h some there in
    let low : first ≤ k = omega (arith, at.0) in
    let high : k ≤ last = omega (arith, at.1) in
    sym (has_between first last k (run_numbers ps) low high) ∙ ap (λ l. has l k) same ∙ has_between first last k (run_numbers rs) low high

-- and the first number is at most the last one
pub runs_ordered : (rs : List Run) (first last : ℕ) (d : Run) → AreRuns rs → 0 < length rs → first ≡ (get_or rs 0 d).first → last ≡ (get_or rs (length rs - 1) d).last → first ≤ last
runs_ordered rs first last d h some begins ends =
    let up = (run_ordered 0 rs (length rs - 1) d h (omega arith)).0 in
    let on = firsts_ascend 0 rs h 0 (length rs - 1) d (omega arith) (omega arith) in
    omega arith

module _ (rs : List Run) (at i : ℕ) (h : AreRuns rs) (g : IsEndedBefore rs at i) where
  pub past_all : at < 65536 → i ≡ length rs → IsStretch rs at 65536 false
  past_all low all = record {
    some = low;
    most = omega arith;
    alike = λ k from upto. has_runs 0 rs k h ∙ in_no_run rs k (λ j d l. let e = g.before j d (omega arith) in inl (omega arith));
  }

  pub in_run : (d : Run) → i < length rs → (get_or rs i d).first ≤ at → IsStretch rs at ((get_or rs i d).last + 1) true
  in_run d inside begun =
      let ends = g.after i d (omega arith) inside in
      let most = (run_ordered 0 rs i d h inside).1 in
      record {
        some = omega arith;
        most = omega arith;
        alike = λ k from upto. has_runs 0 rs k h ∙ in_some_run rs k i d inside (omega arith) (omega arith);
      }

  pub before_run : (d : Run) → i < length rs → at < (get_or rs i d).first → IsStretch rs at (get_or rs i d).first false
  before_run d inside low =
      let ordered = run_ordered 0 rs i d h inside in
      let ends = ordered.0 in
      let most = ordered.1 in
      record {
        some = low;
        most = omega arith;
        alike = λ k from upto. has_runs 0 rs k h ∙ in_no_run rs k (λ j e l. elim (cases_lt j i) [
          | inl earlier ↦ (let past = g.before j e earlier in inl (omega arith))
          | inr later ↦ (let next = firsts_ascend 0 rs h i j e (omega arith) l in let same = ap (λ r. r.first) (get_or_default rs i d e inside) in inr (omega arith))
        ]);
      }

-- a run more ends before a number
pub one_more_ends : (rs : List Run) (upto i : ℕ) (d : Run) → i < length rs → EndBefore rs upto i → (get_or rs i d).last < upto → EndBefore rs upto (i + 1)
one_more_ends rs upto i d inside before ends j e low = elim (cases_lt j i) [
  | inl earlier ↦ before j e earlier
  | inr same ↦ (let is : j ≡ i = omega arith in let here = ap (λ n. (get_or rs n e).last) is in let other = ap (λ r. r.last) (get_or_default rs i d e inside) in omega arith)
]

-- the next run does not end before a number, or there is none
pub ended_here : (rs : List Run) (upto i : ℕ) (d : Run) → AreRuns rs → EndBefore rs upto i → (i < length rs → upto ≤ (get_or rs i d).last) → IsEndedBefore rs upto i
ended_here rs upto i d h before next = record {
  before = before;
  after = λ j e low inside.
      let here = next (omega arith) in
      let later = lasts_ascend 0 rs h i j e low inside in
      let same = ap (λ r. r.last) (get_or_default rs i d e (omega arith)) in
      omega arith;
}

-- one run more ends before a number, and the one after that does not
pub one_ends : (rs : List Run) (upto i : ℕ) (d : Run) → AreRuns rs → i < length rs → EndBefore rs upto i → (get_or rs i d).last < upto → upto ≤ (get_or rs i d).last + 1 → IsEndedBefore rs upto (i + 1)
one_ends rs upto i d h inside before low near =
    ended_here rs upto (i + 1) d h (one_more_ends rs upto i d inside before low) (λ more. let apart = gap 0 rs i (i + 1) d d h (omega arith) more in let up = (run_ordered 0 rs (i + 1) d h more).0 in omega arith)

-- ---- what was made

pub numbers_append : (rs ss : List Run) → run_numbers (rs ++ ss) ≡ run_numbers rs ++ run_numbers ss
numbers_append [] ss = refl
numbers_append (r ∷ rs) ss = ap (λ l. numbers_of_run r ++ l) (numbers_append rs ss) ∙ sym (append_assoc (numbers_of_run r) (run_numbers rs) (run_numbers ss))

-- all runs end before a number that is left out, which is before b
abbrev pub EndApart : List Run → ℕ → Type 0
EndApart [] b = ⊤
EndApart (r ∷ rs) b = (r.last + 2 ≤ b) × EndApart rs b

pub apart_later : (rs : List Run) (b c : ℕ) → b ≤ c → EndApart rs b → EndApart rs c
apart_later [] b c low h = tt
apart_later (r ∷ rs) b c low h = let here = h.0 in (omega arith, apart_later rs b c low h.1)

pub below_some : (first upto : ℕ) → first < upto → run_below first upto ≡ record { first = first; last = upto - 1 } ∷ []
below_some first upto some = ap (λ b. cond b (record { first = first; last = upto - 1 } ∷ []) []) (lt-ltb first upto some)

pub below_none : (first upto : ℕ) → upto ≤ first → run_below first upto ≡ []
below_none first upto none = ap (λ b. cond b (record { first = first; last = upto - 1 } ∷ []) []) (le-ltb first upto none)

below_numbers : (first upto : ℕ) → run_numbers (run_below first upto) ≡ range_with_len first (upto - first)
below_numbers first upto = elim (cases_lt first upto) [
  | inl some ↦ (let size : upto - 1 + 1 - first ≡ upto - first = omega arith in ap run_numbers (below_some first upto some) ∙ append-nil (range_with_len first (upto - 1 + 1 - first)) ∙ ap (range_with_len first) size)
  | inr none ↦ (let size : 0 ≡ upto - first = omega arith in ap run_numbers (below_none first upto none) ∙ ap (range_with_len first) size)
]

pub below_apart : (rs : List Run) (first upto at : ℕ) → first ≤ upto → upto < at → EndApart rs first → EndApart (rs ++ run_below first upto) at
below_apart [] first upto at ordered low h = elim (cases_lt first upto) [
  | inl some ↦ subst (λ l. EndApart l at) (sym (below_some first upto some)) (omega arith, tt)
  | inr none ↦ subst (λ l. EndApart l at) (sym (below_none first upto none)) tt
]
below_apart (r ∷ rs) first upto at ordered low h = let here = h.0 in (omega arith, below_apart rs first upto at ordered low h.1)

pub below_runs : (from : ℕ) (rs : List Run) (first upto : ℕ) → upto ≤ 65536 → from ≤ first → AreRunsFrom from rs → EndApart rs first → AreRunsFrom from (rs ++ run_below first upto)
below_runs from [] first upto most low h apart = elim (cases_lt first upto) [
  | inl some ↦ subst (AreRunsFrom from) (sym (below_some first upto some)) (low, omega arith, omega arith, tt)
  | inr none ↦ subst (AreRunsFrom from) (sym (below_none first upto none)) tt
]
below_runs from (r ∷ rs) first upto most low h apart = let here = apart.0 in (h.0, h.1, h.2, below_runs (r.last + 2) rs first upto most (omega arith) h.3 apart.1)

-- all numbers of a range pass
those_all : (p : ℕ → Bool) (a n : ℕ) → ((k : ℕ) → a ≤ k → k < a + n → p k ≡ true) → those p a n ≡ range_with_len a n
those_all p a zero all = those_none p a
those_all p a (suc n) all = those_here p a n (all a (omega arith) (omega arith)) ∙ ap (λ l. a ∷ l) (those_all p (a + 1) n (λ k low high. all k (omega arith) (omega arith)))

range_joined : (a m n : ℕ) → range_with_len a m ++ range_with_len (a + m) n ≡ range_with_len a (m + n)
range_joined a m n =
    let p : ℕ → Bool = λ _. true in
    sym (ap (λ l. l ++ those p (a + m) n) (those_all p a m (λ k low high. refl)) ∙ ap (λ l. range_with_len a m ++ l) (those_all p (a + m) n (λ k low high. refl)))
    ∙ sym (those_joined p a m n) ∙ those_all p a (m + n) (λ k low high. refl)

-- the numbers below `at` are decided: those of the runs that were made, and those from `first` on that are below `upto`
pub record IsMadeTo (op : Operation) (xs ys made : List Run) (first upto at : ℕ) : Type 0 where
  pub ordered : first ≤ upto
  pub past : upto ≤ at
  pub most : at ≤ 65536
  pub runs : AreRuns made
  pub apart : EndApart made first
  pub numbers : run_numbers made ++ range_with_len first (upto - first) ≡ those (kept op (run_numbers xs) (run_numbers ys)) 0 at

pub nothing_made : (op : Operation) (xs ys : List Run) → IsMadeTo op xs ys [] 0 0 0
nothing_made op xs ys = record {
  ordered = omega arith;
  past = omega arith;
  most = omega arith;
  runs = tt;
  apart = tt;
  numbers = sym (those_none (kept op (run_numbers xs) (run_numbers ys)) 0);
}

module _ (op : Operation) (xs ys made : List Run) (first upto at left_end right_end end : ℕ) (in_left in_right : Bool) (g : IsMadeTo op xs ys made first upto at) (left : IsStretch xs at left_end in_left) (right : IsStretch ys at right_end in_right) (to_left : end ≤ left_end) (to_right : end ≤ right_end) (on : at < end) where
  abbrev p : ℕ → Bool
  p = kept op (run_numbers xs) (run_numbers ys)

  same : (k : ℕ) → at ≤ k → k < end → p k ≡ made_by op in_left in_right
  same k low high = kept_where op (run_numbers xs) (run_numbers ys) k in_left in_right (left.alike k low (omega arith)) (right.alike k low (omega arith))

  parts : those p 0 end ≡ those p 0 at ++ those p at (end - at)
  parts = let size : at + (end - at) ≡ end = omega arith in let begin : 0 + at ≡ at = omega arith in ap (those p 0) (sym size) ∙ those_joined p 0 at (end - at) ∙ ap (λ n. those p 0 at ++ those p n (end - at)) begin

  fits : end ≤ 65536
  fits = let most = left.most in omega arith

  -- the numbers of the stretch are left out
  pub stretch_out : made_by op in_left in_right ≡ false → IsMadeTo op xs ys made first upto end
  stretch_out out =
      let past = g.past in
      record {
        ordered = g.ordered;
        past = omega arith;
        most = fits;
        runs = g.runs;
        apart = g.apart;
        numbers = g.numbers ∙ sym (parts ∙ ap (λ l. those p 0 at ++ l) (those_empty p at (end - at) (λ k low high. same k low (omega arith) ∙ out)) ∙ append-nil (those p 0 at));
      }

  whole : made_by op in_left in_right ≡ true → those p 0 end ≡ those p 0 at ++ range_with_len at (end - at)
  whole here = parts ∙ ap (λ l. those p 0 at ++ l) (those_all p at (end - at) (λ k low high. same k low (omega arith) ∙ here))

  -- they follow those that were kept apart
  pub stretch_on : made_by op in_left in_right ≡ true → at ≡ upto → IsMadeTo op xs ys made first end end
  stretch_on here on_end =
      let ordered = g.ordered in
      let begin : at ≡ first + (upto - first) = omega arith in
      let size : upto - first + (end - at) ≡ end - first = omega arith in
      record {
        ordered = omega arith;
        past = omega arith;
        most = fits;
        runs = g.runs;
        apart = g.apart;
        numbers = sym (whole here ∙ ap (λ l. l ++ range_with_len at (end - at)) (sym g.numbers) ∙ append_assoc (run_numbers made) (range_with_len first (upto - first)) (range_with_len at (end - at))
            ∙ ap (λ n. run_numbers made ++ (range_with_len first (upto - first) ++ range_with_len n (end - at))) begin
            ∙ ap (λ l. run_numbers made ++ l) (range_joined first (upto - first) (end - at)) ∙ ap (λ n. run_numbers made ++ range_with_len first n) size);
      }

  -- they do not follow those
  pub stretch_new : made_by op in_left in_right ≡ true → at ≢ upto → IsMadeTo op xs ys (made ++ run_below first upto) at end end
  stretch_new here apart =
      let ordered = g.ordered in
      let past = g.past in
      let most = g.most in
      record {
        ordered = omega arith;
        past = omega arith;
        most = fits;
        runs = below_runs 0 made first upto (omega arith) (omega arith) g.runs g.apart;
        apart = below_apart made first upto at ordered (omega (arith, apart)) g.apart;
        numbers = sym (whole here ∙ ap (λ l. l ++ range_with_len at (end - at)) (sym g.numbers ∙ ap (λ l. run_numbers made ++ l) (sym (below_numbers first upto)) ∙ sym (numbers_append made (run_below first upto))));
      }

-- the numbers below 65536 are decided
module _ (op : Operation) (xs ys made : List Run) (first upto at : ℕ) (g : IsMadeTo op xs ys made first upto at) where
  pub made_runs : AreRuns (made ++ run_below first upto)
  made_runs = let past = g.past in let most = g.most in below_runs 0 made first upto (omega arith) (omega arith) g.runs g.apart

  pub made_combines : AreRuns xs → AreRuns ys → 65536 ≤ at → Combines (made_by op) (run_numbers xs) (run_numbers ys) (run_numbers (made ++ run_below first upto))
  made_combines h k all =
      let most = g.most in
      let end : at ≡ 65536 = omega arith in
      combines_those op (run_numbers xs) (run_numbers ys) (run_numbers (made ++ run_below first upto)) (ascends_all xs h) (ascends_all ys k)
      (numbers_append made (run_below first upto) ∙ ap (λ l. run_numbers made ++ l) (below_numbers first upto) ∙ g.numbers ∙ ap (those (kept op (run_numbers xs) (run_numbers ys)) 0) end)
