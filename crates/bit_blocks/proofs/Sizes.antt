-- How many numbers a list has whose numbers are in others.
use Rattle.std.proofs.Common.{◌≡◌, ℕ, zero, suc, ◌+◌, ◌-◌, ◌<◌, ◌≤◌, Bool, true, false, cond, not, ◌&&◌, ◌||◌, nat_eq, List, [], ◌∷◌, append-nil, length, refl, sym, ◌∙◌, ap, subst, inl, inr, arith}
use Rattle.std.proofs.Math.Bool.{and-true, or-false, or-true}
use Rattle.std.proofs.lemmas.Bool.{and_parts, cases_Bool, cases_eq, cases_lt, eq-eqb, ne_eqb}
use Rattle.bit_blocks.specs.Numbers.{Ascends, Combines, Gains, GainsBetween, Loses, LosesBetween, count_where, has, is_between, those}
use Rattle.bit_blocks.specs.Operation.{made_by}
use Rattle.bit_blocks.specs.Runs.{AreRuns, numbers_of_run, run_numbers}
use Rattle.bit_blocks.specs.declared.operation.Operation.{Operation}
use Rattle.bit_blocks.specs.declared.ranged.Run.{Run}
use Rattle.bit_blocks.proofs.Between.{after_range, before_range, in_between}
use Rattle.bit_blocks.proofs.Counting.{count_most, count_those, counted_swapped}
use Rattle.bit_blocks.proofs.Edits.{length_gained, length_lost}
use Rattle.bit_blocks.proofs.Merging.{made_none}
use Rattle.bit_blocks.proofs.Runs.{ascends_all, ascends_runs, has_run, run_size}
use Rattle.bit_blocks.proofs.Those.{those_empty, those_here, those_none, those_not_here, those_of}

-- no fewer pass from one number earlier on
more_those : (p : ℕ → Bool) (a n : ℕ) → length (those p (a + 1) n) ≤ length (those p a (suc n))
more_those p a n = elim (cases_Bool (p a)) [
  | inl here ↦ (let e = ap length (those_here p a n here) in omega arith)
  | inr out ↦ (let e = ap length (those_not_here p a n out) in omega arith)
]

-- where each number that passes one test passes one of two others, no more pass it than pass those
either_passes : (p q r : ℕ → Bool) (a n : ℕ) → ((k : ℕ) → p k ≡ true → (q k || r k) ≡ true) → length (those p a n) ≤ length (those q a n) + length (those r a n)
either_passes p q r a zero pass = let e = ap length (those_none p a) in omega arith
either_passes p q r a (suc n) pass =
    let rest = either_passes p q r (a + 1) n pass in
    let f = more_those q a n in
    let g = more_those r a n in
    elim (cases_Bool (p a)) [
      | inr out ↦ (let e = ap length (those_not_here p a n out) in omega arith)
      | inl here ↦ (let e = ap length (those_here p a n here) in elim (cases_Bool (q a)) [
        | inl one ↦ (let h = ap length (those_here q a n one) in omega arith)
        | inr other ↦ (let h = ap length (those_here r a n (sym (ap (λ b. b || r a) other) ∙ pass a here)) in omega arith)
      ])
    ]

-- a list whose numbers are all in one of two others has no more than both
pub few_in_either : (xs ys zs : List ℕ) → Ascends xs → Ascends ys → Ascends zs → ((k : ℕ) → has zs k ≡ true → (has xs k || has ys k) ≡ true) → length zs ≤ length xs + length ys
few_in_either xs ys zs h g f within =
    let x = ap length (those_of 0 65536 xs 65536 (omega arith) h) in
    let y = ap length (those_of 0 65536 ys 65536 (omega arith) g) in
    let z = ap length (those_of 0 65536 zs 65536 (omega arith) f) in
    let most = either_passes (has zs) (has xs) (has ys) 0 65536 within in
    omega arith

-- and one whose numbers are all in another has no more than that
pub few_within : (xs ys : List ℕ) → Ascends xs → Ascends ys → ((k : ℕ) → has xs k ≡ true → has ys k ≡ true) → length xs ≤ length ys
few_within xs ys h g within = let most = few_in_either [] ys xs tt g h within in omega arith

-- a number put in
pub no_fewer_gained : (xs ys : List ℕ) (n : ℕ) → Ascends xs → Ascends ys → Gains xs ys n → length xs ≤ length ys
no_fewer_gained xs ys n h g gains = few_within xs ys h g (λ k there. gains k ∙ ap (λ b. nat_eq n k || b) there ∙ or-true (nat_eq n k))

pub one_more_gained : (xs ys : List ℕ) (n : ℕ) → Ascends xs → Ascends ys → n < 65536 → Gains xs ys n → length ys ≤ length xs + 1
one_more_gained xs ys n h g low gains =
    let most = few_in_either (n ∷ []) xs ys (omega arith, low, tt) h g (λ k there. ap (λ b. b || has xs k) (or-false (nat_eq n k)) ∙ sym (gains k) ∙ there) in
    omega arith

-- a number taken out
pub no_more_lost : (xs ys : List ℕ) (n : ℕ) → Ascends xs → Ascends ys → Loses xs ys n → length ys ≤ length xs
no_more_lost xs ys n h g loses = few_within ys xs g h (λ k there. (and_parts (has xs k) (not (nat_eq n k)) (sym (loses k) ∙ there)).0)

pub one_less_lost : (xs ys : List ℕ) (n : ℕ) → Ascends xs → Ascends ys → n < 65536 → Loses xs ys n → length xs ≤ length ys + 1
one_less_lost xs ys n h g low loses =
    let most = few_in_either (n ∷ []) ys xs (omega arith, low, tt) g h (λ k there. elim (cases_Bool (nat_eq n k)) [
      | inl same ↦ ap (λ b. (b || false) || has ys k) same
      | inr other ↦ ap (λ b. (b || false) || has ys k) other ∙ loses k ∙ ap (λ b. has xs k && not b) other ∙ and-true (has xs k) ∙ there
    ]) in
    omega arith

-- the numbers of a range put in
pub no_fewer_filled : (xs ys : List ℕ) (first last : ℕ) → Ascends xs → Ascends ys → GainsBetween xs ys first last → length xs ≤ length ys
no_fewer_filled xs ys first last h g gains =
    few_within xs ys h g (λ k there. gains k ∙ ap (λ b. is_between first last k || b) there ∙ or-true (is_between first last k))

-- the numbers of a range taken out
pub no_more_cleared : (xs ys : List ℕ) (first last : ℕ) → Ascends xs → Ascends ys → LosesBetween xs ys first last → length ys ≤ length xs
no_more_cleared xs ys first last h g loses =
    few_within ys xs g h (λ k there. (and_parts (has xs k) (not (is_between first last k)) (sym (loses k) ∙ there)).0)

run_ascends : (r : Run) → r.first ≤ r.last → r.last < 65536 → Ascends (numbers_of_run r)
run_ascends r ordered most = subst Ascends (append-nil (numbers_of_run r)) (ascends_runs 0 (r ∷ []) (omega arith, ordered, most, tt))

-- how many numbers a test of one number counts
abbrev one_if : Bool → ℕ
one_if b = cond {A = ℕ} b 1 0

those_size : (p : ℕ → Bool) (a n : ℕ) → length (those p a (suc n)) ≡ one_if (p a) + length (those p (a + 1) n)
those_size p a n = elim (cases_Bool (p a)) [
  | inl here ↦ (let e = ap length (those_here p a n here) in let f = ap one_if here in omega arith)
  | inr out ↦ (let e = ap length (those_not_here p a n out) in let f = ap one_if out in omega arith)
]

-- where each number passes as many of two tests as of two others, as many numbers pass those as pass these
same_sums : (p q r s : ℕ → Bool) (a n : ℕ) → ((k : ℕ) → one_if (p k) + one_if (q k) ≡ one_if (r k) + one_if (s k)) → length (those p a n) + length (those q a n) ≡ length (those r a n) + length (those s a n)
same_sums p q r s a zero same =
    let e = ap length (those_none p a) in
    let f = ap length (those_none q a) in
    let g = ap length (those_none r a) in
    let h = ap length (those_none s a) in
    omega arith
same_sums p q r s a (suc n) same =
    let rest = same_sums p q r s (a + 1) n same in
    let here = same a in
    let e = those_size p a n in
    let f = those_size q a n in
    let g = those_size r a n in
    let h = those_size s a n in
    omega arith

-- how many numbers of a run are in a list
run_counted : (xs : List ℕ) (r : Run) → r.first ≤ r.last → r.last < 65536 → count_where (has xs) (numbers_of_run r) ≡ length (those (λ k. has (numbers_of_run r) k && has xs k) 0 65536)
run_counted xs r ordered most =
    ap (count_where (has xs)) (those_of 0 65536 (numbers_of_run r) 65536 (omega arith) (run_ascends r ordered most)) ∙ count_those (has (numbers_of_run r)) (has xs) 0 65536

-- which are no more than the list has
pub few_in_run : (xs : List ℕ) (r : Run) → Ascends xs → r.first ≤ r.last → r.last < 65536 → count_where (has xs) (numbers_of_run r) ≤ length xs
few_in_run xs r h ordered most =
    let swapped = counted_swapped (count_where (has xs) (numbers_of_run r)) xs (numbers_of_run r) h (run_ascends r ordered most) refl in
    let few = count_most (has (numbers_of_run r)) xs in
    omega arith

-- a list gains the numbers of a range that it had not
pub count_filled : (xs ys : List ℕ) (r : Run) → Ascends xs → Ascends ys → r.first ≤ r.last → r.last < 65536 → GainsBetween xs ys r.first r.last
    → length ys + count_where (has xs) (numbers_of_run r) ≡ length xs + (r.last + 1 - r.first)
count_filled xs ys r h g ordered most gains =
    let run = numbers_of_run r in
    let x = ap length (those_of 0 65536 xs 65536 (omega arith) h) in
    let y = ap length (those_of 0 65536 ys 65536 (omega arith) g) in
    let z = ap length (those_of 0 65536 run 65536 (omega arith) (run_ascends r ordered most)) in
    let size = run_size r in
    let both = run_counted xs r ordered most in
    let all = same_sums (has ys) (λ k. has run k && has xs k) (has xs) (has run) 0 65536 (λ k.
    ap (λ b. one_if b + one_if (has run k && has xs k)) (gains k ∙ ap (λ b. b || has xs k) (sym (has_run r k ordered))) ∙ either_and_both (has run k) (has xs k)) in
    omega arith
  where
    either_and_both : (a b : Bool) → one_if (a || b) + one_if (a && b) ≡ one_if b + one_if a
    either_and_both true true = refl
    either_and_both true false = refl
    either_and_both false true = refl
    either_and_both false false = refl

-- and loses those that it had
pub count_cleared : (xs ys : List ℕ) (r : Run) → Ascends xs → Ascends ys → r.first ≤ r.last → r.last < 65536 → LosesBetween xs ys r.first r.last
    → length ys + count_where (has xs) (numbers_of_run r) ≡ length xs
count_cleared xs ys r h g ordered most loses =
    let run = numbers_of_run r in
    let x = ap length (those_of 0 65536 xs 65536 (omega arith) h) in
    let y = ap length (those_of 0 65536 ys 65536 (omega arith) g) in
    let none = ap length (those_empty (λ k. false) 0 65536 (λ k low high. refl)) in
    let both = run_counted xs r ordered most in
    let all = same_sums (has ys) (λ k. has run k && has xs k) (has xs) (λ k. false) 0 65536 (λ k.
    ap (λ b. one_if b + one_if (has run k && has xs k)) (loses k ∙ ap (λ b. has xs k && not b) (sym (has_run r k ordered))) ∙ outside_and_both (has run k) (has xs k)) in
    omega arith
  where
    outside_and_both : (a b : Bool) → one_if (b && not a) + one_if (a && b) ≡ one_if b + one_if false
    outside_and_both true true = refl
    outside_and_both true false = refl
    outside_and_both false true = refl
    outside_and_both false false = refl

made_in_either : (op : Operation) (x y : Bool) → made_by op x y ≡ true → (x || y) ≡ true
made_in_either op true y made = refl
made_in_either op false true made = refl
made_in_either op false false made = sym (made_none op) ∙ made

-- an operation makes no more numbers than both lists have
pub few_combined : (op : Operation) (xs ys zs : List ℕ) → Ascends xs → Ascends ys → Ascends zs → Combines (made_by op) xs ys zs → length zs ≤ length xs + length ys
few_combined op xs ys zs h g f made = few_in_either xs ys zs h g f (λ k there. made_in_either op (has xs k) (has ys k) (sym (made k) ∙ there))

-- nor more than the left one where it keeps no number of the right one alone
pub few_of_left : (op : Operation) (xs ys zs : List ℕ) → Ascends xs → Ascends zs → made_by op false true ≡ false → Combines (made_by op) xs ys zs → length zs ≤ length xs
few_of_left op xs ys zs h f drops made = few_within zs xs f h (λ k there. only_left (has xs k) (has ys k) (sym (made k) ∙ there))
  where
    only_left : (x y : Bool) → made_by op x y ≡ true → x ≡ true
    only_left true y kept = refl
    only_left false true kept = sym drops ∙ kept
    only_left false false kept = sym (made_none op) ∙ kept

-- ---- a range of one number

one_between : (n k : ℕ) → is_between n n k ≡ nat_eq n k
one_between n k = elim (cases_eq n k) [
  | inl same ↦ in_between n n k (omega arith) (omega arith) ∙ sym (eq-eqb n k same)
  | inr other ↦ elim (cases_lt k n) [
    | inl low ↦ before_range n n k low ∙ sym (ne_eqb n k other)
    | inr high ↦ after_range n n k (omega arith) ∙ sym (ne_eqb n k other)
  ]
]

-- the count of runs after a number was put in that was not there
pub runs_gained : (rs ms : List Run) (n : ℕ) → AreRuns rs → AreRuns ms → n < 65536 → has (run_numbers rs) n ≡ false → GainsBetween (run_numbers rs) (run_numbers ms) n n → length (run_numbers ms) ≡ length (run_numbers rs) + 1
runs_gained rs ms n h g low out gains =
    length_gained (run_numbers rs) (run_numbers ms) n (ascends_all rs h) (ascends_all ms g) low out (λ k. gains k ∙ ap (λ b. b || has (run_numbers rs) k) (one_between n k))

-- and after one was taken out that was
pub runs_lost : (rs ms : List Run) (n : ℕ) → AreRuns rs → AreRuns ms → has (run_numbers rs) n ≡ true → LosesBetween (run_numbers rs) (run_numbers ms) n n → length (run_numbers ms) + 1 ≡ length (run_numbers rs)
runs_lost rs ms n h g there loses =
    length_lost (run_numbers rs) (run_numbers ms) n (ascends_all rs h) (ascends_all ms g) there (λ k. loses k ∙ ap (λ b. has (run_numbers rs) k && not b) (one_between n k))
