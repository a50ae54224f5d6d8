-- What an iterator over the numbers of runs has left after a step.
use Rattle.std.proofs.Common.{◌≡◌, ℕ, zero, suc, ◌+◌, ◌-◌, ◌<◌, ◌≤◌, List, [], ◌∷◌, ◌++◌, append_assoc, append-nil, get_or, length, take, drop, refl, sym, ◌∙◌, ap, arith}
use Rattle.std.specs.Prelude.{All}
use Rattle.std.specs.List.{range_with_len}
use Rattle.bit_blocks.specs.Runs.{numbers_of_run, run_numbers}
use Rattle.bit_blocks.specs.declared.ranged.Run.{Run}
use Rattle.bit_blocks.proofs.Grouped.{range_more}

pub no_range : (a b : ℕ) → b ≤ a → range_with_len a (b - a) ≡ []
no_range a b h = let z : b - a ≡ 0 = omega arith in ap (range_with_len a) z

first_of_range : (a n m : ℕ) → n ≡ suc m → range_with_len a n ≡ a ∷ range_with_len (a + 1) m
first_of_range a n m at = ap (range_with_len a) at

last_of_range : (a n m k : ℕ) → n ≡ suc m → k ≡ a + m → range_with_len a n ≡ range_with_len a m ++ k ∷ []
last_of_range a n m k at end = ap (range_with_len a) at ∙ range_more a m k end

taken_all : (l : List Run) (n : ℕ) → length l ≤ n → take n l ≡ l
taken_all [] zero past = refl
taken_all [] (suc n) past = refl
taken_all (r ∷ l) zero past = absurd (omega arith)
taken_all (r ∷ l) (suc n) past = ap (λ m. r ∷ m) (taken_all l n (omega arith))

-- the runs after the first one
pub rest_of_runs : (rs : List Run) → take (length rs - 1) (drop 1 rs) ≡ drop 1 rs
rest_of_runs [] = refl
rest_of_runs (r ∷ rs) = taken_all rs (suc (length rs) - 1) (omega arith)

pub next_run : (from upto : ℕ) (rs : List Run) (back : List ℕ) (d : Run) → upto ≤ from → 0 < length rs → (get_or rs 0 d).first ≤ (get_or rs 0 d).last
    → range_with_len from (upto - from) ++ (run_numbers rs ++ back)
    ≡ (get_or rs 0 d).first ∷ (range_with_len ((get_or rs 0 d).first + 1) ((get_or rs 0 d).last + 1 - ((get_or rs 0 d).first + 1)) ++ (run_numbers (take (length rs - 1) (drop 1 rs)) ++ back))
next_run from upto [] back d none some ordered = absurd (omega arith)
next_run from upto (r ∷ rs) back d none some ordered =
    ap (λ l. l ++ (run_numbers (r ∷ rs) ++ back)) (no_range from upto none)
    ∙ append_assoc (numbers_of_run r) (run_numbers rs) back
    ∙ ap (λ l. l ++ (run_numbers rs ++ back)) (first_of_range r.first (r.last + 1 - r.first) (r.last + 1 - (r.first + 1)) (omega arith))
    ∙ sym (ap (λ l. r.first ∷ (range_with_len (r.first + 1) (r.last + 1 - (r.first + 1)) ++ (run_numbers l ++ back))) (rest_of_runs (r ∷ rs)))

pub last_run : (rs : List Run) (n : ℕ) (d : Run) → length rs ≡ suc n → run_numbers rs ≡ run_numbers (take n rs) ++ numbers_of_run (get_or rs n d)
last_run [] n d size = absurd (omega arith)
last_run (r ∷ []) zero d size = append-nil (numbers_of_run r)
last_run (r ∷ []) (suc n) d size = absurd (omega arith)
last_run (r ∷ (q ∷ rs)) zero d size = absurd (omega arith)
last_run (r ∷ (q ∷ rs)) (suc n) d size = ap (λ l. numbers_of_run r ++ l) (last_run (q ∷ rs) n d (omega arith)) ∙ sym (append_assoc (numbers_of_run r) (run_numbers (take n (q ∷ rs))) (numbers_of_run (get_or (q ∷ rs) n d)))

pub previous_run : (front : List ℕ) (rs : List Run) (from upto n : ℕ) (d : Run) → upto ≤ from → length rs ≡ suc n → (get_or rs n d).first ≤ (get_or rs n d).last
    → front ++ (run_numbers rs ++ range_with_len from (upto - from))
    ≡ (front ++ (run_numbers (take n rs) ++ range_with_len (get_or rs n d).first ((get_or rs n d).last - (get_or rs n d).first))) ++ (get_or rs n d).last ∷ []
previous_run front rs from upto n d none size ordered =
    let r = get_or rs n d in
    let less = range_with_len r.first (r.last - r.first) in
    ap (λ l. front ++ (run_numbers rs ++ l)) (no_range from upto none) ∙ ap (λ l. front ++ l) (append-nil (run_numbers rs))
    ∙ ap (λ l. front ++ l) (last_run rs n d size)
    ∙ ap (λ l. front ++ (run_numbers (take n rs) ++ l)) (last_of_range r.first (r.last + 1 - r.first) (r.last - r.first) r.last (omega arith) (omega arith))
    ∙ ap (λ l. front ++ l) (sym (append_assoc (run_numbers (take n rs)) less (r.last ∷ [])))
    ∙ sym (append_assoc front (run_numbers (take n rs) ++ less) (r.last ∷ []))

pub back_last : (front middle : List ℕ) (from upto : ℕ) → from < upto
    → front ++ (middle ++ range_with_len from (upto - from)) ≡ (front ++ (middle ++ range_with_len from (upto - 1 - from))) ++ (upto - 1) ∷ []
back_last front middle from upto some =
    let less = range_with_len from (upto - 1 - from) in
    ap (λ l. front ++ (middle ++ l)) (last_of_range from (upto - from) (upto - 1 - from) (upto - 1) (omega arith) (omega arith))
    ∙ ap (λ l. front ++ l) (sym (append_assoc middle less ((upto - 1) ∷ []))) ∙ sym (append_assoc front (middle ++ less) ((upto - 1) ∷ []))

pub front_last : (rs : List Run) (from upto back end : ℕ) → from < upto → length rs ≡ 0 → end ≤ back
    → range_with_len from (upto - from) ++ (run_numbers rs ++ range_with_len back (end - back)) ≡ (range_with_len from (upto - 1 - from) ++ (run_numbers rs ++ range_with_len back (end - back))) ++ (upto - 1) ∷ []
front_last (r ∷ rs) from upto back end some none past = absurd (omega arith)
front_last [] from upto back end some none past =
    let less = range_with_len from (upto - 1 - from) in
    ap (λ l. range_with_len from (upto - from) ++ l) (no_range back end past) ∙ append-nil (range_with_len from (upto - from))
    ∙ last_of_range from (upto - from) (upto - 1 - from) (upto - 1) (omega arith) (omega arith)
    ∙ ap (λ l. l ++ (upto - 1) ∷ []) (sym (append-nil less)) ∙ ap (λ l. (less ++ l) ++ (upto - 1) ∷ []) (sym (no_range back end past))

-- runs without the first one are in order still
pub rest_ordered : (rs : List Run) → All (λ r. r.first ≤ r.last) rs → All (λ r. r.first ≤ r.last) (take (length rs - 1) (drop 1 rs))
rest_ordered [] h k d inside = absurd (omega arith)
rest_ordered (r ∷ rs) h k d inside =
    let same = rest_of_runs (r ∷ rs) in
    let size = ap length same in
    rw same (h (suc k) d (omega arith))
