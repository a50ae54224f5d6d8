-- Runs found in bits, one after another.
use Rattle.std.proofs.Common.{◌≡◌, ℕ, zero, suc, ◌+◌, ◌-◌, ◌<◌, ◌≤◌, Bool, true, false, List, [], ◌∷◌, ◌++◌, append_assoc, append-nil, get_or, length, sym, ◌∙◌, ap, subst, inl, inr, arith}
use Rattle.std.specs.Prelude.{Some, slice_get}
use Rattle.std.specs.List.{range_with_len}
use Rattle.std.proofs.lemmas.Bool.{cases_eq}
use Rattle.std.proofs.lemmas.Option.{get_or_from_slice_get}
use Rattle.bit_slice.specs.Places.{ones_of}
use Rattle.bit_blocks.specs.Bits.{AreBits}
use Rattle.bit_blocks.specs.Numbers.{those}
use Rattle.bit_blocks.specs.Runs.{AreRuns, AreRunsFrom, numbers_of_run, run_numbers}
use Rattle.bit_blocks.specs.declared.ranged.Run.{Run}
use Rattle.bit_blocks.proofs.Bits.{ones_those}
use Rattle.bit_blocks.proofs.Those.{those_empty, those_here, those_joined, those_none}

-- runs that all end before b
abbrev pub EndBefore : ℕ → List Run → Type 0
EndBefore b [] = Unit {0}
EndBefore b (r ∷ rs) = (r.last < b) × EndBefore b rs

end_later : (b c : ℕ) (rs : List Run) → b ≤ c → EndBefore b rs → EndBefore c rs
end_later b c [] up h = tt
end_later b c (r ∷ rs) up h = let low = h.0 in (omega arith, end_later b c rs up h.1)

end_pushed : (b : ℕ) (rs : List Run) (r : Run) → EndBefore b rs → r.last < b → EndBefore b (rs ++ r ∷ [])
end_pushed b [] r h low = (low, tt)
end_pushed b (q ∷ rs) r h low = (h.0, end_pushed b rs r h.1 low)

-- one run more, after a number that is left out
runs_pushed : (a b : ℕ) (rs : List Run) (r : Run) → AreRunsFrom a rs → EndBefore b rs → a ≤ r.first → (0 < length rs → b + 1 ≤ r.first) → r.first ≤ r.last → r.last < 65536 → AreRunsFrom a (rs ++ r ∷ [])
runs_pushed a b [] r h ends low after ordered most = (low, ordered, most, tt)
runs_pushed a b (q ∷ rs) r h ends low after ordered most =
    let end = ends.0 in
    let apart = after (omega arith) in
    (h.0, h.1, h.2, runs_pushed (q.last + 2) b rs r h.3 ends.1 (omega arith) (λ some. apart) ordered most)

numbers_pushed : (rs : List Run) (r : Run) → run_numbers (rs ++ r ∷ []) ≡ run_numbers rs ++ numbers_of_run r
numbers_pushed [] r = append-nil (numbers_of_run r)
numbers_pushed (q ∷ rs) r = ap (λ l. numbers_of_run q ++ l) (numbers_pushed rs r) ∙ sym (append_assoc (numbers_of_run q) (run_numbers rs) (numbers_of_run r))

-- a range all of which passes
those_all : (p : ℕ → Bool) (a n : ℕ) → ((k : ℕ) → a ≤ k → k < a + n → p k ≡ true) → those p a n ≡ range_with_len a n
those_all p a zero pass = those_none p a
those_all p a (suc n) pass = those_here p a n (pass a (omega arith) (omega arith)) ∙ ap (λ l. a ∷ l) (those_all p (a + 1) n (λ k low high. pass k (omega arith) (omega arith)))

-- the runs of the true items before index `from`, where the item there is not true
pub record ScannedTo (bits : List Bool) (rs : List Run) (from : ℕ) : Type 0 where
  pub runs : AreRuns rs
  pub most : from ≤ 65536
  pub before : EndBefore from rs
  pub begun : 0 < length rs → 0 < from
  pub clear : 0 < from → from < 65536 → slice_get bits from ≡ Some false
  pub numbers : run_numbers rs ≡ those (λ k. get_or bits k false) 0 from

pub none_scanned : (bits : List Bool) → ScannedTo bits [] 0
none_scanned bits = record {
  runs = tt;
  most = omega arith;
  before = tt;
  begun = λ some. absurd (omega arith);
  clear = λ some. absurd (omega arith);
  numbers = sym (those_none (λ k. get_or bits k false) 0);
}

true_at : (bits : List Bool) (k : ℕ) → slice_get bits k ≡ Some true → slice_get bits k ≡ Some false → ⊥
true_at bits k is not = let e : Some true ≡ Some false = sym is ∙ not in cc

pub run_scanned : (bits : List Bool) (rs new : List Run) (from first end : ℕ) → ScannedTo bits rs from → from ≤ first → first < end → end ≤ 65536 → slice_get bits first ≡ Some true
    → ((j : ℕ) → from ≤ j → j < first → slice_get bits j ≡ Some false) → ((j : ℕ) → first ≤ j → j < end → slice_get bits j ≡ Some true) → (end < 65536 → slice_get bits end ≡ Some false)
    → new ≡ rs ++ record { first = first; last = end - 1 } ∷ [] → ScannedTo bits new end
run_scanned bits rs new from first end s low more within here zeros ones clear is =
    let p = λ (k : ℕ). get_or bits k false in
    let r : Run = record { first = first; last = end - 1 } in
    let apart : 0 < length rs → from + 1 ≤ first = λ some. (let begun = s.begun some in elim (cases_eq from first) [
      | inl same ↦ absurd (true_at bits first here (ap (slice_get bits) (sym same) ∙ s.clear begun (omega arith)))
      | inr other ↦ omega arith
    ]) in
    let gap : those p from (first - from) ≡ [] = those_empty p from (first - from) (λ k a b. get_or_from_slice_get bits k false false (zeros k a (omega arith))) in
    let run : those p first (end - first) ≡ range_with_len first (end - first) = those_all p first (end - first) (λ k a b. get_or_from_slice_get bits k true false (ones k a (omega arith))) in
    let whole : from + ((first - from) + (end - first)) ≡ end = omega arith in
    let z : 0 + from ≡ from = omega arith in
    let at : from + (first - from) ≡ first = omega arith in
    let size : end - 1 + 1 - first ≡ end - first = omega arith in
    let front = those p 0 from in
    record {
      runs = subst AreRuns (sym is) (runs_pushed 0 from rs r s.runs s.before (omega arith) apart (omega arith) (omega arith));
      most = within;
      before = subst (EndBefore end) (sym is) (end_pushed end rs r (end_later from end rs (omega arith) s.before) (omega arith));
      begun = λ some. omega arith;
      clear = λ some less. clear less;
      numbers = ap run_numbers is ∙ numbers_pushed rs r ∙ ap (λ l. l ++ numbers_of_run r) s.numbers ∙ ap (λ n. front ++ range_with_len first n) size
          ∙ sym (ap (those p 0) (sym whole) ∙ those_joined p 0 from ((first - from) + (end - first)) ∙ ap (λ a. front ++ those p a ((first - from) + (end - first))) z
          ∙ ap (λ l. front ++ l) (those_joined p from (first - from) (end - first) ∙ ap (λ l. l ++ those p (from + (first - from)) (end - first)) gap ∙ ap (λ a. those p a (end - first)) at ∙ run));
    }

pub all_scanned : (bits : List Bool) (rs : List Run) (from : ℕ) → AreBits bits → ScannedTo bits rs from → ((j : ℕ) → from ≤ j → j < length bits → slice_get bits j ≡ Some false) → run_numbers rs ≡ ones_of bits
all_scanned bits rs from size s zeros =
    let p = λ (k : ℕ). get_or bits k false in
    let most = s.most in
    let whole : from + (65536 - from) ≡ 65536 = omega arith in
    let none : those p (0 + from) (65536 - from) ≡ [] = those_empty p (0 + from) (65536 - from) (λ k a b. get_or_from_slice_get bits k false false (zeros k (omega arith) (omega arith))) in
    s.numbers ∙ sym (ones_those bits 65536 size ∙ ap (those p 0) (sym whole) ∙ those_joined p 0 from (65536 - from) ∙ ap (λ l. those p 0 from ++ l) none ∙ append-nil (those p 0 from))
