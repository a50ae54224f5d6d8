use Rattle.std.proofs.Common.{◌≡◌, ◌≢◌, ℕ, ◌+◌, ◌<◌, ◌≤◌, Bool, List, not, replicate, get_or, false, inl, inr, arith}
use Rattle.std.proofs.lemmas.Bool.{cases_lt}
use Rattle.bit_slice.specs.BitSlice.{list_of}
use Rattle.bit_slice.specs.Pieces.{part}
use Rattle.bit_slice.specs.Places.{IsAbsent}
use Rattle.bit_slice.proofs.BitRuns.{all_inside, none_inside, other_inside}
use Rattle.bit_slice.proofs.Parts.{view_length}
use Rattle.bit_slice.proofs.slice.BitSlice.find_run.Goals as goal

-- none begins before the next index with the bit
sooner : (xs : List Bool) (n from at hi : ℕ) (bit : Bool) → 0 < n → ((j : ℕ) → from ≤ j → j < at → part n xs j ≢ replicate n bit) → IsAbsent bit xs at hi → (j : ℕ) → from ≤ j → j < hi → part n xs j ≢ replicate n bit
sooner xs n from at hi bit some before none j a b = elim (cases_lt j at) [
  | inl l ↦ before j a l
  | inr l ↦ none_inside xs n at hi j bit some none l b
]

-- none begins up to an item that is another
passed : (xs : List Bool) (n from start other : ℕ) (bit : Bool) → start ≤ other → other < start + n → get_or xs other false ≡ not bit → ((j : ℕ) → from ≤ j → j < start → part n xs j ≢ replicate n bit) → (j : ℕ) → from ≤ j → j < other + 1 → part n xs j ≢ replicate n bit
passed xs n from start other bit a b here before j c d = elim (cases_lt j start) [
  | inl l ↦ before j c l
  | inr l ↦ other_inside xs n j other bit (omega arith) (omega arith) here
]

pub returns-in-None-clause-none : goal.returns-in-None-clause-none
returns-in-None-clause-none g c j a b =
    let i = c.scan.invariant in
    let some = i.some c.scan-test.true in
    sooner (list_of c.args.self) c.args.n c.args.from c.scan.at c.args.self.len c.args.bit some i.before c.in-None.ensures j a (omega (arith, some, b))

pub returns-then-n-self-clause-none : goal.returns-then-n-self-clause-none
returns-then-n-self-clause-none g c j a b =
    let i = c.scan.invariant in
    let next = c.in-Some.ensures in
    let w = next.within in
    let some = i.some c.scan-test.true in
    sooner (list_of c.args.self) c.args.n c.args.from c.scan.at c.in-Some.start c.args.bit some i.before next.before j a (omega (arith, b, w))

pub returns-in-None-find_next-clause-found : goal.returns-in-None-find_next-clause-found
returns-in-None-find_next-clause-found g c =
    let w = c.in-Some.ensures.within in
    all_inside (list_of c.args.self) c.args.n c.in-Some.start c.args.bit (omega (arith, view_length c.args.self, w)) c.in-None-find_next.ensures

pub returns-in-None-find_next-clause-before : goal.returns-in-None-find_next-clause-before
returns-in-None-find_next-clause-before g c =
    let i = c.scan.invariant in
    sooner (list_of c.args.self) c.args.n c.args.from c.scan.at c.in-Some.start c.args.bit (i.some c.scan-test.true) i.before c.in-Some.ensures.before

pub scan-preserved : goal.scan-preserved
scan-preserved g c =
    let i = c.scan.invariant in
    let next = c.in-Some.ensures in
    let other = c.in-Some-find_next.ensures in
    let some = i.some c.scan-test.true in
    let from = i.begins c.scan-test.true in
    let a = next.begins in
    let w = next.within in
    let b = other.begins in
    let v = other.within in
    record {
      within = omega (arith, v, w);
      begins = λ more. omega (arith, from, a, b);
      some = λ more. some;
      empty = i.empty;
      before = passed (list_of c.args.self) c.args.n c.args.from c.in-Some.start c.in-Some-find_next.other c.args.bit b v other.here
          (sooner (list_of c.args.self) c.args.n c.args.from c.scan.at c.in-Some.start c.args.bit some i.before next.before);
    }
