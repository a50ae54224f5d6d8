use Rattle.std.proofs.Common.{◌≡◌, ◌≢◌, ℕ, ◌+◌, ◌-◌, ◌%◌, ◌<◌, ◌≤◌, Bool, List, replicate, inl, inr, arith}
use Rattle.std.proofs.lemmas.Bool.{cases_lt}
use Rattle.bit_slice.specs.BitSlice.{list_of}
use Rattle.bit_slice.specs.Pieces.{part}
use Rattle.bit_slice.proofs.Multiples.{gap_least, gap_reaches}
use Rattle.bit_slice.proofs.slice.BitSlice.find_aligned_run.Goals as goal

-- no run begins at a multiple before one where a run begins
sooner : (xs : List Bool) (n align from at i : ℕ) (bit : Bool) → ((j : ℕ) → from ≤ j → j < at → j % align ≡ 0 → part n xs j ≢ replicate n bit) → ((j : ℕ) → at ≤ j → j < i → part n xs j ≢ replicate n bit) → (j : ℕ) → from ≤ j → j < i → j % align ≡ 0 → part n xs j ≢ replicate n bit
sooner xs n align from at i bit before between j a b multiple = elim (cases_lt j at) [
  | inl l ↦ before j a l multiple
  | inr l ↦ between j l b
]

-- nor at one before the next multiple
passed : (xs : List Bool) (n align from i : ℕ) (bit : Bool) → 0 < align → ((j : ℕ) → from ≤ j → j < i → j % align ≡ 0 → part n xs j ≢ replicate n bit) → (j : ℕ) → from ≤ j → j < i + (align - i % align) % align → j % align ≡ 0 → part n xs j ≢ replicate n bit
passed xs n align from i bit some before j a b multiple = elim (cases_lt j i) [
  | inl l ↦ before j a l multiple
  | inr l ↦ (let least = gap_least align i j some l multiple in absurd (omega arith))
]

pub loop-i-init : goal.loop-i-init
loop-i-init g c = record { begins = omega arith; before = λ j a b. absurd (omega arith) }

pub returns-then-gap-eq0-clause-begins : goal.returns-then-gap-eq0-clause-begins
returns-then-gap-eq0-clause-begins g c = omega (arith, c.loop-i.invariant.begins, c.in-Some.ensures.begins)

pub returns-then-gap-eq0-clause-aligned : goal.returns-then-gap-eq0-clause-aligned
returns-then-gap-eq0-clause-aligned g c =
    let reaches = gap_reaches c.args.align c.in-Some.i c.requires in
    let same : c.in-Some.i + (c.args.align - c.in-Some.i % c.args.align) % c.args.align ≡ c.in-Some.i = omega (arith, c.if-gap-eq0.true) in
    rw same at reaches

pub returns-then-gap-eq0-clause-before : goal.returns-then-gap-eq0-clause-before
returns-then-gap-eq0-clause-before g c = sooner (list_of c.args.self) c.args.n c.args.align c.args.from c.loop-i.at c.in-Some.i c.args.bit c.loop-i.invariant.before c.in-Some.ensures.before

pub returns-then-gap-self-clause-none : goal.returns-then-gap-self-clause-none
returns-then-gap-self-clause-none g c j a b =
    passed (list_of c.args.self) c.args.n c.args.align c.args.from c.in-Some.i c.args.bit c.requires
    (sooner (list_of c.args.self) c.args.n c.args.align c.args.from c.loop-i.at c.in-Some.i c.args.bit c.loop-i.invariant.before c.in-Some.ensures.before)
    j a (omega (arith, b, c.if-gap-self.true))

pub loop-i-smaller : goal.loop-i-smaller
loop-i-smaller g c = omega (arith, c.in-Some.ensures.begins, c.in-Some.ensures.inside, c.if-gap-eq0.false, c.if-gap-self.false)

pub loop-i-preserved : goal.loop-i-preserved
loop-i-preserved g c = record {
  begins = omega (arith, c.loop-i.invariant.begins, c.in-Some.ensures.begins);
  before = passed (list_of c.args.self) c.args.n c.args.align c.args.from c.in-Some.i c.args.bit c.requires
      (sooner (list_of c.args.self) c.args.n c.args.align c.args.from c.loop-i.at c.in-Some.i c.args.bit c.loop-i.invariant.before c.in-Some.ensures.before);
}

pub returns-clause-none : goal.returns-clause-none
returns-clause-none g c j a b multiple = elim (cases_lt j c.loop-i.at) [
  | inl l ↦ c.loop-i.invariant.before j a l multiple
  | inr l ↦ c.in_default.ensures.none j l b
]
