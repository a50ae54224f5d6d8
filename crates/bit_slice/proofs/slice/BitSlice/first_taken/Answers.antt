use Rattle.std.proofs.Common.{◌≡◌, ℕ, ◌+◌, ◌-◌, false, true, replicate, slice_index_or, refl, sym, subst, arith}
use Rattle.std.proofs.lemmas.List.{length-replicate, replicate_more}
use Rattle.bit_slice.specs.BitSlice.{list_of}
use Rattle.bit_slice.specs.Closures.{ResultsFrom}
use Rattle.bit_slice.specs.Split.{tested}
use Rattle.bit_slice.proofs.Called.{results_more}
use Rattle.bit_slice.proofs.slice.BitSlice.first_taken.Goals as goal

pub loop-at-init : goal.loop-at-init
loop-at-init g c =
    let zero : 0 ≡ c.args.from - c.args.from = omega arith in
    record {
      begins = omega arith;
      ends = c.requires.inside;
      none = subst (λ n. ResultsFrom (tested (goal.F-step g) (list_of c.args.self)) c.args.test.now c.args.from (replicate n false) c.args.test.now) zero refl;
    }

pub test-requires : goal.test-requires
test-requires g c =
    let at = c.loop-at in
    let n : ℕ = at.at - c.args.from in
    let size = length-replicate n false in
    subst (λ b. goal.F-pre g at.test at.at b) (sym c.bit.ensures.value)
    (c.requires.testable.at (replicate n false) at.test at.at (omega (arith, size, at.invariant.begins)) c.loop-at-test.true at.invariant.none)

pub loop-at-preserved : goal.loop-at-preserved
loop-at-preserved g c =
    let at = c.loop-at in
    let xs = list_of c.args.self in
    let n : ℕ = at.at - c.args.from in
    let size = length-replicate n false in
    let step : n + 1 ≡ at.at + 1 - c.args.from = omega (arith, at.invariant.begins) in
    let called = subst (λ b. goal.F-step g at.test at.at (slice_index_or xs at.at false) b c.test.new.self) c.if-test.false (subst (λ b. goal.F-step g at.test at.at b c.test.result c.test.new.self) c.bit.ensures.value c.test.ensures) in
    let more = results_more (tested (goal.F-step g) xs) c.args.test.now c.args.from (replicate n false) at.test at.at false c.test.new.self at.invariant.none called (omega (arith, size, at.invariant.begins)) in
    record {
      begins = omega (arith, at.invariant.begins);
      ends = omega (arith, c.loop-at-test.true);
      none = subst (λ k. ResultsFrom (tested (goal.F-step g) xs) c.args.test.now c.args.from (replicate k false) c.test.new.self) step
          (subst (λ l. ResultsFrom (tested (goal.F-step g) xs) c.args.test.now c.args.from l c.test.new.self) (replicate_more n false) more);
    }

pub returns-then-test-clause-taken : goal.returns-then-test-clause-taken
returns-then-test-clause-taken g c inside =
    let at = c.loop-at in
    let xs = list_of c.args.self in
    let n : ℕ = at.at - c.args.from in
    let size = length-replicate n false in
    let called = subst (λ b. goal.F-step g at.test at.at (slice_index_or xs at.at false) b c.test.new.self) c.if-test.true (subst (λ b. goal.F-step g at.test at.at b c.test.result c.test.new.self) c.bit.ensures.value c.test.ensures) in
    results_more (tested (goal.F-step g) xs) c.args.test.now c.args.from (replicate n false) at.test at.at true c.test.new.self at.invariant.none called (omega (arith, size, at.invariant.begins))
