use Rattle.std.proofs.Common.{◌≡◌, ◌≢◌, ℕ, ◌+◌, ◌-◌, ◌<◌, ◌≤◌, take, drop, length, ◌∙◌, ap, subst, inl, inr, arith}
use Rattle.std.proofs.lemmas.Bool.{cases_lt}
use Rattle.bit_slice.specs.BitSlice.{list_of}
use Rattle.bit_slice.specs.Pieces.{part}
use Rattle.bit_slice.proofs.Counting.{not_told}
use Rattle.bit_slice.proofs.Parts.{view_length}
use Rattle.bit_slice.proofs.Patterns.{none_to, none_up_to}
use Rattle.bit_slice.proofs.slice.BitSlice.find_part.Given as given
use Rattle.bit_slice.proofs.slice.BitSlice.find_part.Goals as goal
use Rattle.bit_slice.proofs.slice.BitSlice.find_part.Goals.{After-min-skip}

-- it begins nowhere before the index that the step goes to
passed : (g : given.Over) (c : After-min-skip g) → (j : ℕ) → j < c.skip_words-at.result + c.min-skip.result → j + c.args.other.len ≤ c.args.self.len → part c.args.other.len (list_of c.args.self) j ≢ list_of c.args.other
passed g c =
    let xs = list_of c.args.self in
    let ys = list_of c.args.other in
    let len = c.args.self.len in
    let n = c.args.other.len in
    let m = c.min-m.result in
    let few : m ≤ n = omega (arith, c.min-m.ensures) in
    let room : m ≤ length ys = omega (arith, c.min-m.ensures, view_length c.args.other) in
    let pattern = c.chunk_at-pattern in
    none_up_to xs ys len n m c.skip_words-at.result c.min-skip.result pattern.result few room pattern.ensures.number (none_to xs ys len n m c.loop-at.at c.skip_words-at.result pattern.result few room pattern.ensures.number c.loop-at.invariant.before c.skip_words-at.ensures.none) (λ j below. c.places_without.ensures.none j (omega (arith, below, c.min-skip.ensures)))

pub returns-then-at-n-clause-none : goal.returns-then-at-n-clause-none
returns-then-at-n-clause-none g c j room = passed g c.before.before j (omega (arith, room)) room

pub returns-then-equal_views-clause-before : goal.returns-then-equal_views-clause-before
returns-then-equal_views-clause-before g c j below = passed g c.before.before.before.before.before j below (omega (arith, below))

pub loop-at-preserved-then-skip-step : goal.loop-at-preserved-then-skip-step
loop-at-preserved-then-skip-step g c =
    let xs = list_of c.args.self in
    let n = c.args.other.len in
    let at : ℕ = c.skip_words-at.result + c.min-skip.result in
    let size : at + n - at ≡ n = omega arith in
    record {
      ends = omega arith;
      before = λ j below room. elim (cases_lt j at) [
        | inl l ↦ passed g c.before.before.before.before.before j l room
        | inr l ↦
            let here : at ≡ j = omega arith in
            subst (λ i. part n xs i ≢ list_of c.args.other) here (λ e. not_told (c.if-equal_views.ensures.1 (c.get_range.ensures.list ∙ ap (λ k. take k (drop at xs)) size ∙ e)))
      ];
    }

pub loop-at-preserved : goal.loop-at-preserved
loop-at-preserved g c =
    let upto = c.skip_words-at.ensures.upto in
    record { ends = omega (arith, upto, c.min-skip.ensures); before = passed g c.before }
