use Rattle.std.proofs.Common.{◌≢◌, ℕ, ◌+◌, ◌-◌, ◌<◌, ◌≤◌, sym, ◌∙◌, ap, arith}
use Rattle.bit_slice.specs.BitSlice.{list_of}
use Rattle.bit_slice.specs.Pieces.{part}
use Rattle.bit_slice.proofs.Parts.{view_length}
use Rattle.bit_slice.proofs.Patterns.{none_within, part_within, still_last, still_none}
use Rattle.bit_slice.proofs.slice.BitSlice.find_last_between.Given as given
use Rattle.bit_slice.proofs.slice.BitSlice.find_last_between.Goals as goal
use Rattle.bit_slice.proofs.slice.BitSlice.find_last_between.Goals.{In-None}

-- it begins nowhere from the loop's index on
no_more : (g : given.Over) (c : In-None g) → (j : ℕ) → c.loop-at.at ≤ j → j < c.args.upto → part c.args.other.len (list_of c.args.self) j ≢ list_of c.args.other
no_more g c =
    let xs = list_of c.args.self in
    let n = c.args.other.len in
    let at = c.loop-at.at in
    let end : ℕ = c.args.upto - 1 + n in
    none_within xs (list_of c.args.other) n at end c.args.upto (omega (arith, c.requires.inside, view_length c.args.self)) (omega (arith, c.requires.some))
    (λ i fits below same. c.in-None.ensures.none i (omega (arith, fits, c.get_range.ensures.len)) (ap (λ l. part n l i) c.get_range.ensures.list ∙ same))

pub returns-in-None-clause-after : goal.returns-in-None-clause-after
returns-in-None-clause-after g c = still_last (list_of c.args.self) (list_of c.args.other) c.args.other.len c.loop-at.at c.args.upto (no_more g c) c.loop-at.last c.loop-at.invariant.after

pub returns-in-None-clause-none : goal.returns-in-None-clause-none
returns-in-None-clause-none g c = still_none (list_of c.args.self) (list_of c.args.other) c.args.other.len c.loop-at.at c.args.upto (no_more g c) c.args.from c.loop-at.last c.loop-at.invariant.none

pub loop-at-preserved : goal.loop-at-preserved
loop-at-preserved g c =
    let xs = list_of c.args.self in
    let n = c.args.other.len in
    let at = c.loop-at.at in
    let i = c.in-Some.i in
    let end : ℕ = c.args.upto - 1 + n in
    let inside : at + i + n ≤ end = omega (arith, c.in-Some.ensures.inside, c.get_range.ensures.len, c.loop-at-test.true, c.requires.some) in
    record {
      begins = omega (arith, c.loop-at.invariant.begins);
      ends = omega (arith, inside, c.requires.some);
      first = omega (arith, c.loop-at.invariant.begins);
      below = omega arith;
      found = sym (part_within xs n at end i (omega (arith, c.requires.inside, view_length c.args.self)) inside) ∙ ap (λ l. part n l i) (sym c.get_range.ensures.list) ∙ c.in-Some.ensures.found;
      after = λ j a b. absurd (omega (arith, a, b));
      none = tt;
    }
