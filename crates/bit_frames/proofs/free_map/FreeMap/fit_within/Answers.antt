use Rattle.std.proofs.Common.{◌<◌, ◌≤◌, ℕ, length, arith}
use Rattle.bit_frames.specs.FreeMap.{IsTaken}
use Rattle.bit_frames.proofs.Frames.{none_over, none_past, none_up_to}
use Rattle.bit_frames.proofs.free_map.FreeMap.fit_within.Goals as goal

pub loop-first-preserved : goal.loop-first-preserved
loop-first-preserved c =
    let map = c.args.self.now in
    let from = c.args.from in
    let count = c.args.count in
    let first = c.in-Some.first in
    let found = c.in-Some.ensures in
    let last = c.in-Some-last_taken.ensures in
    let begins = c.loop-first.invariant.begins in
    let after = found.begins in
    let order = last.0 in
    let taken : (j : ℕ) → c.loop-first.at ≤ j → j < first → IsTaken map j = rw (← c.self.view_is) found.before in
    record {
      begins = omega arith;
      none = none_over map from count c.requires.some first c.in-Some-last_taken.last last.0 last.1 last.2 (none_up_to map from count c.requires.some c.loop-first.at first taken c.loop-first.invariant.none);
    }

pub returns : goal.returns
returns c =
    let map = c.args.self.now in
    let taken : (j : ℕ) → c.loop-first.at ≤ j → j < length map → IsTaken map j = rw (← c.self.view_is) c.in_default.ensures.none in
    λ k low _ free. none_past map c.args.from c.args.count c.requires.some c.loop-first.at taken c.loop-first.invariant.none k low free
