use Rattle.std.proofs.Common.{ap}
use Rattle.bit_blocks.specs.declared.ranged.Run.{Run}
use Rattle.bit_blocks.proofs.Cleared.{back_left, both_left, cleared_loses, cleared_runs, front_left, none_cleared, none_left}
use Rattle.bit_blocks.proofs.ranged.remove_run.Goals as goal

pub returns-then-upto-from-clause-loses : goal.returns-then-upto-from-clause-loses
returns-then-upto-from-clause-loses c =
    none_cleared c.args.runs.now.items c.args.run.first c.args.run.last c.ended_before-from.result c.place_of-upto.result c.requires.runs c.requires.run c.if-upto-from.true
    (rw c.deref.ensures.value at c.ended_before-from.ensures.split) (rw c.deref-2.ensures.value at c.place_of-upto.ensures.split)

pub returns-then-run-last-clause-runs : goal.returns-then-run-last-clause-runs
returns-then-run-last-clause-runs c =
    let rs = c.args.runs.now.items in
    cleared_runs rs c.with_two.new.items.items c.args.run.first c.args.run.last c.ended_before-from.result c.place_of-upto.result _ _ _ _ c.requires.runs c.requires.run (rw c.deref-2.ensures.value at c.place_of-upto.ensures.within)
    c.if-upto-from.false (rw c.deref.ensures.value at c.ended_before-from.ensures.split) (rw c.deref-2.ensures.value at c.place_of-upto.ensures.split) (ap (λ (r : Run). r.first) c.index.ensures) (ap (λ (r : Run). r.last) c.index-2.ensures)
    (both_left rs c.with_two.new.items.items _ _ _ _ _ _ c.if-first-run.true c.if-run-last.true c.in_ok-with_two.ensures.made)

pub returns-then-run-last-clause-loses : goal.returns-then-run-last-clause-loses
returns-then-run-last-clause-loses c =
    let rs = c.args.runs.now.items in
    cleared_loses rs c.with_two.new.items.items c.args.run.first c.args.run.last c.ended_before-from.result c.place_of-upto.result _ _ _ _ c.requires.runs c.requires.run (rw c.deref-2.ensures.value at c.place_of-upto.ensures.within)
    c.if-upto-from.false (rw c.deref.ensures.value at c.ended_before-from.ensures.split) (rw c.deref-2.ensures.value at c.place_of-upto.ensures.split) (ap (λ (r : Run). r.first) c.index.ensures) (ap (λ (r : Run). r.last) c.index-2.ensures)
    (both_left rs c.with_two.new.items.items _ _ _ _ _ _ c.if-first-run.true c.if-run-last.true c.in_ok-with_two.ensures.made)

pub returns-then-first-run-clause-runs : goal.returns-then-first-run-clause-runs
returns-then-first-run-clause-runs c =
    let rs = c.args.runs.now.items in
    cleared_runs rs c.with_one.new.items.items c.args.run.first c.args.run.last c.ended_before-from.result c.place_of-upto.result _ _ _ _ c.requires.runs c.requires.run (rw c.deref-2.ensures.value at c.place_of-upto.ensures.within)
    c.if-upto-from.false (rw c.deref.ensures.value at c.ended_before-from.ensures.split) (rw c.deref-2.ensures.value at c.place_of-upto.ensures.split) (ap (λ (r : Run). r.first) c.index.ensures) (ap (λ (r : Run). r.last) c.index-2.ensures)
    (front_left rs c.with_one.new.items.items _ _ _ _ _ _ c.if-first-run.true c.if-run-last.false c.in_ok-with_one.ensures.made)

pub returns-then-first-run-clause-loses : goal.returns-then-first-run-clause-loses
returns-then-first-run-clause-loses c =
    let rs = c.args.runs.now.items in
    cleared_loses rs c.with_one.new.items.items c.args.run.first c.args.run.last c.ended_before-from.result c.place_of-upto.result _ _ _ _ c.requires.runs c.requires.run (rw c.deref-2.ensures.value at c.place_of-upto.ensures.within)
    c.if-upto-from.false (rw c.deref.ensures.value at c.ended_before-from.ensures.split) (rw c.deref-2.ensures.value at c.place_of-upto.ensures.split) (ap (λ (r : Run). r.first) c.index.ensures) (ap (λ (r : Run). r.last) c.index-2.ensures)
    (front_left rs c.with_one.new.items.items _ _ _ _ _ _ c.if-first-run.true c.if-run-last.false c.in_ok-with_one.ensures.made)

pub returns-then-run-last-2-clause-runs : goal.returns-then-run-last-2-clause-runs
returns-then-run-last-2-clause-runs c =
    let rs = c.args.runs.now.items in
    cleared_runs rs c.with_one-then-run-last-2.new.items.items c.args.run.first c.args.run.last c.ended_before-from.result c.place_of-upto.result _ _ _ _ c.requires.runs c.requires.run (rw c.deref-2.ensures.value at c.place_of-upto.ensures.within)
    c.if-upto-from.false (rw c.deref.ensures.value at c.ended_before-from.ensures.split) (rw c.deref-2.ensures.value at c.place_of-upto.ensures.split) (ap (λ (r : Run). r.first) c.index.ensures) (ap (λ (r : Run). r.last) c.index-2.ensures)
    (back_left rs c.with_one-then-run-last-2.new.items.items _ _ _ _ _ _ c.if-first-run.false c.if-run-last-2.true c.in_ok-with_one-2.ensures.made)

pub returns-then-run-last-2-clause-loses : goal.returns-then-run-last-2-clause-loses
returns-then-run-last-2-clause-loses c =
    let rs = c.args.runs.now.items in
    cleared_loses rs c.with_one-then-run-last-2.new.items.items c.args.run.first c.args.run.last c.ended_before-from.result c.place_of-upto.result _ _ _ _ c.requires.runs c.requires.run (rw c.deref-2.ensures.value at c.place_of-upto.ensures.within)
    c.if-upto-from.false (rw c.deref.ensures.value at c.ended_before-from.ensures.split) (rw c.deref-2.ensures.value at c.place_of-upto.ensures.split) (ap (λ (r : Run). r.first) c.index.ensures) (ap (λ (r : Run). r.last) c.index-2.ensures)
    (back_left rs c.with_one-then-run-last-2.new.items.items _ _ _ _ _ _ c.if-first-run.false c.if-run-last-2.true c.in_ok-with_one-2.ensures.made)

pub returns-clause-runs : goal.returns-clause-runs
returns-clause-runs c =
    let rs = c.args.runs.now.items in
    cleared_runs rs c.with_none.new.items.items c.args.run.first c.args.run.last c.ended_before-from.result c.place_of-upto.result _ _ _ _ c.requires.runs c.requires.run (rw c.deref-2.ensures.value at c.place_of-upto.ensures.within)
    c.if-upto-from.false (rw c.deref.ensures.value at c.ended_before-from.ensures.split) (rw c.deref-2.ensures.value at c.place_of-upto.ensures.split) (ap (λ (r : Run). r.first) c.index.ensures) (ap (λ (r : Run). r.last) c.index-2.ensures)
    (none_left rs c.with_none.new.items.items _ _ _ _ _ _ c.if-first-run.false c.if-run-last-2.false c.with_none.ensures)

pub returns-clause-loses : goal.returns-clause-loses
returns-clause-loses c =
    let rs = c.args.runs.now.items in
    cleared_loses rs c.with_none.new.items.items c.args.run.first c.args.run.last c.ended_before-from.result c.place_of-upto.result _ _ _ _ c.requires.runs c.requires.run (rw c.deref-2.ensures.value at c.place_of-upto.ensures.within)
    c.if-upto-from.false (rw c.deref.ensures.value at c.ended_before-from.ensures.split) (rw c.deref-2.ensures.value at c.place_of-upto.ensures.split) (ap (λ (r : Run). r.first) c.index.ensures) (ap (λ (r : Run). r.last) c.index-2.ensures)
    (none_left rs c.with_none.new.items.items _ _ _ _ _ _ c.if-first-run.false c.if-run-last-2.false c.with_none.ensures)
