use Rattle.std.proofs.Common.{◌≡◌, ◌<◌, ℕ, min, sym, ◌∙◌, arith}
use Rattle.bit_blocks.proofs.Combined.{nothing_made, stretch_out, stretch_on, stretch_new, made_runs, made_combines}
use Rattle.bit_blocks.proofs.stretches.combined.Goals as goal
use Rattle.bit_blocks.proofs.stretches.combined.Goals.{then-keeps+then-at-upto+in_ok-push_run, then-keeps+else-at-upto, else-keeps}

pub loop-at-init : goal.loop-at-init
loop-at-init c = record {
  i_within = omega arith;
  j_within = omega arith;
  i_place = record { before = λ j d low. absurd (omega arith); after = λ j d low inside. omega arith };
  j_place = record { before = λ j d low. absurd (omega arith); after = λ j d low inside. omega arith };
  made = rw c.in_ok-made.ensures.items (nothing_made c.args.operation c.args.left.now c.args.right.now);
}

pub loop-at-preserved : goal.loop-at-preserved
loop-at-preserved c =
    let op = c.args.operation in
    let xs = c.args.left.now in
    let ys = c.args.right.now in
    let before = c.loop-at.made.items in
    let first = c.loop-at.first in
    let upto = c.loop-at.upto in
    let at = c.loop-at.at in
    let in_left = c.stretch-in_left.result.0 in
    let in_right = c.stretch-in_right.result.0 in
    let left_end : ℕ = c.stretch-in_left.result.1 in
    let right_end : ℕ = c.stretch-in_right.result.1 in
    let end = c.min-end.result in
    let left = c.stretch-in_left.ensures.stretch in
    let right = c.stretch-in_right.ensures.stretch in
    let g = c.loop-at.invariant.made in
    let is : end ≡ min left_end right_end = c.min-end.ensures in
    let some : at < left_end = left.some in
    let other : at < right_end = right.some in
    let on : at < end = omega arith in
    record {
      i_within = c.advanced-i.ensures.within;
      j_within = c.advanced-j.ensures.within;
      i_place = c.advanced-i.ensures.place;
      j_place = c.advanced-j.ensures.place;
      made = elim c.if-keeps.branch [
        | then-keeps+then-at-upto+in_ok-push_run w ↦
            rw (w.made-is, w.first-is, w.upto-is, w.in_ok-push_run.ensures) (stretch_new op xs ys before first upto at left_end right_end end in_left in_right g left right (omega arith) (omega arith) on (sym c.keeps.ensures ∙ w.if-keeps.true) w.if-at-upto.true)
        | then-keeps+else-at-upto w ↦
            rw (w.made-is, w.first-is, w.upto-is) (stretch_on op xs ys before first upto at left_end right_end end in_left in_right g left right (omega arith) (omega arith) on (sym c.keeps.ensures ∙ w.if-keeps.true) (omega (arith, w.if-at-upto.false)))
        | else-keeps w ↦
            rw (w.made-is, w.first-is, w.upto-is) (stretch_out op xs ys before first upto at left_end right_end end in_left in_right g left right (omega arith) (omega arith) on (sym c.keeps.ensures ∙ w.if-keeps.false))
      ];
    }

pub returns-clause-runs : goal.returns-clause-runs
returns-clause-runs c =
    rw (c.give_back.ensures.same ∙ c.in_ok-push_run-2.ensures) (made_runs c.args.operation c.args.left.now c.args.right.now c.loop-at.made.items c.loop-at.first c.loop-at.upto c.loop-at.at c.loop-at.invariant.made)

pub returns-clause-members : goal.returns-clause-members
returns-clause-members c =
    rw (c.give_back.ensures.same ∙ c.in_ok-push_run-2.ensures) (made_combines c.args.operation c.args.left.now c.args.right.now c.loop-at.made.items c.loop-at.first c.loop-at.upto c.loop-at.at c.loop-at.invariant.made c.requires.left c.requires.right (omega (arith, c.loop-at-test.false)))

pub advanced-i-requires-clause-near : goal.advanced-i-requires-clause-near
advanced-i-requires-clause-near c = λ d inside. let most = c.stretch-in_left.ensures.near d inside in omega (arith, c.min-end.ensures)

pub advanced-j-requires-clause-near : goal.advanced-j-requires-clause-near
advanced-j-requires-clause-near c = λ d inside. let most = c.stretch-in_right.ensures.near d inside in omega (arith, c.min-end.ensures)
