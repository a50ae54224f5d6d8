use Rattle.std.proofs.Common.{◌≡◌, ◌≤◌, ◌++◌, ◌∷◌, [], cond, drop, get_or, length, true, false, ap, sym, ◌∙◌, subst, take, ◌-◌, inl, inr, arith}
use Rattle.std.specs.Prelude.{◌⊎◌}
use Rattle.bit_blocks.specs.Numbers.{those}
use Rattle.bit_blocks.specs.Operation.{made_by}
use Rattle.bit_blocks.proofs.Merging.{ReadTo, ascends_made, combines_those, kept, op_begun, op_both, op_left, op_made, op_right, to_end}
use Rattle.bit_blocks.proofs.Sizes.{few_combined}
use Rattle.bit_blocks.proofs.listed.combined.Goals as goal
use Rattle.bit_blocks.proofs.listed.combined.Goals.{After-give_back, then-loop-i-test+else-j-right, else-loop-i-test}

pub loop-i-init : goal.loop-i-init
loop-i-init c = subst (λ made. ReadTo c.args.operation c.args.left.now c.args.right.now made 0 0) (sym c.new-made.ensures.items) (op_begun c.args.operation c.args.left.now c.args.right.now c.requires.left c.requires.right)

pub loop-i-preserved-then-x-y : goal.loop-i-preserved-then-x-y
loop-i-preserved-then-x-y c =
    op_left c.args.operation c.args.left.now c.args.right.now c.loop-i.made.items c.push_if.new.made.items c.loop-i.i c.loop-i.j c.requires.left c.requires.right c.loop-i.invariant
    c.loop-i-test.true c.if-j-right.true c.if-x-y.true
    (c.in_ok-push_if.ensures ∙ ap (λ t. c.loop-i.made.items ++ cond t (get_or c.args.left.now c.loop-i.i 0 ∷ []) []) c.keeps_left.ensures)

pub loop-i-preserved-then-y-x : goal.loop-i-preserved-then-y-x
loop-i-preserved-then-y-x c =
    op_right c.args.operation c.args.left.now c.args.right.now c.loop-i.made.items c.push_if-then-y-x.new.made.items c.loop-i.i c.loop-i.j c.requires.left c.requires.right c.loop-i.invariant
    c.loop-i-test.true c.if-j-right.true c.if-y-x.true
    (c.in_ok-push_if-2.ensures ∙ ap (λ t. c.loop-i.made.items ++ cond t (get_or c.args.right.now c.loop-i.j 0 ∷ []) []) c.keeps_right.ensures)

pub loop-i-preserved : goal.loop-i-preserved
loop-i-preserved c =
    op_both c.args.operation c.args.left.now c.args.right.now c.loop-i.made.items c.push_if-else-y-x.new.made.items c.loop-i.i c.loop-i.j c.requires.left c.requires.right c.loop-i.invariant
    c.loop-i-test.true c.if-j-right.true (omega arith)
    (c.in_ok-push_if-3.ensures ∙ ap (λ t. c.loop-i.made.items ++ cond t (get_or c.args.left.now c.loop-i.i 0 ∷ []) []) c.keeps_both.ensures)

all_kept : (c : After-give_back) → c.append_if-2.new.made.items ≡ those (kept c.args.operation c.args.left.now c.args.right.now) 0 65536
all_kept c =
    let left = c.args.left.now in
    let right = c.args.right.now in
    let r = c.loop-i.invariant in
    let lb : c.loop-i.i ≤ length left = r.left in
    let rb : c.loop-i.j ≤ length right = r.right in
    let end : (length left ≡ c.loop-i.i) ⊎ (length right ≡ c.loop-i.j) = elim c.loop-i-test.branch [
      | then-loop-i-test+else-j-right w ↦ inr (let past = w.if-j-right.false in omega arith)
      | else-loop-i-test w ↦ inl (let past = w.loop-i-test.false in omega arith)
    ] in
    op_made c.args.operation left right c.loop-i.made.items c.append_if-2.new.made.items c.loop-i.i c.loop-i.j c.requires.left c.requires.right r end (
    c.in_ok-append_if-2.ensures
    ∙ ap (λ t. c.append_if.new.made.items ++ cond t (take (length right - c.loop-i.j) (drop c.loop-i.j right)) []) c.keeps_right-2.ensures
    ∙ ap (λ l. c.append_if.new.made.items ++ cond (made_by c.args.operation false true) l []) (to_end right c.loop-i.j)
    ∙ ap (λ l. l ++ cond (made_by c.args.operation false true) (drop c.loop-i.j right) []) (
    c.in_ok-append_if.ensures ∙ ap (λ t. c.loop-i.made.items ++ cond t (take (length left - c.loop-i.i) (drop c.loop-i.i left)) []) c.keeps_left-2.ensures
    ∙ ap (λ l. c.loop-i.made.items ++ cond (made_by c.args.operation true false) l []) (to_end left c.loop-i.i)))

pub returns-clause-members : goal.returns-clause-members
returns-clause-members c = combines_those c.args.operation c.args.left.now c.args.right.now c.give_back.new.items.items c.requires.left c.requires.right (c.give_back.ensures.same ∙ all_kept c)

pub returns-clause-ascends : goal.returns-clause-ascends
returns-clause-ascends c = ascends_made c.args.operation c.args.left.now c.args.right.now c.give_back.new.items.items (c.give_back.ensures.same ∙ all_kept c)

pub returns-clause-few : goal.returns-clause-few
returns-clause-few c =
    let made = c.give_back.ensures.same ∙ all_kept c in
    few_combined c.args.operation c.args.left.now c.args.right.now c.give_back.new.items.items c.requires.left c.requires.right (ascends_made c.args.operation c.args.left.now c.args.right.now c.give_back.new.items.items made)
    (combines_those c.args.operation c.args.left.now c.args.right.now c.give_back.new.items.items c.requires.left c.requires.right made)
