use Rattle.std.proofs.Common.{◌≡◌, ◌++◌, ◌∷◌, [], cond, sym, ◌∙◌, ap, subst, arith}
use Rattle.std.specs.Prelude.{length, option_to_list, vec_capacity, vec_len}
use Rattle.std.proofs.lemmas.List.{nil_from_length}
use Rattle.std.specs.Vec.Iter.{into_iter_items}
use Rattle.bit_roaring.proofs.Made.{not_empty}
use Rattle.bit_roaring.proofs.Merged.{MergedTo, MovedBefore, all_keyed, all_merged, next_merged, next_taken}
use Rattle.bit_roaring.proofs.keyed.merged.merge.Goals as goal

pub loop-next-preserved-then-is_empty : goal.loop-next-preserved-then-is_empty
loop-next-preserved-then-is_empty c =
    let b = c.in-Some.keyed in
    let left = option_to_list c.loop-next.next ++ into_iter_items c.loop-next.rest in
    let mid = c.move_before-next.new.all.items in
    let end = option_to_list c.move_before-next.result ++ into_iter_items c.move_before-next.new.rest in
    let moved : MovedBefore (c.loop-next.all.items ++ left) mid end b.key = record { keyed = c.move_before-next.ensures.keyed; replaces = c.move_before-next.ensures.replaces; after = c.move_before-next.ensures.after } in (
      next_taken c.args.blocks.items c.loop-next.all.items left c.args.made.items (into_iter_items c.loop-next.others) (into_iter_items c.next.new.self) (vec_len c.loop-next.all) (vec_capacity c.loop-next.all) b c.loop-next.invariant.0 c.in-Some.ensures.items
          mid end (vec_len c.move_before-next.new.all) (vec_capacity c.move_before-next.new.all) moved c.move_before-next.ensures.before c.move_before-next.ensures.fewer c.move_before-next.ensures.capacity (c.is_empty.ensures.0 c.if-is_empty.true),
      c.move_before-next.ensures.ends,
    )

pub loop-next-preserved : goal.loop-next-preserved
loop-next-preserved c =
    let b = c.in-Some.keyed in
    let left = option_to_list c.loop-next.next ++ into_iter_items c.loop-next.rest in
    let mid = c.move_before-next.new.all.items in
    let end = option_to_list c.move_before-next.result ++ into_iter_items c.move_before-next.new.rest in
    let moved : MovedBefore (c.loop-next.all.items ++ left) mid end b.key = record { keyed = c.move_before-next.ensures.keyed; replaces = c.move_before-next.ensures.replaces; after = c.move_before-next.ensures.after } in
    let fits = c.loop-next.invariant.0.fits in
    let long = ap length c.in-Some.ensures.items in
    let fewer = c.move_before-next.ensures.fewer in
    let still = c.move_before-next.ensures.capacity in
    let wide = c.push-done.ensures.capacity in
    let more = c.push-done.ensures.upper_bound in
    let pushed : c.push-done.new.self.items ≡ mid ++ b ∷ [] = c.push-done.ensures.items ∙ ap (λ t. cond t (mid ++ b ∷ []) mid) (c.push-done.ensures.succeeds (omega arith)) in (
      subst (λ l. MergedTo c.args.blocks.items l end c.args.made.items (into_iter_items c.next.new.self) (vec_len c.push-done.new.self) (vec_capacity c.push-done.new.self)) (sym pushed)
          (next_merged c.args.blocks.items c.loop-next.all.items left c.args.made.items (into_iter_items c.loop-next.others) (into_iter_items c.next.new.self) (vec_len c.loop-next.all) (vec_capacity c.loop-next.all) b c.loop-next.invariant.0 c.in-Some.ensures.items
          mid end (vec_len c.push-done.new.self) (vec_capacity c.push-done.new.self) moved c.move_before-next.ensures.before (omega arith) (omega arith) (not_empty b.block c.is_empty.result c.is_empty.ensures c.if-is_empty.false)),
      c.move_before-next.ensures.ends,
    )

pub returns-clause-keyed : goal.returns-clause-keyed
returns-clause-keyed c =
    let left = option_to_list c.loop-next.next ++ into_iter_items c.loop-next.rest in
    let end = c.move_before-none.new.all.items in
    let over = option_to_list c.move_before-none.result ++ into_iter_items c.move_before-none.new.rest in
    let none : into_iter_items c.loop-next.others ≡ [] = nil_from_length (into_iter_items c.loop-next.others) (sym c.loop-next.others.rest.ok.0 ∙ c.in_default.ensures.cases.0) in
    let moved : MovedBefore (c.loop-next.all.items ++ left) end over 65536 = record { keyed = c.move_before-none.ensures.keyed; replaces = c.move_before-none.ensures.replaces; after = c.move_before-none.ensures.after } in
    all_keyed c.args.blocks.items c.loop-next.all.items left c.args.made.items end over (vec_len c.loop-next.all) (vec_capacity c.loop-next.all) c.requires.keyed c.requires.keys
    (subst (λ l. MergedTo c.args.blocks.items c.loop-next.all.items left c.args.made.items l (vec_len c.loop-next.all) (vec_capacity c.loop-next.all)) none c.loop-next.invariant.0) moved

pub returns-clause-replaces : goal.returns-clause-replaces
returns-clause-replaces c =
    let left = option_to_list c.loop-next.next ++ into_iter_items c.loop-next.rest in
    let end = c.move_before-none.new.all.items in
    let over = option_to_list c.move_before-none.result ++ into_iter_items c.move_before-none.new.rest in
    let none : into_iter_items c.loop-next.others ≡ [] = nil_from_length (into_iter_items c.loop-next.others) (sym c.loop-next.others.rest.ok.0 ∙ c.in_default.ensures.cases.0) in
    let moved : MovedBefore (c.loop-next.all.items ++ left) end over 65536 = record { keyed = c.move_before-none.ensures.keyed; replaces = c.move_before-none.ensures.replaces; after = c.move_before-none.ensures.after } in
    all_merged c.args.blocks.items c.loop-next.all.items left c.args.made.items end over (vec_len c.loop-next.all) (vec_capacity c.loop-next.all) c.requires.keyed c.requires.keys
    (subst (λ l. MergedTo c.args.blocks.items c.loop-next.all.items left c.args.made.items l (vec_len c.loop-next.all) (vec_capacity c.loop-next.all)) none c.loop-next.invariant.0) moved
