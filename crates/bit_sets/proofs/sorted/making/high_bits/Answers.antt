use Rattle.std.proofs.Common.{◌+◌, ◌/◌, ◌^◌, get_or, length, subst, sym, ap, ◌∙◌, arith}
use Rattle.std.proofs.Common.{true}
use Rattle.std.proofs.lemmas.List.{length-set}
use Rattle.bit_sets.proofs.Making.{AreMarked, marked_more, none_marked, place_inside}
use Rattle.bit_sets.proofs.sorted.making.high_bits.Goals as goal

pub loop-k-init : goal.loop-k-init
loop-k-init c =
    record {
      size = c.in_ok-list.ensures.len;
      marked = subst (AreMarked c.args.width c.args.numbers.now 0) (sym c.in_ok-list.ensures.list) (none_marked c.args.width c.args.numbers.now c.args.len);
    }

pub overflow_add-numbers : goal.overflow_add-numbers
overflow_add-numbers c = let few = c.requires.few in omega (arith, place_inside c.args.width c.args.numbers.now c.loop-k.k c.args.len c.requires.ascends c.requires.len (omega arith))

pub set-requires : goal.set-requires
set-requires c = let size = c.loop-k.invariant.size in omega (arith, place_inside c.args.width c.args.numbers.now c.loop-k.k c.args.len c.requires.ascends c.requires.len (omega arith))

pub loop-k-preserved : goal.loop-k-preserved
loop-k-preserved c =
    let l = c.loop-k in
    let xs = c.args.numbers.now in
    let size = l.invariant.size in
    let inside = place_inside c.args.width xs l.k c.args.len c.requires.ascends c.requires.len (omega arith) in
    record {
      size = ap length c.set.ensures.list ∙ length-set l.list.list (get_or xs l.k 0 / 2 ^ c.args.width + l.k) true ∙ size;
      marked = subst (AreMarked c.args.width xs (l.k + 1)) (sym c.set.ensures.list) (marked_more c.args.width xs l.k l.list.list c.requires.ascends (omega arith) (omega arith) l.invariant.marked);
    }
