use Rattle.std.proofs.Common.{◌+◌, ◌*◌, ◌≤◌, length, subst, arith}
use Rattle.bit_rows.proofs.Wholes.{begins_word}
use Rattle.bit_rows.proofs.pairs.count_blocks.Goals as goal

pub count_alike-count-requires-clause-first : goal.count_alike-count-requires-clause-first
count_alike-count-requires-clause-first g c = let begins = begins_word c.args.i c.BITS-width.result g.T.BitStore.BITS c.BITS-width.ensures c.if-i-width-ne0.false in omega arith

pub count_alike-count-requires-clause-second : goal.count_alike-count-requires-clause-second
count_alike-count-requires-clause-second g c =
    let begins = begins_word c.args.j c.BITS-width.result g.T.BitStore.BITS c.BITS-width.ensures c.if-j-width-ne0.false in
    let inside = subst (λ m. c.args.j + c.args.n ≤ m * length c.args.b.now) (c.are_alike.ensures c.if-not-are_alike.false).width c.requires.second in
    omega arith

pub returns-clause-count : goal.returns-clause-count
returns-clause-count g c =
    rw (begins_word c.args.i c.BITS-width.result g.T.BitStore.BITS c.BITS-width.ensures c.if-i-width-ne0.false, begins_word c.args.j c.BITS-width.result g.T.BitStore.BITS c.BITS-width.ensures c.if-j-width-ne0.false) at c.count_alike-count.ensures
