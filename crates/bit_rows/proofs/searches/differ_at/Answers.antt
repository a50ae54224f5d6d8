use Rattle.std.proofs.Common.{◌≡◌, ◌*◌, arith}
use Rattle.bit_rows.proofs.searches.differ_at.Goals as goal

pub differ_long-requires-clause-first : goal.differ_long-requires-clause-first
differ_long-requires-clause-first g c = omega (arith, c.in_word-k.ensures.index)

pub differ_long-requires-clause-second : goal.differ_long-requires-clause-second
differ_long-requires-clause-second g c = let same = (c.are_alike.ensures c.if-are_alike.true).width in rw (← same) (omega (arith, c.in_word-l.ensures.index))

pub differ_long-requires-clause-first_fits : goal.differ_long-requires-clause-first_fits
differ_long-requires-clause-first_fits g c = omega (arith, c.in_word-k.ensures.index)

pub differ_long-requires-clause-second_fits : goal.differ_long-requires-clause-second_fits
differ_long-requires-clause-second_fits g c = let same = (c.are_alike.ensures c.if-are_alike.true).width in rw (← same) (omega (arith, c.in_word-l.ensures.index))

pub returns-then-n-gt512 : goal.returns-then-n-gt512
returns-then-n-gt512 g c =
    let same = (c.are_alike.ensures c.if-are_alike.true).width in
    let one : c.in_word-k.result.0 * g.T.BitStore.BITS ≡ c.args.i = omega (arith, c.in_word-k.ensures.index) in
    let two : c.in_word-l.result.0 * g.T.BitStore.BITS ≡ c.args.j = rw (← same) (omega (arith, c.in_word-l.ensures.index)) in
    rw (one, two) at c.differ_long.ensures

pub differ_alike-requires-clause-first : goal.differ_alike-requires-clause-first
differ_alike-requires-clause-first g c = omega (arith, c.in_word-k.ensures.index)

pub differ_alike-requires-clause-second : goal.differ_alike-requires-clause-second
differ_alike-requires-clause-second g c = let same = (c.are_alike.ensures c.if-are_alike.true).width in rw (← same) (omega (arith, c.in_word-l.ensures.index))

pub differ_alike-requires-clause-first_fits : goal.differ_alike-requires-clause-first_fits
differ_alike-requires-clause-first_fits g c = omega (arith, c.in_word-k.ensures.index)

pub differ_alike-requires-clause-second_fits : goal.differ_alike-requires-clause-second_fits
differ_alike-requires-clause-second_fits g c = let same = (c.are_alike.ensures c.if-are_alike.true).width in rw (← same) (omega (arith, c.in_word-l.ensures.index))

pub returns-then-are_alike : goal.returns-then-are_alike
returns-then-are_alike g c =
    let same = (c.are_alike.ensures c.if-are_alike.true).width in
    let one : c.in_word-k.result.0 * g.T.BitStore.BITS ≡ c.args.i = omega (arith, c.in_word-k.ensures.index) in
    let two : c.in_word-l.result.0 * g.T.BitStore.BITS ≡ c.args.j = rw (← same) (omega (arith, c.in_word-l.ensures.index)) in
    rw (one, two) at c.differ_alike.ensures

pub differ_apart-requires-clause-first : goal.differ_apart-requires-clause-first
differ_apart-requires-clause-first g c = rw c.in_word-k.ensures.index c.requires.first

pub differ_apart-requires-clause-second : goal.differ_apart-requires-clause-second
differ_apart-requires-clause-second g c = rw c.in_word-l.ensures.index c.requires.second

pub differ_apart-requires-clause-first_fits : goal.differ_apart-requires-clause-first_fits
differ_apart-requires-clause-first_fits g c = rw c.in_word-k.ensures.index c.requires.first_fits

pub differ_apart-requires-clause-second_fits : goal.differ_apart-requires-clause-second_fits
differ_apart-requires-clause-second_fits g c = rw c.in_word-l.ensures.index c.requires.second_fits

pub returns : goal.returns
returns g c = rw (c.in_word-k.ensures.index, c.in_word-l.ensures.index) at c.differ_apart.ensures
