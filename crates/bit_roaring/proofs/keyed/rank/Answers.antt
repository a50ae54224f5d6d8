use Rattle.std.proofs.Common.{◌%◌, ap, arith}
use Rattle.bit_blocks.specs.Numbers.{count_below}
use Rattle.bit_blocks.proofs.Ascending.{counts_at_most}
use Rattle.bit_roaring.specs.Keyed.{set_numbers}
use Rattle.bit_roaring.proofs.Counted.{few_in_set, rank_parts}
use Rattle.bit_roaring.proofs.keyed.rank.Goals as goal

pub overflow_add-result : goal.overflow_add-result
overflow_add-result c =
    let n = c.args.number in
    let parts = rank_parts 0 c.args.blocks.now n c.place_of-place.result c.requires c.place_of-place.ensures.within c.place_of-place.ensures.place in
    let same = ap (λ l. count_below l (n % 65536)) c.in-Some.ensures in
    let most = counts_at_most (set_numbers c.args.blocks.now) n in
    let few = few_in_set c.args.blocks.now c.requires in
    omega (arith, c.count_front-before.ensures, c.rank.ensures)

pub returns-in-None : goal.returns-in-None
returns-in-None c =
    let n = c.args.number in
    let parts = rank_parts 0 c.args.blocks.now n c.place_of-place.result c.requires c.place_of-place.ensures.within c.place_of-place.ensures.place in
    let same = ap (λ l. count_below l (n % 65536)) c.in-None.ensures in
    omega (arith, c.count_front-before.ensures)

pub returns-in-Some : goal.returns-in-Some
returns-in-Some c =
    let n = c.args.number in
    let parts = rank_parts 0 c.args.blocks.now n c.place_of-place.result c.requires c.place_of-place.ensures.within c.place_of-place.ensures.place in
    let same = ap (λ l. count_below l (n % 65536)) c.in-Some.ensures in
    omega (arith, c.count_front-before.ensures, c.rank.ensures)
