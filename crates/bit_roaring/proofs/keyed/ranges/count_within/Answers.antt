use Rattle.std.proofs.Common.{◌≡◌, ◌+◌, ◌/◌, ◌%◌, ◌<◌, length, refl, ◌∙◌, arith}
use Rattle.bit_roaring.specs.Keyed.{set_numbers}
use Rattle.bit_roaring.specs.Ranges.{numbers_within}
use Rattle.bit_roaring.proofs.Counts.{few_within, one_count, two_count}
use Rattle.bit_roaring.proofs.Keys.{keyed_earlier}
use Rattle.bit_roaring.proofs.keyed.ranges.count_within.Goals.{After-count_at-3}
use Rattle.bit_roaring.proofs.keyed.ranges.count_within.Goals as goal

pub returns-then-from-upto : goal.returns-then-from-upto
returns-then-from-upto c =
    let first = c.args.first in
    let last = c.args.last in
    c.count_at.ensures ∙ one_count c.args.blocks.now first last (first / 65536) (first % 65536) (last % 65536) c.requires.keyed c.requires.ordered (omega arith) refl c.if-from-upto.true refl refl

pub count-between-requires : goal.count-between-requires
count-between-requires c = keyed_earlier (c.args.first / 65536 + 1) 0 c.blocks_between.result.now (omega arith) c.blocks_between.ensures.keyed

total : (c : After-count_at-3) → c.count_at-2.result + (c.count-between.result + c.count_at-3.result) ≡ length (numbers_within c.args.first (c.args.last + 1) (set_numbers c.args.blocks.now))
total c =
    let first = c.args.first in
    let last = c.args.last in
    let ordered = c.requires.ordered in
    let apart = c.if-from-upto.false in
    let less : first / 65536 < last / 65536 = omega arith in
    let all = two_count c.args.blocks.now c.blocks_between.result.now first last (first / 65536) (last / 65536) (first % 65536) (last % 65536) c.requires.keyed less (omega arith) refl refl refl refl c.blocks_between.ensures in
    omega (arith, c.count_at-2.ensures, c.count-between.ensures, c.count_at-3.ensures)

pub overflow_add-result : goal.overflow_add-result
overflow_add-result c =
    let all = total c in
    let few = few_within c.args.blocks.now c.args.first (c.args.last + 1) c.requires.keyed (let ordered = c.requires.ordered in omega arith) in
    omega arith

pub overflow_add-result-2 : goal.overflow_add-result-2
overflow_add-result-2 c =
    let all = total c in
    let few = few_within c.args.blocks.now c.args.first (c.args.last + 1) c.requires.keyed (let ordered = c.requires.ordered in omega arith) in
    omega arith

pub returns : goal.returns
returns c = total c
