use Rattle.std.proofs.Common.{◌++◌, ◌+◌, ◌*◌, ◌/◌, ◌%◌, ◌<◌, map, append-nil, ◌∙◌, ap, refl, arith}
use Rattle.bit_blocks.specs.BlockLeft.{block_left}
use Rattle.bit_roaring.specs.Keyed.{block_at, set_numbers}
use Rattle.bit_roaring.proofs.Keys.{keyed_earlier}
use Rattle.bit_roaring.proofs.Parts.{one_key, part_numbers, two_keys}
use Rattle.bit_roaring.proofs.SetLeft.{all_full}
use Rattle.bit_roaring.proofs.iter.SetIter.between.Goals as goal

pub returns-then-from-upto : goal.returns-then-from-upto
returns-then-from-upto c =
    let bs = c.args.blocks.now in
    let a = c.args.first / 65536 in
    let first = c.args.first in
    let last = c.args.last in
    let part = ap (map (λ k. a * 65536 + k)) c.part_at.ensures in
    ap (λ l. map (λ k. a * 65536 + k) (block_left c.part_at.result) ++ map (λ k. 0 + k) l) c.empty.ensures ∙ append-nil (map (λ k. a * 65536 + k) (block_left c.part_at.result))
    ∙ part ∙ one_key bs first last a (first % 65536) (last % 65536) c.requires.keyed c.requires.ordered (omega arith) refl c.if-from-upto.true refl refl

pub invariant_of-result-2 : goal.invariant_of-result-2
invariant_of-result-2 c = record {
  whole = omega arith;
  full = all_full c.blocks_between.result.now (keyed_earlier (c.args.first / 65536 + 1) 0 c.blocks_between.result.now (omega arith) c.blocks_between.ensures.keyed);
  back_whole = omega arith;
}

pub returns : goal.returns
returns c =
    let bs = c.args.blocks.now in
    let first = c.args.first in
    let last = c.args.last in
    let a = first / 65536 in
    let b = last / 65536 in
    let apart = c.if-from-upto.false in
    let ordered = c.requires.ordered in
    let less : a < b = omega arith in
    ap (λ l. map (λ k. a * 65536 + k) l ++ (set_numbers c.blocks_between.result.now ++ map (λ k. b * 65536 + k) (block_left c.part_at-3.result))) c.part_at-2.ensures
    ∙ ap (λ l. part_numbers a (first % 65536) 65535 (block_at bs a) ++ (set_numbers c.blocks_between.result.now ++ map (λ k. b * 65536 + k) l)) c.part_at-3.ensures
    ∙ two_keys bs c.blocks_between.result.now first last a b (first % 65536) (last % 65536) c.requires.keyed less (omega arith) refl refl refl refl c.blocks_between.ensures
