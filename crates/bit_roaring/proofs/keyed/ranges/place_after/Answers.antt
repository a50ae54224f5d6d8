use Rattle.std.proofs.Common.{nat_le, leb-true, leb-false, arith, rules}
use Rattle.std.proofs.lemmas.List.Sorted.{IsPartitionPoint-from_clause, IsPartitionedBy-leb}
use Rattle.bit_roaring.proofs.Keys.{keys_ascend}
use Rattle.bit_roaring.proofs.keyed.ranges.place_after.Goals as goal

pub returns-clause-place : goal.returns-clause-place
returns-clause-place c =
    let blocks = c.args.blocks.now in
    let parted = IsPartitionedBy-leb (λ b. b.key) blocks c.args.key (keys_ascend 0 blocks c.requires) in
    let point = IsPartitionPoint-from_clause (λ b. nat_le b.key c.args.key) blocks c.partition_point.result c.partition_point.ensures.partitioned parted (λ a r q k. search rules) in
    record { before = λ j d l. let low = leb-true _ _ (point.0 j d (omega arith) l) in omega arith; after = λ j d l m. let high = leb-false _ _ (point.1 j d l m) in omega arith }
