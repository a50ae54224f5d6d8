use Rattle.std.proofs.Common.{nat_lt, ltb-true, ltb-false, arith, rules}
use Rattle.std.proofs.lemmas.List.Sorted.{IsPartitionPoint-from_clause, IsPartitionedBy-ltb}
use Rattle.bit_roaring.proofs.Keys.{keys_ascend}
use Rattle.bit_roaring.proofs.keyed.place_of.Goals as goal

pub returns-clause-place : goal.returns-clause-place
returns-clause-place c =
    let blocks = c.args.blocks.now in
    let parted = IsPartitionedBy-ltb (λ b. b.key) blocks c.args.key (keys_ascend 0 blocks c.requires) in
    let point = IsPartitionPoint-from_clause (λ b. nat_lt b.key c.args.key) blocks c.partition_point.result c.partition_point.ensures.partitioned parted (λ a r q k. search rules) in
    record { before = λ j d l. ltb-true _ _ (point.0 j d (omega arith) l); after = λ j d l m. ltb-false _ _ (point.1 j d l m) }
