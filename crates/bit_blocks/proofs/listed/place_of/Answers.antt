use Rattle.std.proofs.Common.{nat_lt, ltb-true, ltb-false, arith, rules}
use Rattle.std.proofs.lemmas.List.Sorted.{IsPartitionPoint-from_clause, IsPartitionedBy-ltb}
use Rattle.bit_blocks.proofs.Ascending.{counted_at, not_decreasing}
use Rattle.bit_blocks.proofs.listed.place_of.Goals as goal

pub returns-clause-value : goal.returns-clause-value
returns-clause-value c =
    let numbers = c.args.numbers.now in
    let parted = IsPartitionedBy-ltb (λ x. x) numbers c.args.number (not_decreasing 0 65536 numbers c.requires) in
    let point = IsPartitionPoint-from_clause (λ x. nat_lt x c.args.number) numbers c.partition_point.result c.partition_point.ensures.partitioned parted (λ a r q k. search rules) in
    counted_at numbers c.partition_point.result c.args.number c.partition_point.ensures.bound
    (λ j l. ltb-true _ _ (point.0 j 0 (omega arith) l)) (λ j l m. ltb-false _ _ (point.1 j 0 l m))
