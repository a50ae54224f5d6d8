use Rattle.std.proofs.Common.{nat_lt, ltb-true, ltb-false, arith, rules}
use Rattle.std.proofs.lemmas.List.Sorted.{IsPartitionPoint-from_clause, IsPartitionedBy-ltb}
use Rattle.bit_blocks.proofs.Runs.{lasts_ascend}
use Rattle.bit_blocks.proofs.ranged.ended_before.Goals as goal

pub returns-clause-split : goal.returns-clause-split
returns-clause-split c =
    let runs = c.args.runs.now in
    let parted = IsPartitionedBy-ltb (λ r. r.last) runs c.args.number (lasts_ascend 0 runs c.requires) in
    let point = IsPartitionPoint-from_clause (λ r. nat_lt r.last c.args.number) runs c.partition_point.result c.partition_point.ensures.partitioned parted (λ a r q k. search rules) in
    record { before = λ j d l. ltb-true _ _ (point.0 j d (omega arith) l); after = λ j d l m. ltb-false _ _ (point.1 j d l m) }
