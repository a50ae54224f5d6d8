use Rattle.std.proofs.Common.{leb, leb-true, leb-false, arith, rules}
use Rattle.std.proofs.lemmas.List.Sorted.{IsPartitionPoint-from_clause, IsPartitionedBy-leb}
use Rattle.bit_blocks.proofs.Runs.{firsts_ascend}
use Rattle.bit_blocks.proofs.ranged.place_of.Goals as goal

pub returns-clause-split : goal.returns-clause-split
returns-clause-split c =
    let runs = c.args.runs.now in
    let parted = IsPartitionedBy-leb (λ r. r.first) runs c.args.number (firsts_ascend 0 runs c.requires) in
    let point = IsPartitionPoint-from_clause (λ r. leb r.first c.args.number) runs c.partition_point.result c.partition_point.ensures.partitioned parted (λ a r q k. search rules) in
    record { before = λ j d l. leb-true _ _ (point.0 j d (omega arith) l); after = λ j d l m. leb-false _ _ (point.1 j d l m) }
