use Rattle.std.proofs.Common.{◌+◌, get_or, leb, leb-true, leb-false, arith, rules}
use Rattle.std.proofs.lemmas.List.Sorted.{IsPartitionPoint-from_clause, IsPartitionedBy-leb}
use Rattle.bit_blocks.proofs.Ascending.{counted_at, not_decreasing}
use Rattle.bit_blocks.proofs.listed.place_after.Goals as goal

pub returns-clause-value : goal.returns-clause-value
returns-clause-value c =
    let numbers = c.args.numbers.now in
    let n = c.args.number in
    let parted = IsPartitionedBy-leb (λ x. x) numbers n (not_decreasing 0 65536 numbers c.requires) in
    let point = IsPartitionPoint-from_clause (λ x. leb x n) numbers c.partition_point.result c.partition_point.ensures.partitioned parted (λ a r q k. search rules) in
    counted_at numbers c.partition_point.result (n + 1) c.partition_point.ensures.bound
    (λ j l. let low = leb-true (get_or numbers j 0) n (point.0 j 0 (omega arith) l) in omega arith) (λ j l m. let high = leb-false (get_or numbers j 0) n (point.1 j 0 l m) in omega arith)
