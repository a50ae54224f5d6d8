use Rattle.bit_slice.specs.BitSlice.{list_of}
use Rattle.bit_slice.proofs.BitRuns.{each_of_run}
use Rattle.bit_slice.proofs.Parts.{view_length}
use Rattle.bit_slice.proofs.lists.BitList.next_aligned_run.Goals as goal

pub returns-clause-each : goal.returns-clause-each
returns-clause-each g c =
    rw (← c.as_bitslice.ensures.list) (
    let v = c.as_bitslice.result in
    each_of_run (list_of v) c.args.n v.len c.args.bit (view_length v) c.find_aligned_run.result c.find_aligned_run.ensures.inside c.find_aligned_run.ensures.found)
