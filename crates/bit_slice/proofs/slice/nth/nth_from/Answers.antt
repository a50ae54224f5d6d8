use Rattle.std.proofs.Common.{◌+◌, arith}
use Rattle.bit_slice.specs.BitSlice.{list_of}
use Rattle.bit_slice.specs.Numbered.{count_before}
use Rattle.bit_slice.proofs.Numbered.{counted_more, found_numbered}
use Rattle.bit_slice.proofs.Parts.{view_length}
use Rattle.bit_slice.proofs.slice.nth.nth_from.Goals as goal

pub returns-then-left-count-clause-some : goal.returns-then-left-count-clause-some
returns-then-left-count-clause-some g c =
    let v = c.args.view in
    let xs = list_of v in
    let size = view_length v in
    let at = c.scan.at in
    found_numbered c.args.bit xs at (at + c.min-n.result) c.scan.left (count_before c.args.bit xs c.args.from + c.args.k) c.marked_at-word.result c.place_of.result (omega arith) (omega arith) (omega arith)
    c.marked_at-word.ensures c.scan.invariant.before c.place_of.ensures.set c.place_of.ensures.before

pub scan-preserved : goal.scan-preserved
scan-preserved g c =
    let v = c.args.view in
    let xs = list_of v in
    let size = view_length v in
    let at = c.scan.at in
    record {
      within = omega arith;
      before = counted_more c.args.bit xs at (at + c.min-n.result) c.scan.left (count_before c.args.bit xs c.args.from + c.args.k) c.marked_at-word.result (omega arith) (omega arith) c.marked_at-word.ensures c.scan.invariant.before (omega arith);
    }

pub returns-then-left-count-clause-inside : goal.returns-then-left-count-clause-inside
returns-then-left-count-clause-inside g c =
    let inside = (returns-then-left-count-clause-some g c).inside in
    omega (arith, view_length c.args.view)
