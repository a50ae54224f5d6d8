use Rattle.std.proofs.Common.{◌+◌, arith}
use Rattle.bit_frames.proofs.Passed.{next_from, none_passed}
use Rattle.bit_frames.proofs.free_map.FreeMap.find_next_fit.Goals as goal

pub scan-preserved : goal.scan-preserved
scan-preserved c =
    let map = c.args.self.now in
    let after = c.after_taken-start.ensures in
    record {
      begins = omega (arith, c.scan.invariant.begins, after.later);
      inside = omega (arith, c.scan.invariant.inside, c.scan-test.true);
      none = none_passed map c.args.from c.args.count c.requires c.scan.start (c.scan.at + 64) c.after_taken-start.result after.taken c.scan.invariant.none c.in_default.ensures;
    }

pub returns : goal.returns
returns c =
    let before = c.scan.invariant in
    next_from c.args.self.now c.args.from c.args.count c.requires c.scan.start c.frames-frames.result c.fit_within-2.result c.frames-frames.ensures before.begins before.none c.fit_within-2.ensures
