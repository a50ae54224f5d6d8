use Rattle.std.proofs.Common.{◌≡◌, length, take}
use Rattle.bit_frames.specs.Serving.{HaveServed}
use Rattle.bit_frames.proofs.free_map.FreeMap.serve.Given as goal

abbrev pub invariant-loop-i : goal.invariant-loop-i
invariant-loop-i l = record {
  size : length l.replies.items ≡ length l.requests;
  served : HaveServed l.fn.self (take l.i l.requests) (take l.i l.replies.items) l.self;
}
