use Rattle.std.proofs.Common.{◌≡◌, ◌+◌, ◌-◌, ◌≤◌, ap, length, replicate, sym, true, ◌∙◌, arith, slice_get}
use Rattle.bit_addressing.specs.Row.{put}
use Rattle.bit_addressing.proofs.lists.Put.{put_none}
use Rattle.bit_slice.proofs.Ranges.{read_filled}
use Rattle.bit_frames.proofs.Frames.{marked_length, run_inside}
use Rattle.bit_frames.proofs.free_map.FreeMap.reserve.Goals as goal

pub returns-then-start-end-clause-list : goal.returns-then-start-end-clause-list
returns-then-start-end-clause-list c =
    let none : c.args.frames.end - c.args.frames.start ≡ 0 = (let h = c.if-start-end.true in omega arith) in
    sym (ap (λ n. put c.args.self.now c.args.frames.start (replicate n true)) none ∙ put_none c.args.self.now c.args.frames.start)

inside : (c : goal.After-mark_taken) → c.args.frames.start + (c.args.frames.end - c.args.frames.start) ≤ length c.args.self.now
inside c = run_inside c.args.self.now (c.args.frames.end - c.args.frames.start) c.args.frames.start (let h = c.if-start-end.false in omega arith) (c.is_run_free.ensures.0 c.if-not-is_run_free.false)

pub mark_taken-requires-clause-inside : goal.mark_taken-requires-clause-inside
mark_taken-requires-clause-inside c = run_inside c.args.self.now (c.args.frames.end - c.args.frames.start) c.args.frames.start (let h = c.if-start-end.false in omega arith) (c.is_run_free.ensures.0 c.if-not-is_run_free.false)

pub returns-clause-inside : goal.returns-clause-inside
returns-clause-inside c some = let h = inside c in omega arith

pub returns-clause-frames : goal.returns-clause-frames
returns-clause-frames c = ap length c.mark_taken.ensures ∙ marked_length c.args.self.now c.args.frames.start (c.args.frames.end - c.args.frames.start) true (inside c)

pub returns-clause-now : goal.returns-clause-now
returns-clause-now c j low high =
    let count = c.args.frames.end - c.args.frames.start in
    ap (λ l. slice_get l j) c.mark_taken.ensures ∙ read_filled c.args.self.now c.args.frames.start count true (inside c) j low (omega arith)
