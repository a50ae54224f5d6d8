use Rattle.std.proofs.Common.{ℕ, ◌≡◌, ◌-◌, ◌+◌, take, drop, ap, arith}
use Rattle.bit_portable.proofs.Bytes.{flags_begun, flags_done, flags_next}
use Rattle.bit_portable.proofs.writing.push_flags.Goals as goal

pub loop-from-init : goal.loop-from-init
loop-from-init c = flags_begun c.args.out.now.items c.args.blocks.now

pub loop-from-preserved : goal.loop-from-preserved
loop-from-preserved c =
    let blocks = c.args.blocks.now in
    let from = c.loop-from.from in
    let same : from + c.min-count.result - from ≡ c.min-count.result = omega arith in
    flags_next c.args.out.now.items c.loop-from.out.items c.push.new.self.items blocks _ from c.min-count.result c.flag_byte.result c.loop-from.invariant c.loop-from-test.true
    c.min-count.ensures (ap (λ (n : ℕ). take n (drop from blocks)) same) c.flag_byte.ensures.value c.in_ok-push.ensures.items

pub returns : goal.returns
returns c = record { appended = flags_done c.args.out.now.items c.loop-from.out.items c.args.blocks.now c.loop-from.from c.loop-from.invariant c.loop-from-test.false }
