use Rattle.std.proofs.Common.{◌≡◌, ◌+◌, ◌-◌, ◌%◌, ◌++◌, length, replicate, sym, ◌∙◌, ap, arith}
use Rattle.bit_streams.proofs.Zeros.{aligned_at, some_pad}
use Rattle.bit_streams.proofs.writer.BitWriter.align.Goals as goal

pub returns-in-Ok-clause-aligned : goal.returns-in-Ok-clause-aligned
returns-in-Ok-clause-aligned g c =
    let l = length c.args.self.now.list in
    let m = c.args.multiple in
    ap (λ k. k % m) (c.in-Ok.ensures.len ∙ ap (λ k. l + (m - k % m)) c.len.ensures.value) ∙ aligned_at l m c.requires.some

pub returns-in-Ok-clause-list : goal.returns-in-Ok-clause-list
returns-in-Ok-clause-list g c =
    let old = c.args.self.now.list in
    let m = c.args.multiple in
    let over : c.len.result % m ≡ length old % m = ap (λ k. k % m) c.len.ensures.value in
    let there = c.if-over-eq0.false in
    c.in-Ok.ensures.list ∙ ap (λ l. old ++ l) c.run_of.ensures
    ∙ ap (λ k. old ++ replicate k c.args.bit) (sym (some_pad (length old) m (c.len.result % m) c.requires.some over (omega arith)))
