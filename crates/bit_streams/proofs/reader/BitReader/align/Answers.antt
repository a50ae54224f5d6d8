use Rattle.std.proofs.Common.{◌≡◌, ◌+◌, ◌-◌, ◌%◌, sym, ◌∙◌, ap, arith}
use Rattle.bit_streams.proofs.Lists.{passed_at}
use Rattle.bit_streams.proofs.Zeros.{aligned_at, some_pad}
use Rattle.bit_streams.proofs.reader.BitReader.align.Goals as goal

pub returns-in-Some-clause-aligned : goal.returns-in-Some-clause-aligned
returns-in-Some-clause-aligned g c =
    let p = c.args.self.now.position in
    let m = c.args.multiple in
    ap (λ k. k % m) (c.in-Some.ensures.passed.position ∙ ap (λ k. p + (m - k % m)) c.position.ensures) ∙ aligned_at p m c.requires

pub returns-in-Some-clause-passed : goal.returns-in-Some-clause-passed
returns-in-Some-clause-passed g c =
    let p = c.args.self.now.position in
    let m = c.args.multiple in
    let over : c.position.result % m ≡ p % m = ap (λ k. k % m) c.position.ensures in
    let there = c.if-over-eq0.false in
    passed_at (m - c.position.result % m) ((m - p % m) % m) c.args.self.now c.skip.new.self (sym (some_pad p m (c.position.result % m) c.requires over (omega arith))) c.in-Some.ensures.passed
