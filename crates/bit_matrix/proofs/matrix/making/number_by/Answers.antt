use Rattle.std.proofs.Common.{◌≡◌, ◌+◌, refl, sym, subst, arith}
use Rattle.bit_addressing.specs.Row.{number_bits}
use Rattle.bit_rows.proofs.Binary.{length-number_bits, number_bits_none}
use Rattle.bit_slice.specs.Closures.{ResultsFrom}
use Rattle.bit_slice.proofs.Called.{results_more}
use Rattle.bit_matrix.proofs.matrix.making.number_by.Goals as goal

pub loop-i-init : goal.loop-i-init
loop-i-init g c = subst (λ l. ResultsFrom (λ s j given t. goal.F-step g s c.args.row j given t) c.args.f.now c.args.from l c.args.f.now) (sym (number_bits_none 0)) refl

pub loop-i-preserved : goal.loop-i-preserved
loop-i-preserved g c =
    let at = c.loop-i in
    let size = length-number_bits at.number at.i in
    subst (λ l. ResultsFrom (λ s j given t. goal.F-step g s c.args.row j given t) c.args.f.now c.args.from l c.f-bit.new.self) (sym c.with_next-number.ensures)
    (results_more (λ s j given t. goal.F-step g s c.args.row j given t) c.args.f.now c.args.from (number_bits at.number at.i) at.f (c.args.from + at.i) c.f-bit.result _ at.invariant c.f-bit.ensures (omega (arith, size)))

pub f-bit-requires : goal.f-bit-requires
f-bit-requires g c =
    let at = c.loop-i in
    let size = length-number_bits at.number at.i in
    c.requires.callable.at (number_bits at.number at.i) at.f (c.args.from + at.i) (omega (arith, size)) (omega (arith, c.loop-i-test.true)) at.invariant

pub returns : goal.returns
returns g c =
    let end : c.loop-i.i ≡ c.args.n = omega (arith, c.loop-i-test.false, c.loop-i.auto.i-end) in
    subst (λ k. ResultsFrom (λ s j given t. goal.F-step g s c.args.row j given t) c.args.f.now c.args.from (number_bits c.loop-i.number k) c.loop-i.f) end c.loop-i.invariant
