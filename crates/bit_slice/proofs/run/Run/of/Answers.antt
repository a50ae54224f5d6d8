use Rattle.std.proofs.Common.{◌+◌, ◌/◌, ◌≤◌, arith, rules}
use Rattle.bit_addressing.proofs.Rows.{width_positive}
use Rattle.bit_slice.proofs.Parts.{run_end}
use Rattle.bit_slice.proofs.run.Run.of.Goals as goal

pub overflow_add-result : goal.overflow_add-result
overflow_add-result g c =
    let there : c.args.from / c.BITS-width.result + c.elts.result ≤ c.args.upto = rw (c.elts.ensures.value, c.BITS-width.ensures) (run_end g.T.BitStore.BITS c.args.from c.args.upto (width_positive g.T.BitStore.BITS g.met.T.BitStore.width) c.requires.ordered) in
    search (rules, there)

pub returns-clause-end_fits : goal.returns-clause-end_fits
returns-clause-end_fits g c =
    let there : c.args.from / c.BITS-width.result + c.elts.result ≤ c.args.upto = rw (c.elts.ensures.value, c.BITS-width.ensures) (run_end g.T.BitStore.BITS c.args.from c.args.upto (width_positive g.T.BitStore.BITS g.met.T.BitStore.width) c.requires.ordered) in
    omega (arith, there, c.ranges.upto.fits)
