use Rattle.std.proofs.Common.{◌∷◌, length, subst, ap, arith}
use Rattle.bit_slice.specs.Indices.{ones_left}
use Rattle.bit_ranks.specs.Fits.{FitFrom}
use Rattle.bit_ranks.proofs.Parts.{fit_rest}
use Rattle.bit_ranks.proofs.ones.OnesFromIterator.next.Goals as goal

pub invariant_of-self-in-Some : goal.invariant_of-self-in-Some
invariant_of-self-in-Some g c =
    let s = c.args.self.now in
    let step = c.in-Some.ensures.steps in
    record {
      fits = fit_rest s.base c.in-Some.index (ones_left s.ones) (ones_left c.next.new.self) s.fits step;
      count = (let count = s.count in let size = ap length step in omega arith);
    }

pub overflow_add-result : goal.overflow_add-result
overflow_add-result g c =
    let s = c.args.self.now in
    let fits : FitFrom s.base (c.in-Some.index ∷ ones_left c.next.new.self) = subst (FitFrom s.base) c.in-Some.ensures.steps s.fits in
    let here = fits.each 0 (omega arith) in
    omega arith
