use Rattle.std.proofs.Common.{arith}
use Rattle.bit_streams.proofs.Longest.{longest_fits, longest_found}
use Rattle.bit_streams.proofs.reader.BitReader.read_longest.Goals as goal

pub returns-else-upper-gt255-clause-found : goal.returns-else-upper-gt255-clause-found
returns-else-upper-gt255-clause-found g c =
    let some = c.if-upper-eq0.false in
    let few = c.if-upper-gt255.false in
    longest_found c.args.self.now.rest c.read.new.self.rest c.read_bytes.new.self.rest c.in-Some.block c.in-Some-marked_in.low c.in-Ok.upper c.in-Some-marked_in.ensures.code c.in-Some-marked_in.ensures.below (omega arith) (omega arith) c.in-Some.ensures.digits c.in-Ok.ensures.found

pub returns-else-upper-gt255-clause-below : goal.returns-else-upper-gt255-clause-below
returns-else-upper-gt255-clause-below g c =
    let few = c.if-upper-gt255.false in
    let fits = longest_fits c.in-Some-marked_in.low c.in-Ok.upper c.in-Some-marked_in.ensures.below (omega arith) in
    let whole = fits.0 in
    let below = fits.1 in
    omega arith

pub overflow_add-result : goal.overflow_add-result
overflow_add-result g c =
    let few = c.if-upper-gt255.false in
    let fits = longest_fits c.in-Some-marked_in.low c.in-Ok.upper c.in-Some-marked_in.ensures.below (omega arith) in
    let whole = fits.0 in
    let below = fits.1 in
    omega arith
