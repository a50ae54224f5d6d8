use Rattle.std.proofs.Common.{ap}
use Rattle.std.specs.Prelude.{Ok}
use Rattle.std.proofs.lemmas.Result.{err_from_is_err_and}
use Rattle.bit_roaring.specs.Bytes.{blocks_of}
use Rattle.bit_roaring.proofs.Bytes.{blocks_whole, fails_read, read_back}
use Rattle.bit_roaring.proofs.set.RoaringSet.from_bytes.Goals as goal

pub returns-clause-only : goal.returns-clause-only
returns-clause-only c numbers up form = ap Ok (read_back c.in_ok-blocks.blocks.items numbers (c.in_ok-blocks.ensures.only (blocks_of numbers) form))

pub returns-clause-back : goal.returns-clause-back
returns-clause-back c with_runs numbers up written = ap Ok (read_back c.in_ok-blocks.blocks.items numbers (c.in_ok-blocks.ensures.back with_runs (blocks_of numbers) (blocks_whole numbers up) written))

pub returns-in_err-blocks-clause-only : goal.returns-in_err-blocks-clause-only
returns-in_err-blocks-clause-only c = λ numbers up form.
    let p = err_from_is_err_and c.from_residual.result c.from_residual.ensures.1 in
    rw (p.1, p.2) (fails_read c.in_err-blocks.field-0.0 (blocks_of numbers) numbers (c.in_err-blocks.ensures.only (blocks_of numbers) form))

pub returns-in_err-blocks-clause-back : goal.returns-in_err-blocks-clause-back
returns-in_err-blocks-clause-back c = λ with_runs numbers up written.
    let p = err_from_is_err_and c.from_residual.result c.from_residual.ensures.1 in
    rw (p.1, p.2) (fails_read c.in_err-blocks.field-0.0 (blocks_of numbers) numbers (c.in_err-blocks.ensures.back with_runs (blocks_of numbers) (blocks_whole numbers up) written))
