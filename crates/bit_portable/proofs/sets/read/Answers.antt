use Rattle.std.proofs.Common.{sym, arith}
use Rattle.std.specs.Global.{Vec}
use Rattle.bit_blocks.specs.declared.keyed.Keyed.{Keyed}
use Rattle.bit_portable.proofs.Told.{fault_tells}
use Rattle.std.proofs.lemmas.Result.{err_from_is_err_and}
use Rattle.bit_portable.specs.Stored.{pieces_of}
use Rattle.bit_portable.specs.Keyed.{all_numbered}
use Rattle.bit_portable.proofs.Portable.{all_read, are_blocks, back_of, still_fails, written_good}
use Rattle.bit_portable.proofs.sets.read.Goals as goal

pub all_keyed-requires : goal.all_keyed-requires
all_keyed-requires c = written_good c.args.bytes.now c.in_ok-stored.stored.items c.in_ok-stored.ensures.found

pub returns-in_err-stored-clause-only : goal.returns-in_err-stored-clause-only
returns-in_err-stored-clause-only c = λ bs written.
    let p = err_from_is_err_and c.from_residual.result c.from_residual.ensures.1 in
    rw (p.1, p.2) (still_fails c.in_err-stored.field-0.0 written.0 bs (c.in_err-stored.ensures.only written.0 written.1))

pub returns-in_err-stored-clause-back : goal.returns-in_err-stored-clause-back
returns-in_err-stored-clause-back c = λ with_runs bs h e.
    let written = back_of c.args.bytes.now with_runs bs h e in
    let p = err_from_is_err_and c.from_residual.result c.from_residual.ensures.1 in
    rw (p.1, p.2) (still_fails c.in_err-stored.field-0.0 written.0 bs (c.in_err-stored.ensures.only written.0 written.1))

pub returns-in_err-stored-clause-fault : goal.returns-in_err-stored-clause-fault
returns-in_err-stored-clause-fault c =
    let p = err_from_is_err_and c.from_residual.result c.from_residual.ensures.1 in
    rw (p.1, p.2) (fault_tells (Vec Keyed) c.args.bytes.now c.in_err-stored.field-0.0 (λ i. omega (arith, c.type_inv.bytes i)) c.in_err-stored.ensures.exact)

pub returns-clause-blocks : goal.returns-clause-blocks
returns-clause-blocks c =
    let stored = pieces_of c.in_ok-stored.stored.items in
    are_blocks c.args.bytes.now (all_numbered c.in_ok-blocks.blocks.items) (stored, c.in_ok-stored.ensures.found, sym c.in_ok-blocks.ensures)

pub returns-clause-only : goal.returns-clause-only
returns-clause-only c = λ bs written.
    all_read written.0 (pieces_of c.in_ok-stored.stored.items) bs (all_numbered c.in_ok-blocks.blocks.items) (c.in_ok-stored.ensures.only written.0 written.1) written.2 c.in_ok-blocks.ensures

pub returns-clause-back : goal.returns-clause-back
returns-clause-back c = λ with_runs bs h e.
    let written = back_of c.args.bytes.now with_runs bs h e in
    all_read written.0 (pieces_of c.in_ok-stored.stored.items) bs (all_numbered c.in_ok-blocks.blocks.items) (c.in_ok-stored.ensures.only written.0 written.1) written.2 c.in_ok-blocks.ensures
