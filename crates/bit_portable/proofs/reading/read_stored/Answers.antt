use Rattle.std.proofs.Common.{subst, arith}
use Rattle.bit_portable.specs.Stored.{pieces_of}
use Rattle.bit_portable.specs.Reading.{Gives}
use Rattle.bit_portable.proofs.Told.{result_tells}
use Rattle.bit_portable.proofs.Whole.{is_found, is_read}
use Rattle.bit_portable.proofs.reading.read_stored.Goals as goal

pub returns-clause-found : goal.returns-clause-found
returns-clause-found c = is_found c.args.bytes.now c.all_of.result (λ i. omega (arith, c.type_inv.bytes i)) c.all_of.ensures

pub returns-clause-only : goal.returns-clause-only
returns-clause-only c = λ ps written. subst (Gives (λ v. pieces_of v.items) c.all_of.result) (is_read c.args.bytes.now ps written) c.all_of.ensures

pub returns-clause-fault : goal.returns-clause-fault
returns-clause-fault c = result_tells c.args.bytes.now c.all_of.result (λ i. omega (arith, c.type_inv.bytes i)) c.all_of.ensures
