use Rattle.std.proofs.Common.{◌≡◌, ◌++◌, take}
use Rattle.bit_portable.specs.Stored.{pieces_lent}
use Rattle.bit_portable.specs.Form.{data_bytes}
use Rattle.bit_portable.proofs.writing.push_all.Given as goal

abbrev pub invariant-loop-block : goal.invariant-loop-block
invariant-loop-block l = l.out.items ≡ l.fn.out.items ++ data_bytes (pieces_lent (take l.block-index l.blocks))
