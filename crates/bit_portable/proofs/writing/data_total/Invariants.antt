use Rattle.std.proofs.Common.{◌≡◌, ◌+◌, length, drop}
use Rattle.bit_portable.specs.Stored.{pieces_lent}
use Rattle.bit_portable.specs.Form.{data_bytes}
use Rattle.bit_portable.proofs.writing.data_total.Given as goal

abbrev pub invariant-loop-block : goal.invariant-loop-block
invariant-loop-block l = l.total + length (data_bytes (pieces_lent (drop l.block-index l.blocks))) ≡ length (data_bytes (pieces_lent l.blocks))
