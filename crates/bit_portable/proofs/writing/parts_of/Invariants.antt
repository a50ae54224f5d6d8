use Rattle.std.proofs.Common.{◌≡◌, take}
use Rattle.bit_portable.specs.Stored.{pieces_lent, pieces_of}
use Rattle.bit_portable.proofs.writing.parts_of.Given as goal

abbrev pub invariant-loop-block : goal.invariant-loop-block
invariant-loop-block l = pieces_lent l.parts.items ≡ pieces_of (take l.block-index l.blocks)
