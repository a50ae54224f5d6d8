use Rattle.std.proofs.Common.{◌≡◌, ◌++◌, take}
use Rattle.std.specs.List.{flat_map}
use Rattle.bit_portable.specs.Stored.{head_bytes, pieces_lent}
use Rattle.bit_portable.specs.Form.{heads_of}
use Rattle.bit_portable.proofs.writing.push_heads.Given as goal

abbrev pub invariant-loop-block : goal.invariant-loop-block
invariant-loop-block l = l.out.items ≡ l.fn.out.items ++ flat_map head_bytes (heads_of (pieces_lent (take l.block-index l.blocks)))
