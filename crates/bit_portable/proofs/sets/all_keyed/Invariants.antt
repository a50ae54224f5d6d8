use Rattle.std.proofs.Common.{◌≡◌, map}
use Rattle.bit_portable.specs.Stored.{pieces_of}
use Rattle.bit_portable.specs.Keyed.{all_numbered}
use Rattle.bit_portable.specs.Portable.{numbered_of}
use Rattle.bit_portable.proofs.sets.all_keyed.Given as goal

abbrev pub invariant-loop-one : goal.invariant-loop-one
invariant-loop-one l = all_numbered l.blocks.items ≡ map numbered_of (pieces_of l.yielded)
