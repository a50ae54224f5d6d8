use Rattle.std.proofs.Common.{◌≡◌, take}
use Rattle.bit_portable.specs.Stored.{pieces_lent}
use Rattle.bit_portable.specs.Keyed.{all_numbered}
use Rattle.bit_portable.specs.Portable.{pieces_for}
use Rattle.bit_portable.proofs.sets.all_parts.Given as goal

abbrev pub invariant-loop-keyed : goal.invariant-loop-keyed
invariant-loop-keyed l = pieces_lent l.all.items ≡ pieces_for l.with_runs (all_numbered (take l.keyed-index l.blocks))
