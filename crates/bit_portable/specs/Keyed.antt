-- Blocks with keys, as contracts see them.
use Rattle.std.specs.Prelude.{List, map}
use Rattle.bit_blocks.specs.declared.keyed.Keyed.{Keyed}
use Rattle.bit_portable.specs.Portable.{Numbered}

-- the key of a block, and its numbers
abbrev pub numbered : Keyed → Numbered
numbered k = record { key = k.key; numbers = k.block }

-- the same of several blocks
abbrev pub all_numbered : List Keyed → List Numbered
all_numbered ks = map numbered ks
