use Rattle.std.proofs.Common.{◌+◌, slice_range, ◌∙◌, ap, arith}
use Rattle.bit_addressing.specs.Typed.{row}
use Rattle.bit_addressing.proofs.Blocks.{last_block, stands}
use Rattle.bit_addressing.proofs.Rows.{width_positive}
use Rattle.bit_rows.proofs.chunks.block_after.Goals as goal

pub overflow_mul-t : goal.overflow_mul-t
overflow_mul-t g c = let below = last_block c.args.k c.args.t c.BITS.ensures (width_positive g.U.BitStore.BITS g.met.U.BitStore.width) c.requires.words in omega arith

pub overflow_add-k : goal.overflow_add-k
overflow_add-k g c = let below = last_block c.args.k c.args.t c.BITS.ensures (width_positive g.U.BitStore.BITS g.met.U.BitStore.width) c.requires.words in omega arith

pub block_at-requires-clause-words : goal.block_at-requires-clause-words
block_at-requires-clause-words g c = rw c.BITS.ensures c.requires.words

pub returns : goal.returns
returns g c = c.block_at.ensures ∙ ap (λ n. slice_range (row g.U.BitStore g.P.BitOrder c.args.source.now) n (n + 64)) (stands g.U.BitStore.BITS c.BITS.result c.args.k c.args.skip c.args.t g.met.U.BitStore.width c.BITS.ensures)
