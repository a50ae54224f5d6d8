use Rattle.std.proofs.Common.{◌+◌, ◌-◌, ◌∙◌, ap, arith}
use Rattle.bit_addressing.specs.Row.{moved}
use Rattle.bit_addressing.specs.Typed.{row}
use Rattle.bit_slice.proofs.Overwritten.{moved_within}
use Rattle.bit_slice.proofs.over.move_within_over.Goals as goal

pub returns-clause-moved : goal.returns-clause-moved
returns-clause-moved g c =
    let old = c.args.words.now in
    let head = c.args.head in
    let dest = c.args.dest in
    let bits = row g.T.BitStore g.O.BitOrder old in
    let s = g.R.RangeExt.start_of c.args.range in
    let e = g.R.RangeExt.end_of c.args.range c.args.len in
    moved_within g.T.BitStore g.O.BitOrder old _ head c.args.len g.met.T.BitStore.width c.requires.within c.move_bits_counted.ensures.size s dest (e - s) (omega (arith, c.requires.lies)) c.requires.room
    (c.move_bits_counted.ensures.bits
    ∙ ap (λ k. moved bits (head + k) (head + dest) (c.normalize-range.result.end - k)) c.normalize-range.ensures.start
    ∙ ap (λ k. moved bits (head + s) (head + dest) (k - s)) c.normalize-range.ensures.end)
