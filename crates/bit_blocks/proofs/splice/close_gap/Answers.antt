use Rattle.std.proofs.Common.{◌∙◌, arith}
use Rattle.bit_blocks.proofs.Spliced.{all_closed}
use Rattle.bit_blocks.proofs.splice.close_gap.Goals as goal

pub returns : goal.returns
returns g c =
    let xs = c.args.items.now in
    let size = xs.ok.0 in
    let count = c.len-count.ensures in
    let past = c.loop-i-test.false in
    c.truncate.ensures.items ∙ all_closed xs.items c.loop-i.items.items c.args.from c.args.upto c.loop-i.i _ c.requires.ordered c.requires.within (omega arith) (omega arith) c.loop-i.invariant
