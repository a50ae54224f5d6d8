use Rattle.std.proofs.Common.{◌≡◌, ◌+◌, ◌*◌, length, slice_range, sym, ◌∙◌, ap, arith}
use Rattle.bit_addressing.specs.Row.{put}
use Rattle.bit_addressing.specs.Typed.{row}
use Rattle.bit_rows.proofs.Combinations.{second_bits}
use Rattle.bit_addressing.proofs.lists.Shown.{length-run}
use Rattle.bit_addressing.proofs.Typed.{length_row}
use Rattle.bit_rows.proofs.copies.copy_bits.Goals as goal

pub returns-clause-bits : goal.returns-clause-bits
returns-clause-bits g c =
    let old = row g.T.BitStore g.O.BitOrder c.args.words.now in
    let zs = row g.U.BitStore g.P.BitOrder c.args.source.now in
    let size : length old ≡ g.T.BitStore.BITS * length c.args.words.now = length_row g.T.BitStore.value g.O.BitOrder.place g.T.BitStore.BITS c.args.words.now in
    let long : length zs ≡ g.U.BitStore.BITS * length c.args.source.now = length_row g.U.BitStore.value g.P.BitOrder.place g.U.BitStore.BITS c.args.source.now in
    let left = length-run old c.args.at c.args.n (omega arith) in
    let right = length-run zs c.args.from c.args.n (omega arith) in
    c.combine_bits.ensures.bits ∙ ap (put old c.args.at) (second_bits (slice_range old c.args.at (c.args.at + c.args.n)) (slice_range zs c.args.from (c.args.from + c.args.n)) (left ∙ sym right))
