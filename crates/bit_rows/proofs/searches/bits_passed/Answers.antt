use Rattle.std.proofs.Common.{◌≡◌, ◌+◌, ◌*◌, length, arith}
use Rattle.bit_addressing.specs.Typed.{row}
use Rattle.bit_rows.proofs.Finds.{others_after}
use Rattle.bit_addressing.proofs.Typed.{length_row}
use Rattle.bit_rows.proofs.searches.bits_passed.Goals as goal

pub returns-clause-others : goal.returns-clause-others
returns-clause-others g c =
    let xs = row g.T.BitStore g.O.BitOrder c.args.words.now in
    let size : length xs ≡ g.T.BitStore.BITS * length c.args.words.now = length_row g.T.BitStore.value g.O.BitOrder.place g.T.BitStore.BITS c.args.words.now in
    let few = c.blocks_without-near.ensures.few in
    let most = c.bits_without.ensures.few in
    let last = c.blocks_without.ensures.few in
    let near = c.blocks_without-near.result * 64 in
    let middle = c.bits_without.result in
    others_after xs c.args.from (near + middle) (c.blocks_without.result * 64) c.args.bit (omega arith)
    (others_after xs c.args.from near middle c.args.bit (omega arith) c.blocks_without-near.ensures.others c.bits_without.ensures.others) c.blocks_without.ensures.others
