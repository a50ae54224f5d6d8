use Rattle.std.proofs.Common.{◌≡◌, ◌*◌, length, arith}
use Rattle.bit_addressing.specs.Typed.{row}
use Rattle.bit_rows.proofs.Finds.{none_after, first_after}
use Rattle.bit_addressing.proofs.Typed.{length_row}
use Rattle.bit_rows.proofs.searches.find_after.Goals as goal

pub returns-in_default : goal.returns-in_default
returns-in_default g c =
    let xs = row g.T.BitStore g.O.BitOrder c.args.words.now in
    let size : length xs ≡ g.T.BitStore.BITS * length c.args.words.now = length_row g.T.BitStore.value g.O.BitOrder.place g.T.BitStore.BITS c.args.words.now in
    let few = c.bits_passed-passed.ensures.few in
    none_after xs c.args.from c.bits_passed-passed.result c.args.upto c.args.bit (omega arith) (omega arith) c.bits_passed-passed.ensures.others c.in_default.ensures

pub returns : goal.returns
returns g c =
    let xs = row g.T.BitStore g.O.BitOrder c.args.words.now in
    let size : length xs ≡ g.T.BitStore.BITS * length c.args.words.now = length_row g.T.BitStore.value g.O.BitOrder.place g.T.BitStore.BITS c.args.words.now in
    let few = c.bits_passed-passed.ensures.few in
    first_after xs c.args.from c.bits_passed-passed.result c.args.upto c.args.bit (omega arith) (omega arith) c.bits_passed-passed.ensures.others c.in-Some.at c.in-Some.ensures
