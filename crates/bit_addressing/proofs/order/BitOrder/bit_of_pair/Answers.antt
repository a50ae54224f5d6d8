use Rattle.std.proofs.Common.{arith}
use Rattle.bit_addressing.proofs.Windows.{first_of_two, second_of_two}
use Rattle.bit_addressing.proofs.order.BitOrder.bit_of_pair.Goals as goal

pub returns-then-j-BITS : goal.returns-then-j-BITS
returns-then-j-BITS g c = cc (first_of_two g.Self.BitOrder.place g.T.BitStore.BITS (g.T.BitStore.value c.args.low) (g.T.BitStore.value c.args.high) c.args.j (omega arith))

pub returns-else-j-BITS : goal.returns-else-j-BITS
returns-else-j-BITS g c =
    let high = second_of_two g.Self.BitOrder.place g.T.BitStore.BITS (g.T.BitStore.value c.args.low) (g.T.BitStore.value c.args.high) c.args.j (omega arith) (omega arith) in
    cc
