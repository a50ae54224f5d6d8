use Rattle.std.proofs.Common.{refl, ◌∙◌, arith}
use Rattle.std.proofs.lemmas.Bool.{le-leb, lt-ltb}
use Rattle.bit_addressing.proofs.order.BitOrder.window.Goals as goal

pub returns : goal.returns
returns g c =
    let w = g.T.BitStore.BITS in
    let value = g.T.BitStore.value in
    let place = g.Self.BitOrder.place in
    let run = rw (c.new_unchecked-from.ensures, c.new_unchecked-upto.ensures, c.BITS.ensures) at c.with_run.ensures in
    λ i h. run i h ∙ rw (le-leb 0 i (omega arith), lt-ltb i w h) refl
