use Rattle.std.proofs.Common.{arith}
use Rattle.bit_addressing.specs.Typed.{row}
use Rattle.bit_addressing.proofs.lists.Shown.{shows_some, shows_none}
use Rattle.bit_containers.proofs.Vectors.{shown}
use Rattle.bit_containers.proofs.vec.BitVec.get.Goals as goal

pub returns-then-i-self : goal.returns-then-i-self
returns-then-i-self g c =
    let i = c.self.inside in
    let fits = shown g.T.BitStore g.O.BitOrder i.words.items i.head i.len g.met.T.BitStore.width c.self.invariant in
    rw (← c.self.view_is) (shows_some (row g.T.BitStore g.O.BitOrder i.words.items) i.head i.len c.args.i c.read_bit.result (omega arith) fits (rw (← c.as_slice.ensures.value) c.read_bit.ensures))

pub returns-else-i-self : goal.returns-else-i-self
returns-else-i-self g c =
    let i = c.self.inside in
    let fits = shown g.T.BitStore g.O.BitOrder i.words.items i.head i.len g.met.T.BitStore.width c.self.invariant in
    rw (← c.self.view_is) (shows_none (row g.T.BitStore g.O.BitOrder i.words.items) i.head i.len c.args.i (omega arith) fits)
