use Rattle.std.proofs.Common.{[], refl, sym, ◌∙◌}
use Rattle.bit_addressing.proofs.Reverse.{turned_down, turned_up, turn_32, turn_16, turn_8, narrowest}
use Rattle.bit_addressing.proofs.order.turned.Goals as goal

pub returns-then-BITS-eq64-clause-packed : goal.returns-then-BITS-eq64-clause-packed
returns-then-BITS-eq64-clause-packed g c = turned_down g.T.BitStore.BITS 64 [] c.args.block (sym c.BITS.ensures ∙ c.if-BITS-eq64.true) refl

pub returns-then-BITS-eq64-clause-unpacked : goal.returns-then-BITS-eq64-clause-unpacked
returns-then-BITS-eq64-clause-unpacked g c = turned_up g.T.BitStore.BITS 64 [] c.args.block (sym c.BITS.ensures ∙ c.if-BITS-eq64.true) refl

pub returns-then-BITS-eq32-clause-packed : goal.returns-then-BITS-eq32-clause-packed
returns-then-BITS-eq32-clause-packed g c = turned_down g.T.BitStore.BITS 32 turn_32 c.args.block (sym c.BITS-2.ensures ∙ c.if-BITS-eq32.true) refl

pub returns-then-BITS-eq32-clause-unpacked : goal.returns-then-BITS-eq32-clause-unpacked
returns-then-BITS-eq32-clause-unpacked g c = turned_up g.T.BitStore.BITS 32 turn_32 c.args.block (sym c.BITS-2.ensures ∙ c.if-BITS-eq32.true) refl

pub returns-then-BITS-eq16-clause-packed : goal.returns-then-BITS-eq16-clause-packed
returns-then-BITS-eq16-clause-packed g c = turned_down g.T.BitStore.BITS 16 turn_16 c.args.block (sym c.BITS-3.ensures ∙ c.if-BITS-eq16.true) refl

pub returns-then-BITS-eq16-clause-unpacked : goal.returns-then-BITS-eq16-clause-unpacked
returns-then-BITS-eq16-clause-unpacked g c = turned_up g.T.BitStore.BITS 16 turn_16 c.args.block (sym c.BITS-3.ensures ∙ c.if-BITS-eq16.true) refl

pub returns-clause-packed : goal.returns-clause-packed
returns-clause-packed g c = turned_down g.T.BitStore.BITS 8 turn_8 c.args.block (narrowest g.T.BitStore.BITS g.met.T.BitStore.width (λ e. c.if-BITS-eq64.false (c.BITS.ensures ∙ e)) (λ e. c.if-BITS-eq32.false (c.BITS-2.ensures ∙ e)) (λ e. c.if-BITS-eq16.false (c.BITS-3.ensures ∙ e))) refl

pub returns-clause-unpacked : goal.returns-clause-unpacked
returns-clause-unpacked g c = turned_up g.T.BitStore.BITS 8 turn_8 c.args.block (narrowest g.T.BitStore.BITS g.met.T.BitStore.width (λ e. c.if-BITS-eq64.false (c.BITS.ensures ∙ e)) (λ e. c.if-BITS-eq32.false (c.BITS-2.ensures ∙ e)) (λ e. c.if-BITS-eq16.false (c.BITS-3.ensures ∙ e))) refl
