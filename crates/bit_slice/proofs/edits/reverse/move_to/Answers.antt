use Rattle.std.proofs.Common.{sym, ◌∙◌, ap}
use Rattle.bit_addressing.specs.Row.{moved}
use Rattle.bit_addressing.specs.Typed.{row}
use Rattle.bit_slice.proofs.Clean.{moved_nowhere}
use Rattle.bit_slice.proofs.edits.reverse.move_to.Goals as goal

pub returns-else-from-at-clause-bits : goal.returns-else-from-at-clause-bits
returns-else-from-at-clause-bits g c =
    let xs = row g.T.BitStore g.O.BitOrder c.args.words.now in
    sym (moved_nowhere xs c.args.from c.args.n) ∙ ap (λ d. moved xs c.args.from d c.args.n) c.if-from-at.false
