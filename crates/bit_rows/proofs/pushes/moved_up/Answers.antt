use Rattle.std.proofs.Common.{◌≡◌, ◌+◌, [], ◌∷◌, ◌∙◌, ap, arith}
use Rattle.bit_addressing.specs.Row.{row_bit}
use Rattle.bit_rows.proofs.Pushed.{after_zeros}
use Rattle.bit_rows.proofs.pushes.moved_up.Goals as goal

pub returns : goal.returns
returns g c = λ i h.
    let place = g.O.BitOrder.place in
    let at : c.new_unchecked.result + (c.args.low + i) ≡ 64 + i = omega (arith, c.new_unchecked.ensures, c.requires.some, c.requires.few) in
    c.window.ensures (c.args.low + i) (omega arith) ∙ ap (row_bit place 64 (0 ∷ c.args.block ∷ [])) at ∙ after_zeros place c.args.block i (omega arith)
