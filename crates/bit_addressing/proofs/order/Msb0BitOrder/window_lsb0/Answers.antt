use Rattle.std.proofs.Common.{◌∙◌}
use Rattle.bit_addressing.proofs.order.Msb0BitOrder.window_lsb0.Goals as goal

pub returns : goal.returns
returns g c = λ i h. c.reverse.ensures i h ∙ c.window.ensures i h
