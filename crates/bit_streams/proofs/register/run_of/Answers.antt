use Rattle.std.proofs.Common.{replicate, sym, ◌∙◌, ap}
use Rattle.bit_streams.proofs.Zeros.{zeros_of, ones_of}
use Rattle.bit_streams.proofs.register.run_of.Goals as goal

pub returns-then-bit : goal.returns-then-bit
returns-then-bit c = ones_of c.args.n c.requires ∙ ap (replicate c.args.n) (sym c.if-bit.true)

pub returns-else-bit : goal.returns-else-bit
returns-else-bit c = zeros_of c.args.n c.requires ∙ ap (replicate c.args.n) (sym c.if-bit.false)
