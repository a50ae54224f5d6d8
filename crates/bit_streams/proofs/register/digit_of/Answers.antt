use Rattle.std.proofs.Common.{[], ◌∷◌, true, false, sym, ◌∙◌, ap}
use Rattle.bit_streams.proofs.Lists.{bit_digit}
use Rattle.bit_streams.proofs.Lows.{lowest_digit}
use Rattle.bit_streams.proofs.register.digit_of.Goals as goal

pub returns-then-bit-clause-digits : goal.returns-then-bit-clause-digits
returns-then-bit-clause-digits c = bit_digit true ∙ ap (λ b. b ∷ []) (sym c.if-bit.true)

pub returns-then-bit-clause-lowest : goal.returns-then-bit-clause-lowest
returns-then-bit-clause-lowest c = lowest_digit true ∙ ap (λ b. b ∷ []) (sym c.if-bit.true)

pub returns-else-bit-clause-digits : goal.returns-else-bit-clause-digits
returns-else-bit-clause-digits c = bit_digit false ∙ ap (λ b. b ∷ []) (sym c.if-bit.false)

pub returns-else-bit-clause-lowest : goal.returns-else-bit-clause-lowest
returns-else-bit-clause-lowest c = lowest_digit false ∙ ap (λ b. b ∷ []) (sym c.if-bit.false)
