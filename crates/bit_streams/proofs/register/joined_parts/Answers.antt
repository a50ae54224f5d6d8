use Rattle.std.proofs.Common.{◌≡◌, ◌+◌, ◌-◌, ◌/◌, ◌%◌, ◌^◌, ◌++◌, append_assoc, sym, ◌∙◌, ap, arith}
use Rattle.bit_addressing.specs.Row.{binary}
use Rattle.bit_rows.proofs.Binary.{binary_parted}
use Rattle.bit_streams.proofs.register.joined_parts.Goals as goal

pub returns-clause-digits : goal.returns-clause-digits
returns-clause-digits c =
    let n = c.args.n in
    let x = c.args.x in
    let left = c.args.bits - n in
    let front = binary c.args.count c.args.pending in
    let within = c.requires.within in
    let split : c.args.bits ≡ n + left = omega arith in
    ap (λ l. front ++ l) (ap (λ k. binary k x) split ∙ binary_parted n left x) ∙ sym (append_assoc front (binary n (x / 2 ^ left)) (binary left (x % 2 ^ left)))
    ∙ ap (λ l. l ++ binary left (x % 2 ^ left)) (sym c.joined_any.ensures.digits) ∙ ap (λ k. binary (c.args.count + n) c.joined_any.result ++ binary left k) (sym c.low_digits.ensures)
