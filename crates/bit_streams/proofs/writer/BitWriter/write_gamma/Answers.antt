use Rattle.std.proofs.Common.{◌≡◌, ◌+◌, ◌*◌, ◌++◌, length, sym, ◌∙◌, ap, rules, arith}
use Rattle.bit_addressing.specs.Row.{binary}
use Rattle.bit_rows.proofs.Binary.{length-binary}
use Rattle.bit_streams.specs.Codes.{gamma}
use Rattle.bit_streams.proofs.Steps.{refused_first}
use Rattle.bit_streams.proofs.Tops.{gamma_digits}
use Rattle.bit_streams.proofs.writer.BitWriter.write_gamma.Goals as goal

pub returns-in-Ok-clause-list : goal.returns-in-Ok-clause-list
returns-in-Ok-clause-list g c =
    let x = c.args.x in
    let code : binary (2 * c.top_of-top.result + 1) x ≡ gamma x = ap (λ t. binary (2 * t + 1) x) c.top_of-top.ensures.place ∙ gamma_digits x c.requires (search rules) in
    c.in-Ok.ensures.list ∙ ap (λ l. c.args.self.now.list ++ l) code

pub returns-in-Err-clause-refusal : goal.returns-in-Err-clause-refusal
returns-in-Err-clause-refusal g c =
    let x = c.args.x in
    let top = c.top_of-top.result in
    let code : binary (2 * top + 1) x ≡ gamma x = ap (λ t. binary (2 * t + 1) x) c.top_of-top.ensures.place ∙ gamma_digits x c.requires (search rules) in
    let size : length (gamma x) ≡ 2 * top + 1 = sym (ap length code) ∙ length-binary (2 * top + 1) x in
    refused_first c.in-Err.why (gamma x) (2 * top + 1) c.args.self.now c.write.new.self c.in-Err.ensures.refusal (omega arith)
