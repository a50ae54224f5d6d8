use Rattle.std.proofs.Common.{◌≡◌, ◌++◌, sym, ◌∙◌, ap, arith}
use Rattle.std.proofs.lemmas.Result.{on_ok_weaker}
use Rattle.std.proofs.lemmas.Grind.{common_steps}
use Rattle.bit_addressing.specs.Row.{binary}
use Rattle.bit_slice.specs.BitSlice.{len_of, list_of}
use Rattle.bit_streams.proofs.writer.BitWriter.write_bits.Goals as goal

pub returns-then-len-le64-clause-list : goal.returns-then-len-le64-clause-list
returns-then-len-le64-clause-list g c =
    let size : len_of c.args.bits ≡ c.len-len.result = sym c.len-len.ensures.value in
    let digits : binary c.len-len.result c.load_be.result ≡ list_of c.args.bits = ap (λ k. binary k c.load_be.result) (sym size) ∙ c.load_be.ensures.digits in
    on_ok_weaker c.write.result (λ e. e ∙ ap (λ l. c.args.self.now.list ++ l) digits) c.write.ensures.list

pub returns-clause-len : goal.returns-clause-len
returns-clause-len g c = grind (arith, common_steps)
