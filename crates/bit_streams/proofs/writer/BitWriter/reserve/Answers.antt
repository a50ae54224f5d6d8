use Rattle.std.proofs.Common.{◌≡◌, ◌+◌, ◌++◌, length, sym, ◌∙◌, ap, arith}
use Rattle.std.proofs.lemmas.Result.{on_ok_weaker}
use Rattle.bit_addressing.specs.Row.{number_bits}
use Rattle.bit_streams.proofs.Lists.{refused_as}
use Rattle.bit_streams.proofs.Lows.{with_tail}
use Rattle.bit_streams.proofs.writer.BitWriter.reserve.Goals as goal

pub returns-clause-room : goal.returns-clause-room
returns-clause-room g c =
    let i = c.self.inside in
    let all : length c.args.self.now.list ≡ length i.blocks.list + i.tails = ap (λ v. length v.list) (sym c.self.view_is) ∙ with_tail i.blocks.list i.tails i.tail in
    on_ok_weaker c.reserve.result (λ h. omega arith) c.reserve.ensures.room

pub returns-clause-refusal : goal.returns-clause-refusal
returns-clause-refusal g c =
    let i = c.self.inside in
    let all : length c.args.self.now.list ≡ length i.blocks.list + i.tails = ap (λ v. length v.list) (sym c.self.view_is) ∙ with_tail i.blocks.list i.tails i.tail in
    refused_as c.reserve.result (length c.args.self.now.list + c.args.n) (length i.blocks.list + (i.tails + c.args.n)) c.args.self.now _ i.blocks c.reserve.new.self
    (ap (λ v. v.capacity) c.self.view_is) (λ e. ap (λ l. l ++ number_bits i.tail i.tails) e ∙ ap (λ v. v.list) c.self.view_is) (omega arith) (λ h. omega arith) c.reserve.ensures.refusal
