use Rattle.std.proofs.Common.{◌≡◌, ◌*◌, length, sym, ◌∙◌, ap, arith}
use Rattle.bit_streams.proofs.Late.{length-written_row}
use Rattle.bit_streams.proofs.words.Words.len.Goals as goal

pub overflow_mul-result : goal.overflow_mul-result
overflow_mul-result g c =
    let i = c.self.inside in
    let w = g.T.BitStore.BITS in
    let all : length c.args.self.now.list ≡ w * length i.words.items = ap (λ v. length v.list) (sym c.self.view_is) ∙ length-written_row g.T.BitStore g.O.BitOrder i.late i.words.items in
    let size : c.len.result * c.BITS.result ≡ w * length i.words.items = grind arith in
    let few = c.requires in
    omega arith

pub returns : goal.returns
returns g c =
    let i = c.self.inside in
    let w = g.T.BitStore.BITS in
    let all : length c.args.self.now.list ≡ w * length i.words.items = ap (λ v. length v.list) (sym c.self.view_is) ∙ length-written_row g.T.BitStore g.O.BitOrder i.late i.words.items in
    let size : c.len.result * c.BITS.result ≡ w * length i.words.items = grind arith in
    size ∙ sym all
