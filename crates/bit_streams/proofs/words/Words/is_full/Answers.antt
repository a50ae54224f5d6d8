use Rattle.std.proofs.Common.{◌≡◌, ◌*◌, length, sym, ◌∙◌, ap, arith}
use Rattle.bit_streams.proofs.Late.{length-written_row}
use Rattle.bit_streams.proofs.words.Words.is_full.Goals as goal

pub returns-clause-full : goal.returns-clause-full
returns-clause-full g c e =
    let i = c.self.inside in
    let w = g.T.BitStore.BITS in
    let all : length c.args.self.now.list ≡ w * length i.words.items = ap (λ v. length v.list) (sym c.self.view_is) ∙ length-written_row g.T.BitStore g.O.BitOrder i.late i.words.items in
    let size : w * c.len.result ≡ w * length i.words.items = grind arith in
    let past = c.is_full.ensures.full e in
    omega arith

pub returns-clause-room : goal.returns-clause-room
returns-clause-room g c e =
    let i = c.self.inside in
    let w = g.T.BitStore.BITS in
    let all : length c.args.self.now.list ≡ w * length i.words.items = ap (λ v. length v.list) (sym c.self.view_is) ∙ length-written_row g.T.BitStore g.O.BitOrder i.late i.words.items in
    let size : w * c.len.result ≡ w * length i.words.items = grind arith in
    let within = c.is_full.ensures.room e in
    omega arith
