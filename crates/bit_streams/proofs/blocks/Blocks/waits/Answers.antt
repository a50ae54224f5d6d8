use Rattle.std.proofs.Common.{◌≡◌, ◌+◌, length, sym, ◌∙◌, ap, arith}
use Rattle.bit_streams.proofs.Lists.{written_length}
use Rattle.bit_streams.proofs.blocks.Blocks.waits.Goals as goal

pub returns-clause-value : goal.returns-clause-value
returns-clause-value g c =
    let i = c.self.inside in
    let all : length c.args.self.now.list ≡ length i.words.list + i.count = ap (λ v. length v.list) (sym c.self.view_is) ∙ written_length i.words.list i.count i.pending in
    let few = c.self.invariant.few in
    let blocks = c.self.invariant.blocks in
    omega arith

pub returns-clause-few : goal.returns-clause-few
returns-clause-few g c = c.self.invariant.few

pub returns-clause-room : goal.returns-clause-room
returns-clause-room g c =
    let i = c.self.inside in
    let all : length c.args.self.now.list ≡ length i.words.list + i.count = ap (λ v. length v.list) (sym c.self.view_is) ∙ written_length i.words.list i.count i.pending in
    let fits = c.self.invariant.fits in
    let blocks = c.self.invariant.blocks in
    omega arith
