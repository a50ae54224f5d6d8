use Rattle.std.proofs.Common.{length, ap, arith}
use Rattle.bit_streams.proofs.Lists.{written_length}
use Rattle.bit_streams.proofs.blocks.Blocks.len.Goals as goal

pub returns-clause-value : goal.returns-clause-value
returns-clause-value g c =
    let i = c.self.inside in
    let long = written_length i.words.list i.count i.pending in
    let now = ap (λ v. length v.list) c.self.view_is in
    grind arith
