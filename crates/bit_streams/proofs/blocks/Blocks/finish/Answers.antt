use Rattle.std.proofs.Common.{◌≡◌, ◌+◌, Err, length, sym, ◌∙◌, ap, arith}
use Rattle.bit_addressing.specs.declared.errors.GrowError.TheVariants.{OutOfMemory}
use Rattle.bit_streams.proofs.Lists.{written_length}
use Rattle.bit_streams.proofs.blocks.Blocks.finish.Goals as goal

pub returns-in-Err-clause-memory : goal.returns-in-Err-clause-memory
returns-in-Err-clause-memory g c e =
    let i = c.self.inside in
    let why : c.in-Err.why ≡ OutOfMemory = cc in
    let all : length c.args.self.list ≡ length i.words.list + i.count = ap (λ v. length v.list) (sym c.self.view_is) ∙ written_length i.words.list i.count i.pending in
    let capacity : c.args.self.capacity ≡ i.words.capacity = ap (λ v. v.capacity) (sym c.self.view_is) in
    let same = c.from_vec-bits.ensures.capacity ∙ c.into_vec.ensures.capacity in
    let len = c.from_vec-bits.ensures.len in
    let whole = c.into_vec.ensures.len in
    let full = c.in-Err.ensures.refusal.memory (ap Err why) in
    omega arith
