use Rattle.std.proofs.Common.{◌≡◌, ◌+◌, ◌++◌, append-nil, append_assoc, length, sym, ◌∙◌, ap, arith}
use Rattle.bit_addressing.specs.Row.{binary, number_bits}
use Rattle.bit_rows.proofs.Binary.{number_bits_none}
use Rattle.bit_streams.proofs.Lists.{written_length}
use Rattle.bit_streams.proofs.blocks.Blocks.join_le.Goals as goal

pub returns-then-n-eq0-clause-list : goal.returns-then-n-eq0-clause-list
returns-then-n-eq0-clause-list g c =
    let none : 0 ≡ c.args.n = omega arith in
    sym (append-nil c.args.self.now.list) ∙ ap (λ l. c.args.self.now.list ++ l) (sym (number_bits_none c.args.x) ∙ ap (number_bits c.args.x) none)

pub returns-clause-list : goal.returns-clause-list
returns-clause-list g c =
    let i = c.self.inside in
    let rows = i.words.list in
    ap (λ l. rows ++ l) (c.joined-self-inside.ensures.digits ∙ ap (λ l. binary i.count i.pending ++ l) c.reversed.ensures.written)
    ∙ sym (append_assoc rows (binary i.count i.pending) (number_bits c.args.x c.args.n))
    ∙ ap (λ v. v.list ++ number_bits c.args.x c.args.n) c.self.view_is

pub joined-self-inside-requires-clause-all : goal.joined-self-inside-requires-clause-all
joined-self-inside-requires-clause-all g c =
    let i = c.self.inside in
    let all : length c.args.self.now.list ≡ length i.words.list + i.count = ap (λ v. length v.list) (sym c.self.view_is) ∙ written_length i.words.list i.count i.pending in
    let few = c.self.invariant.few in
    let blocks = c.self.invariant.blocks in
    let room = c.requires in
    omega arith

pub invariant_of-self : goal.invariant_of-self
invariant_of-self g c =
    let i = c.self.inside in
    let all : length c.args.self.now.list ≡ length i.words.list + i.count = ap (λ v. length v.list) (sym c.self.view_is) ∙ written_length i.words.list i.count i.pending in
    let few = c.self.invariant.few in
    let blocks = c.self.invariant.blocks in
    let room = c.requires in
    record {
      few = omega arith;
      small = c.joined-self-inside.ensures.below;
      blocks = blocks;
      fits = c.self.invariant.fits;
    }
