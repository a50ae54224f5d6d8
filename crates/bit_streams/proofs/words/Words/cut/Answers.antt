use Rattle.std.proofs.Common.{◌≡◌, ◌+◌, ◌*◌, ◌%◌, ◌++◌, length, take, sym, ◌∙◌, ap, arith}
use Rattle.bit_addressing.specs.Row.{binary}
use Rattle.bit_streams.proofs.Late.{length-written_row, none_late}
use Rattle.bit_streams.proofs.words.Words.cut.Goals as goal

pub cut_at-requires : goal.cut_at-requires
cut_at-requires g c =
    let i = c.self.inside in
    let w = g.T.BitStore.BITS in
    let all : length c.args.self.now.list ≡ w * length i.words.items = ap (λ v. length v.list) (sym c.self.view_is) ∙ length-written_row g.T.BitStore g.O.BitOrder i.late i.words.items in
    let same : w * length c.turn_in_vec.new.words.items ≡ w * length i.words.items = ap (λ n. w * n) c.turn_in_vec.ensures.size in
    let inside = c.requires in
    omega arith

pub returns-clause-list : goal.returns-clause-list
returns-clause-list g c =
    ap (λ l. l ++ binary c.cut_at.result.1 c.cut_at.result.0) (none_late g.T.BitStore g.O.BitOrder c.cut_at.new.words.items)
    ∙ c.cut_at.ensures.list ∙ ap (take c.args.n) (c.turn_in_vec.ensures.bits ∙ ap (λ v. v.list) c.self.view_is)

pub returns-clause-shorter : goal.returns-clause-shorter
returns-clause-shorter g c =
    ap (λ n. n + c.cut_at.result.1) (length-written_row g.T.BitStore g.O.BitOrder 0 c.cut_at.new.words.items) ∙ c.cut_at.ensures.shorter

pub returns-clause-blocks : goal.returns-clause-blocks
returns-clause-blocks g c = ap (λ n. n % 64) (length-written_row g.T.BitStore g.O.BitOrder 0 c.cut_at.new.words.items) ∙ c.cut_at.ensures.blocks
