use Rattle.std.proofs.Common.{◌≡◌, ◌+◌, ◌-◌, ◌≤◌, ◌++◌, length, take, sym, ◌∙◌, ap, arith}
use Rattle.std.proofs.Math.Seq.{take-append-add}
use Rattle.std.proofs.lemmas.List.{take_all, take-append-le}
use Rattle.bit_addressing.specs.Row.{binary}
use Rattle.bit_streams.proofs.Lists.{written_length}
use Rattle.bit_streams.proofs.blocks.Blocks.truncate.Goals as goal

pub returns-then-n-whole-clause-list : goal.returns-then-n-whole-clause-list
returns-then-n-whole-clause-list g c =
    let i = c.self.inside in
    let all : length c.args.self.now.list ≡ length i.words.list + i.count = ap (λ v. length v.list) (sym c.self.view_is) ∙ written_length i.words.list i.count i.pending in
    let past : length c.args.self.now.list ≤ c.args.n = grind arith in
    sym (take_all c.args.n c.args.self.now.list past)

pub returns-then-n-whole-2-clause-list : goal.returns-then-n-whole-2-clause-list
returns-then-n-whole-2-clause-list g c =
    let i = c.self.inside in
    let rows = i.words.list in
    let whole = c.len-whole.result in
    let size : whole ≡ length rows = c.len-whole.ensures in
    let after = c.if-n-whole-2.true in
    let sum : c.args.n ≡ length rows + (c.args.n - whole) = omega arith in
    ap (λ l. rows ++ l) c.front_of-self-inside.ensures.digits
    ∙ sym (take-append-add rows (binary i.count i.pending) (c.args.n - whole))
    ∙ ap (λ k. take k (rows ++ binary i.count i.pending)) (sym sum) ∙ ap (λ v. take c.args.n v.list) c.self.view_is

pub returns-clause-list : goal.returns-clause-list
returns-clause-list g c =
    let i = c.self.inside in
    let rows = i.words.list in
    let whole = c.len-whole.result in
    let size : whole ≡ length rows = c.len-whole.ensures in
    let before = c.if-n-whole-2.false in
    c.cut-pending.ensures.list ∙ sym (take-append-le c.args.n rows (binary i.count i.pending) (omega arith)) ∙ ap (λ v. take c.args.n v.list) c.self.view_is
