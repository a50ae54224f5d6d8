use Rattle.std.proofs.Common.{◌≡◌, All, length, refl, sym, ◌∙◌, ap, subst, arith}
use Rattle.std.proofs.lemmas.List.{take_all}
use Rattle.std.proofs.lemmas.List.Elements.{All-more}
use Rattle.bit_matrix.proofs.matrix.making.have_len.Goals as goal

pub loop-row-preserved : goal.loop-row-preserved
loop-row-preserved g c =
    let row = c.row-item.result in
    let is : length (g.B.BitList.list row) ≡ c.args.len = (let value = c.len.ensures.list in let same = c.if-len.false in omega arith) in
    All-more (λ row. length (g.B.BitList.list row) ≡ c.args.len) c.args.rows.now c.loop-row.row-index row c.loop-row-test.true c.loop-row.invariant (ap (λ r. length (g.B.BitList.list r)) (sym c.row-item.is) ∙ is)

pub returns : goal.returns
returns g c = (
  (λ is. subst (All (λ row. length (g.B.BitList.list row) ≡ c.args.len)) (take_all c.loop-row.row-index c.args.rows.now (omega arith)) c.loop-row.invariant),
  (λ all. refl),
)
