use Rattle.std.proofs.Common.{◌≡◌, ℕ, ◌+◌, ◌*◌, length, sym, ◌∙◌, ap, subst, arith}
use Rattle.bit_addressing.specs.Typed.{row}
use Rattle.bit_rows.proofs.Differs.{AreAlike, alike_all, alike_front, alike_run, words_inside}
use Rattle.bit_addressing.proofs.Typed.{length_row}
use Rattle.bit_addressing.proofs.lists.Sized.{right_sum}
use Rattle.bit_rows.proofs.searches.equal_after.Goals as goal

pub returns-clause-alike : goal.returns-clause-alike
returns-clause-alike g c =
    let w = g.T.BitStore.BITS in
    let u = g.U.BitStore.BITS in
    let xs = row g.T.BitStore g.O.BitOrder c.args.a.now in
    let ys = row g.U.BitStore g.P.BitOrder c.args.b.now in
    let first : length xs ≡ w * length c.args.a.now = length_row g.T.BitStore.value g.O.BitOrder.place w c.args.a.now in
    let second : length ys ≡ w * length c.args.b.now = length_row g.U.BitStore.value g.P.BitOrder.place u c.args.b.now ∙ ap (λ v. v * length c.args.b.now) c.requires.alike.width in
    let i : ℕ = c.args.k * w in
    let j : ℕ = c.args.l * w in
    let far = c.args.far in
    let more = c.equal_turns.result in
    let known : AreAlike xs ys i j (far * w) = alike_front xs ys i j (far * w) c.requires.known in
    let left = words_inside w c.args.k (far + more) (length c.args.a.now) (omega arith) in
    let right = words_inside w c.args.l (far + more) (length c.args.b.now) (omega arith) in
    alike_all xs ys i j ((far + more) * w) ((far + more) * w) (omega arith) (omega arith) (omega arith)
    (subst (AreAlike xs ys i j) (sym (right_sum far more w))
    (alike_run xs ys i j (far * w) (more * w) ((c.args.k + far) * w) ((c.args.l + far) * w) (right_sum c.args.k far w) (right_sum c.args.l far w) c.equal_turns.ensures.alike known))
