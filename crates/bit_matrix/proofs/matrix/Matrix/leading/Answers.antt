use Rattle.std.proofs.Common.{◌≡◌, ◌+◌, ◌-◌, ◌*◌, ◌%◌, ◌^◌, inl, inr, sym, ◌∙◌, ap, subst, arith, bit_or}
use Rattle.std.proofs.lemmas.Bool.{cases_lt, true≢false}
use Rattle.bit_addressing.specs.Bits.{has_bit}
use Rattle.bit_matrix.specs.Matrix.{IsSet}
use Rattle.bit_matrix.proofs.Lowest.{one_set, still_set}
use Rattle.bit_matrix.proofs.matrix.Matrix.leading.Goals as goal
use Rattle.bit_matrix.proofs.matrix.Matrix.leading.Goals.{else-leads, then-leads}

pub loop-row-preserved : goal.loop-row-preserved
loop-row-preserved c p j below leads =
    let row = c.loop-row.row in
    let word = c.loop-row.leading in
    let place = row - c.args.start in
    elim (cases_lt (c.args.start + p) row) [
      | inl before ↦
          let was = c.loop-row.invariant p j before leads in
          elim c.if-leads.branch [ then-leads w ↦ ap (λ n. has_bit n p) w.leading-is ∙ still_set word place p was | else-leads w ↦ ap (λ n. has_bit n p) w.leading-is ∙ was ]
      | inr up ↦
          let here : c.args.start + p ≡ row = omega arith in
          let at : p ≡ place = omega arith in
          elim c.if-leads.branch [
            | then-leads w ↦ ap (λ n. has_bit n p) w.leading-is ∙ ap (has_bit (bit_or word (1 * 2 ^ place % 2 ^ 64))) at ∙ one_set word place (omega arith)
            | else-leads w ↦ absurd (true≢false (sym (c.leads.ensures j (subst (λ x. IsSet c.args.self.now x j) here leads)) ∙ w.if-leads.false))
          ]
    ]
