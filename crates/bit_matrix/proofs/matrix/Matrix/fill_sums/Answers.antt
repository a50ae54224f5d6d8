use Rattle.std.proofs.Common.{◌≡◌, ℕ, ◌+◌, ◌-◌, ◌^◌, ◌<◌, ◌&&◌, ◌||◌, Bool, sym, ◌∙◌, ap, inl, inr, arith}
use Rattle.std.proofs.lemmas.Bool.{cases_lt}
use Rattle.std.proofs.lemmas.Nat.{pow_pos}
use Rattle.bit_addressing.specs.Bits.{has_bit}
use Rattle.bit_matrix.specs.Matrix.{Grid, any_below, item}
use Rattle.bit_matrix.proofs.Tabled.{sum_high, sum_low, twice_power}
use Rattle.bit_matrix.proofs.matrix.Matrix.fill_sums.Goals as goal

pub loop-place-preserved : goal.loop-place-preserved
loop-place-preserved c =
    let at = c.loop-place in
    let i = at.invariant in
    let n = at.place in
    let done = c.double_sums.ensures in
    let new : Grid = c.double_sums.new.self in
    let right : Grid = c.args.right.now in
    let wide = i.alike.1 in
    record {
      alike = (done.alike.0 ∙ i.alike.0, done.alike.1 ∙ i.alike.1);
      empty = λ j low. done.low 0 j (pow_pos n) (omega arith) ∙ i.empty j low;
      sums = λ x j below low.
          let row : ℕ → Bool = λ p. item right (c.args.start + p) j in
          let inside : j < at.self.columns = omega arith in
          elim (cases_lt x (2 ^ n)) [
            | inl l ↦ done.low x j l inside ∙ i.sums x j l low ∙ sym (sum_low row n x l)
            | inr h ↦
                let two = twice_power n in
                let y : ℕ = x - 2 ^ n in
                let back : y + 2 ^ n ≡ x = omega arith in
                let small : y < 2 ^ n = omega arith in
                ap (λ k. item new k j) (sym back) ∙ done.high y j small inside ∙ ap (λ b. b || row n) (i.sums y j small low) ∙ sym (sum_high row n y small)
                ∙ ap (λ k. any_below (λ p. has_bit k p && row p) (n + 1)) back
          ];
    }
