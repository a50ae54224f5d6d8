use Rattle.std.proofs.Common.{◌≡◌, ◌<◌, ◌≤◌, ◌*◌, Err, sym, subst, rules, replicate, false, ◌∙◌, ap, refl}
use Rattle.std.specs.Prelude.{◌↔◌}
use Rattle.bit_addressing.specs.declared.errors.GrowError.TheVariants as errors
use Rattle.bit_addressing.specs.declared.length.TheConstants.{MAX_BITS}
use Rattle.bit_matrix.specs.Matrix.{unpadded}
use Rattle.bit_matrix.proofs.Padding.{grid_made, too_long, zeros_unpadded}
use Rattle.bit_matrix.proofs.matrix.Matrix.new.Goals as goal

pub returns-in_err-bits-clause-too_long : goal.returns-in_err-bits-clause-too_long
returns-in_err-bits-clause-too_long c =
    let t = too_long c.args.rows c.args.columns c.stride_of-stride.result c.stride_of-stride.ensures.exact c.stride_of-stride.ensures.past in
    let size : c.in-Some.size ≡ c.args.rows * c.stride_of-stride.result = search rules in
    let r : (c.from_residual.result ≡ Err errors.TooLong) ↔ (MAX_BITS < c.in-Some.size) = search rules in
    (λ is. t.0 (subst (λ k. MAX_BITS < k) size (r.0 is)), λ far. r.1 (subst (λ k. MAX_BITS < k) (sym size) (t.1 far)))

pub returns-clause-zeros : goal.returns-clause-zeros
returns-clause-zeros c =
    let rows = c.args.rows in
    let columns = c.args.columns in
    let stride = c.stride_of-stride.result in
    let size : c.in-Some.size ≡ rows * stride = search rules in
    let few : rows * stride ≤ MAX_BITS = search rules in
    let made = grid_made rows columns stride 0 (rows * stride) c.stride_of-stride.ensures.exact c.stride_of-stride.ensures.past refl few refl in
    ap (λ l. record { rows = rows; columns = columns; bits = l }) (ap (unpadded rows columns stride) (c.in_ok-bits.ensures.list ∙ ap (λ n. replicate n false) size) ∙ zeros_unpadded rows columns stride 0 made)
