use Rattle.std.proofs.Common.{◌≡◌, ℕ, ◌+◌, ◌*◌, ◌/◌, ◌%◌, ◌||◌, length, slice_range, sym, ◌∙◌, ap, arith}
use Rattle.std.specs.List.{list_any}
use Rattle.bit_addressing.proofs.lists.Shown.{length-run}
use Rattle.bit_slice.specs.BitSlice.{list_of}
use Rattle.bit_slice.specs.Operators.{combined}
use Rattle.bit_slice.proofs.Combining.{length-combined}
use Rattle.bit_slice.proofs.Parts.{in_row, view_length}
use Rattle.bit_slice.proofs.Sets.{none_in_front, number_none, number_some, number_tells, any_joined, any_up_to}
use Rattle.bit_slice.proofs.slice.sets.any_long.Goals as goal

pub loop-t-init : goal.loop-t-init
loop-t-init g c =
    let v = c.args.left in
    let u = c.args.right in
    let room = in_row g.T.BitStore g.O.BitOrder v.words.now _ v.fits.room in
    let few = c.false_blocks-start.ensures.few in
    record { none = none_in_front g.F.BitOperator.made _ _ _ _ u.head u.len _ room (omega arith) (omega arith) c.false_blocks-start.ensures.none }

pub loop-t-preserved : goal.loop-t-preserved
loop-t-preserved g c =
    let v = c.args.left in
    let cs = combined g.F.BitOperator.made (list_of v) (list_of c.args.right) in
    let long = length-combined g.F.BitOperator.made (list_of v) (list_of c.args.right) in
    let size = view_length v in
    let at : ℕ = c.loop-t.t * 64 in
    let next : at + 64 ≡ (c.loop-t.t + 1) * 64 = omega arith in
    record {
      none = ap (λ k. list_any (λ b. b) (slice_range cs 0 k)) (sym next)
          ∙ any_joined cs at (at + 64) (omega arith) (omega (arith, long, size))
          ∙ ap (λ b. b || list_any (λ b. b) (slice_range cs at (at + 64))) c.loop-t.invariant.none
          ∙ number_none (slice_range cs at (at + 64)) (sym c.pair_chunk.ensures ∙ c.if-pair_chunk-ne0.false);
    }

pub returns-then-pair_chunk-ne0 : goal.returns-then-pair_chunk-ne0
returns-then-pair_chunk-ne0 g c =
    let v = c.args.left in
    let cs = combined g.F.BitOperator.made (list_of v) (list_of c.args.right) in
    let long = length-combined g.F.BitOperator.made (list_of v) (list_of c.args.right) in
    let size = view_length v in
    let at : ℕ = c.loop-t.t * 64 in
    let few : length (slice_range cs at (at + 64)) ≡ 64 = length-run cs at 64 (omega (arith, long, size)) in
    sym (any_up_to cs (at + 64) c.args.upto (omega arith) (omega (arith, long, size))
    (any_joined cs at (at + 64) (omega arith) (omega (arith, long, size))
    ∙ ap (λ b. b || list_any (λ b. b) (slice_range cs at (at + 64))) c.loop-t.invariant.none
    ∙ number_some (slice_range cs at (at + 64)) (omega arith) (λ e. c.if-pair_chunk-ne0.true (c.pair_chunk.ensures ∙ e))))

pub returns : goal.returns
returns g c =
    let v = c.args.left in
    let cs = combined g.F.BitOperator.made (list_of v) (list_of c.args.right) in
    let long = length-combined g.F.BitOperator.made (list_of v) (list_of c.args.right) in
    let size = view_length v in
    let at : ℕ = c.args.upto / 64 * 64 in
    let rest : ℕ = c.args.upto % 64 in
    let done : c.loop-t.t * 64 ≡ at = omega arith in
    let end : at + rest ≡ c.args.upto = omega arith in
    let few : length (slice_range cs at (at + rest)) ≡ rest = length-run cs at rest (omega (arith, long, size)) in
    number_tells (slice_range cs at (at + rest)) c.pair_chunk-2.result (omega arith) c.pair_chunk-2.ensures
    ∙ ap (λ b. b || list_any (λ b. b) (slice_range cs at (at + rest))) (sym c.loop-t.invariant.none ∙ ap (λ k. list_any (λ b. b) (slice_range cs 0 k)) done)
    ∙ sym (any_joined cs at (at + rest) (omega arith) (omega (arith, long, size)))
    ∙ ap (λ k. list_any (λ b. b) (slice_range cs 0 k)) end
