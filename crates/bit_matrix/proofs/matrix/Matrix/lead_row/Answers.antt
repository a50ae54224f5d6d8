use Rattle.std.proofs.Common.{◌≡◌, ◌+◌, ◌-◌, ◌<◌, true, inl, inr, refl, arith, ◌∙◌, ap, sym, bit_and, w64}
use Rattle.std.specs.Int.{trailing_zeros}
use Rattle.std.proofs.lemmas.Bool.{cases_lt, true≢false}
use Rattle.std.proofs.lemmas.Nat.{and_le_l}
use Rattle.bit_addressing.specs.Bits.{has_bit}
use Rattle.bit_addressing.proofs.Words.{has_none}
use Rattle.bit_matrix.specs.Matrix.{IsSet}
use Rattle.bit_matrix.proofs.Grids.{row_sets}
use Rattle.bit_matrix.proofs.Lowest.{both_bits, left_or_gone, left_was, lowest_inside, lowest_set, set_in_both, set_or_not}
use Rattle.bit_matrix.proofs.Paths.{middle_more, row_led, row_read}
use Rattle.bit_matrix.proofs.matrix.Matrix.lead_row.Goals as goal
use Rattle.bit_matrix.proofs.matrix.Matrix.lead_row.Goals.{In-loop-chunk}

place_set : (c : In-loop-chunk) → has_bit c.loop-chunk.chunk (trailing_zeros w64 c.loop-chunk.chunk) ≡ true
place_set c = lowest_set c.loop-chunk.chunk c.loop-chunk.invariant.fits (omega arith)

place_inside : (c : In-loop-chunk) → trailing_zeros w64 c.loop-chunk.chunk < 64
place_inside c = lowest_inside c.loop-chunk.chunk c.loop-chunk.invariant.fits (omega arith)

middle_inside : (c : In-loop-chunk) → c.args.start + trailing_zeros w64 c.loop-chunk.chunk < c.args.end
middle_inside c = (c.loop-chunk.invariant.leading.left (trailing_zeros w64 c.loop-chunk.chunk) (place_set c)).0

pub loop-chunk-init : goal.loop-chunk-init
loop-chunk-init c =
    let grid = c.args.self.now in
    let read = c.read_part.ensures in
    let word = c.read_part.result in
    record {
      alike = (refl, refl);
      fits = omega (arith, and_le_l word c.args.leading);
      leading =
          row_read (IsSet grid) c.args.row c.args.start c.args.end (bit_and word c.args.leading) (λ p set. elim (cases_lt p (c.args.end - c.args.start)) [
            | inl below ↦ (omega arith, (omega arith, omega arith, sym (read.bits p below) ∙ both_bits word c.args.leading p set))
            | inr above ↦ absurd (true≢false (sym (both_bits word c.args.leading p set) ∙ read.above p above))
          ])
          (λ p inside leads. elim (set_or_not c.args.leading p) [
            | inl set ↦ inl (set_in_both word c.args.leading p (read.bits p (omega arith) ∙ leads.2) set)
            | inr none ↦ inr (λ j e. true≢false (sym (c.requires.leading p j inside e) ∙ none))
          ]);
    }

pub overflow_add-middle : goal.overflow_add-middle
overflow_add-middle c = omega (arith, middle_inside c)

pub read_part-covered-requires-clause-row : goal.read_part-covered-requires-clause-row
read_part-covered-requires-clause-row c = omega (arith, middle_inside c)

pub or_row-requires-clause-from : goal.or_row-requires-clause-from
or_row-requires-clause-from c = omega (arith, middle_inside (goal.at.or_row-requires-clause-from c).In-loop-chunk)

pub left_of-chunk-requires : goal.left_of-chunk-requires
left_of-chunk-requires c = place_inside (goal.at.left_of-chunk-requires c).In-loop-chunk

pub loop-chunk-smaller : goal.loop-chunk-smaller
loop-chunk-smaller c = c.left_of-chunk.ensures.smaller (place_set (goal.at.loop-chunk-smaller c).In-loop-chunk)

pub loop-chunk-preserved : goal.loop-chunk-preserved
loop-chunk-preserved c =
    let inside = middle_inside (goal.at.loop-chunk-preserved c).In-loop-chunk in
    let place = trailing_zeros w64 c.loop-chunk.chunk in
    let middle = c.args.start + place in
    let was = c.loop-chunk.invariant in
    let ored = c.or_row.ensures in
    let covered = c.read_part-covered in
    let left = c.left_of-chunk in
    record {
      alike = (ored.alike.0 ∙ was.alike.0, ored.alike.1 ∙ was.alike.1);
      fits = left.type_inv;
      leading =
          middle_more (IsSet c.args.self.now) (IsSet c.loop-chunk.self) c.args.row c.args.start c.args.end c.loop-chunk.chunk c.requires.closed was.leading (IsSet c.or_row.new.self) place covered.result left.result
          (place_set (goal.at.loop-chunk-preserved c).In-loop-chunk)
          (row_sets c.loop-chunk.self c.or_row.new.self c.args.row middle (omega arith) (omega arith) ored.alike ored.row ored.others)
          (λ p set. elim (cases_lt p (c.args.end - c.args.start)) [
            | inl below ↦ (omega arith, omega arith, sym (covered.ensures.bits p below) ∙ set)
            | inr above ↦ absurd (true≢false (sym set ∙ covered.ensures.above p above))
          ])
          (left_was c.loop-chunk.chunk place covered.result left.result left.ensures.bits)
          (left_or_gone c.loop-chunk.chunk place covered.result left.result left.ensures.bits);
    }

pub returns-clause-edges : goal.returns-clause-edges
returns-clause-edges c =
    row_led (IsSet c.args.self.now) (IsSet c.loop-chunk.self) c.args.row c.args.start c.args.end c.loop-chunk.chunk
    (λ p. ap (λ n. has_bit n p) c.loop-chunk-test.false ∙ has_none p) c.loop-chunk.invariant.leading
