use Rattle.std.proofs.Common.{◌≡◌, ℕ, ◌+◌, ◌-◌, ◌<◌, [], ◌++◌, false, get_or, length, length-append, refl, subst, sym, ◌∙◌, ap, inl, inr, arith}
use Rattle.std.proofs.lemmas.Bool.{cases_lt}
use Rattle.std.proofs.lemmas.List.{get_or-append-add, get_or_append_left}
use Rattle.bit_addressing.specs.Row.{number_bits}
use Rattle.bit_rows.proofs.Binary.{get_or-number_bits, length-number_bits}
use Rattle.bit_slice.specs.Closures.{ResultsFrom}
use Rattle.bit_slice.proofs.Called.{callable_on, results_then}
use Rattle.bit_matrix.specs.Matrix.{item}
use Rattle.bit_matrix.proofs.Filled.{row_kept, row_written}
use Rattle.bit_matrix.proofs.matrix.Matrix.fill_row_by.Goals as goal

pub loop-column-init : goal.loop-column-init
loop-column-init g c = record {
  ends = omega arith;
  alike = (refl, refl);
  size = c.columns-columns.ensures.size;
  written = ([], refl, refl, λ j h. absurd (omega arith));
  others = λ i j tall short apart. refl;
}

pub number_by-number-requires-clause-callable : goal.number_by-number-requires-clause-callable
number_by-number-requires-clause-callable g c =
    let at = c.loop-column in
    let run = at.invariant.written in
    let size = run.1 in
    let wide = c.columns-columns.ensures.value in
    let n = c.min-count.ensures in
    callable_on (λ s j. goal.F-pre g s c.args.row j) (λ s j given t. goal.F-step g s c.args.row j given t) c.args.f.now 0 c.args.self.now.columns run.0 at.f at.column (at.column + c.min-count.result) c.requires.callable run.2 (omega arith) (omega arith)

pub loop-column-preserved : goal.loop-column-preserved
loop-column-preserved g c =
    let at = c.loop-column in
    let n = c.min-count.result in
    let number = c.number_by-number.result in
    let more = number_bits number n in
    let run = at.invariant.written in
    let size = length-number_bits number n in
    let wide = c.columns-columns.ensures.value in
    let few = c.min-count.ensures in
    let long = run.1 in
    let done = c.write_part.ensures in
    let alike = at.invariant.alike in
    let row = c.requires.row in
    let now = done.alike in
    let ends = at.invariant.ends in
    let test = c.loop-column-test.true in
    record {
      ends = omega arith;
      alike = (now.0 ∙ alike.0, now.1 ∙ alike.1);
      size = done.size;
      written = (
        run.0 ++ more,
        length-append run.0 more ∙ omega arith,
        results_then (λ s j given t. goal.F-step g s c.args.row j given t) c.args.f.now 0 run.0 at.f at.column more c.number_by-number.new.f run.2 c.number_by-number.ensures (omega arith),
        λ j h. elim (cases_lt j at.column) [
          | inl low ↦ done.others c.args.row j (let a = alike.0 in omega arith) (let a = alike.1 in omega arith) (inr (inl low)) ∙ run.3 j low ∙ sym (get_or_append_left run.0 more false j (omega arith))
          | inr high ↦
              let k : ℕ = j - at.column in
              let place : at.column + k ≡ j = omega arith in
              let back : j ≡ length run.0 + k = omega arith in
              let below : k < n = omega arith in
              ap (item c.write_part.new.self c.args.row) (sym place) ∙ done.part k below ∙ sym (ap (λ m. get_or (run.0 ++ more) m false) back ∙ get_or-append-add run.0 more k false ∙ get_or-number_bits number n k below)
        ],
      );
      others = λ i j tall short apart. done.others i j (let a = alike.0 in omega arith) (let a = alike.1 in omega arith) (inl apart) ∙ at.invariant.others i j tall short apart;
    }

pub returns-clause-given : goal.returns-clause-given
returns-clause-given g c =
    let at = c.loop-column in
    let run = at.invariant.written in
    let alike = at.invariant.alike in
    let wide = c.columns-columns.ensures.value in
    let ends = at.invariant.ends in
    let test = c.loop-column-test.false in
    let long = run.1 in
    let row = c.requires.row in
    let same = row_written at.self c.args.row run.0 (let a = alike.0 in omega arith) at.invariant.size (let a = alike.1 in omega arith) (λ j low. run.3 j (let a = alike.1 in omega arith)) in
    subst (λ l. ResultsFrom (λ s j given t. goal.F-step g s c.args.row j given t) c.args.f.now 0 l at.f) (sym same) run.2

pub returns-clause-others : goal.returns-clause-others
returns-clause-others g c i tall apart =
    let at = c.loop-column in
    row_kept c.args.self.now at.self i tall at.invariant.alike.0 at.invariant.alike.1 c.columns-columns.ensures.size at.invariant.size (λ j short. at.invariant.others i j tall short apart)
