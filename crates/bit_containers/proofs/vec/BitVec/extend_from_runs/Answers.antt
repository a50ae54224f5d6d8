use Rattle.std.proofs.Common.{◌≡◌, ◌+◌, ◌++◌, ◌<◌, get_or, length, length-append, replicate, take, refl, sym, ◌∙◌, ap, subst, arith, rules, append-nil, append_assoc}
use Rattle.std.specs.List.{flat_map}
use Rattle.std.proofs.lemmas.List.{take_all}
use Rattle.bit_addressing.proofs.Rows.{width_positive}
use Rattle.bit_addressing.specs.Row.{sized}
use Rattle.bit_addressing.specs.declared.length.TheConstants.{MAX_BITS}
use Rattle.bit_slice.specs.BitRuns.{bits_of_run}
use Rattle.bit_containers.specs.BitVec.{Grew}
use Rattle.bit_containers.proofs.Calling.{grew_kept}
use Rattle.bit_containers.proofs.Extracted.{blank, empty_run, runs_few, runs_more, runs_next}
use Rattle.bit_containers.proofs.Growing.{grew_twice}
use Rattle.bit_containers.proofs.vec.BitVec.extend_from_runs.Goals.{then-len-ne0, else-len-ne0}
use Rattle.bit_containers.proofs.vec.BitVec.extend_from_runs.Goals as goal

pub loop-run-init : goal.loop-run-init
loop-run-init g c = record { sum = refl; few = omega arith }

pub loop-run-preserved : goal.loop-run-preserved
loop-run-preserved g c =
    let at = c.loop-run in
    let next = runs_next c.args.runs.now at.run-index blank c.loop-run-test.true in
    record {
      sum = omega (arith, at.invariant.sum, next, c.len.ensures, c.len-more.ensures);
      few = omega (arith, at.invariant.few, c.len.ensures, c.len-more.ensures);
    }

pub returns-then-len-more-clause-refusal : goal.returns-then-len-more-clause-refusal
returns-then-len-more-clause-refusal g c =
    let at = c.loop-run in
    let next = runs_next c.args.runs.now at.run-index blank c.loop-run-test.true in
    let few = runs_few c.args.runs.now (at.run-index + 1) in
    let over : MAX_BITS < length c.args.self.now.list + length (flat_map bits_of_run c.args.runs.now) = omega (arith, next, few, at.invariant.sum, c.if-len-more.true, c.len.ensures) in
    search rules

pub returns-in_err-reserve-clause-refusal : goal.returns-in_err-reserve-clause-refusal
returns-in_err-reserve-clause-refusal g c =
    let all = take_all c.loop-run.run-index c.args.runs.now c.loop-run-test.false in
    let same : c.loop-run.more ≡ length (flat_map bits_of_run c.args.runs.now) = c.loop-run.invariant.sum ∙ ap (λ l. length (flat_map bits_of_run l)) all in
    rw (← same) (search rules)

pub loop-run-2-init : goal.loop-run-2-init
loop-run-2-init g c =
    let w = g.T.BitStore.BITS in
    let now = c.args.self.now in
    let kept = c.in_ok-reserve.ensures.kept in
    let all = take_all c.loop-run.run-index c.args.runs.now c.loop-run-test.false in
    let same : c.loop-run.more ≡ length (flat_map bits_of_run c.args.runs.now) = c.loop-run.invariant.sum ∙ ap (λ l. length (flat_map bits_of_run l)) all in
    record {
      list = kept.list ∙ sym (append-nil now.list);
      grew = grew_kept w now c.reserve.new.self c.prove_in_words.ensures.size kept;
      clean = λ was. record { head = kept.head ∙ was.head; row = kept.row ∙ was.row ∙ ap (λ l. sized w l (length l)) (sym kept.list) };
      room = omega (arith, c.in_ok-reserve.ensures.room, same);
      few = omega (arith, c.in_ok-reserve.ensures.fits, same);
      capacity = c.reserve.ensures.capacity;
      no_memory = λ h. c.reserve.ensures.no_memory (omega (arith, h, same));
    }

pub run_reserved-requires-clause-room : goal.run_reserved-requires-clause-room
run_reserved-requires-clause-room g c =
    let at = c.loop-run-2 in
    let next = runs_next c.args.runs.now at.run-index blank c.loop-run-2-test.true in
    let few = runs_few c.args.runs.now (at.run-index + 1) in
    let so_far = ap length at.invariant.list ∙ length-append c.args.self.now.list (flat_map bits_of_run (take at.run-index c.args.runs.now)) in
    omega (arith, next, few, so_far, at.invariant.room, c.len-then-len-ne0.ensures)

pub run_reserved-requires-clause-fits : goal.run_reserved-requires-clause-fits
run_reserved-requires-clause-fits g c =
    let at = c.loop-run-2 in
    let next = runs_next c.args.runs.now at.run-index blank c.loop-run-2-test.true in
    let few = runs_few c.args.runs.now (at.run-index + 1) in
    let so_far = ap length at.invariant.list ∙ length-append c.args.self.now.list (flat_map bits_of_run (take at.run-index c.args.runs.now)) in
    omega (arith, next, few, so_far, at.invariant.few, c.len-then-len-ne0.ensures)

pub loop-run-2-preserved : goal.loop-run-2-preserved
loop-run-2-preserved g c =
    let w = g.T.BitStore.BITS in
    let now = c.args.self.now in
    let runs = c.args.runs.now in
    let at = c.loop-run-2 in
    let front = flat_map bits_of_run (take at.run-index runs) in
    let inside = c.loop-run-2-test.true in
    let item = get_or runs at.run-index blank in
    elim c.if-len-ne0.branch [
      | then-len-ne0 w2 ↦
          let put = w2.run_reserved.ensures in
          let more = ap (λ k. replicate k item.bit) w2.len-then-len-ne0.ensures in
          let next = sym (runs_more runs at.run-index blank inside) in
          rw w2.self-is (record {
            list = put.list ∙ ap (λ l. at.self.list ++ l) more ∙ ap (λ l. l ++ bits_of_run item) at.invariant.list ∙ append_assoc now.list front (bits_of_run item) ∙ ap (λ l. now.list ++ l) next;
            grew = subst (Grew w now w2.run_reserved.new.self) next (grew_twice w now at.self w2.run_reserved.new.self front (bits_of_run item) (width_positive w g.met.T.BitStore.width) c.prove_in_words.ensures.size at.invariant.grew (subst (Grew w at.self w2.run_reserved.new.self) more put.row));
            clean = λ was. put.clean (at.invariant.clean was);
            room = omega (arith, at.invariant.room, put.capacity);
            few = at.invariant.few;
            capacity = omega (arith, at.invariant.capacity, put.capacity);
            no_memory = λ h. put.capacity ∙ at.invariant.no_memory h;
          })
      | else-len-ne0 w2 ↦
          let none = empty_run runs at.run-index blank inside (sym c.len-in-loop-run-2.ensures ∙ w2.if-len-ne0.false) in
          rw w2.self-is (record {
            list = at.invariant.list ∙ ap (λ l. now.list ++ l) (sym none);
            grew = subst (Grew w now at.self) (sym none) at.invariant.grew;
            clean = at.invariant.clean;
            room = at.invariant.room;
            few = at.invariant.few;
            capacity = at.invariant.capacity;
            no_memory = at.invariant.no_memory;
          })
    ]

pub returns-clause-list : goal.returns-clause-list
returns-clause-list g c =
    let all = take_all c.loop-run-2.run-index c.args.runs.now c.loop-run-2-test.false in
    c.loop-run-2.invariant.list ∙ ap (λ l. c.args.self.now.list ++ flat_map bits_of_run l) all

pub returns-clause-row : goal.returns-clause-row
returns-clause-row g c =
    let all = take_all c.loop-run-2.run-index c.args.runs.now c.loop-run-2-test.false in
    subst (λ l. Grew g.T.BitStore.BITS c.args.self.now c.loop-run-2.self (flat_map bits_of_run l)) all c.loop-run-2.invariant.grew
