use Rattle.std.proofs.Common.{◌≡◌, ◌+◌, ◌-◌, ◌*◌, ◌++◌, ◌<◌, ◌≤◌, [], length, sym, ◌∙◌, ap, subst, inl, inr, arith, rules, append-nil}
use Rattle.std.proofs.lemmas.Grind.{common_steps}
use Rattle.bit_addressing.proofs.Rows.{width_positive}
use Rattle.bit_addressing.proofs.Runs.{mul_mono}
use Rattle.bit_addressing.proofs.lists.Sized.{right_sum}
use Rattle.bit_addressing.specs.Row.{sized}
use Rattle.bit_addressing.specs.declared.length.TheConstants.{MAX_BITS}
use Rattle.bit_slice.specs.BitSlice.{len_of, list_of}
use Rattle.bit_containers.specs.BitVec.{Grew}
use Rattle.bit_containers.specs.Repeated.{repeated}
use Rattle.bit_containers.proofs.Calling.{grew_kept}
use Rattle.bit_containers.proofs.Extracted.{copied_more, copy_is, past_room, reached, repeated_none, repeated_sum}
use Rattle.bit_containers.proofs.Growing.{grew_none, grew_twice}
use Rattle.bit_containers.proofs.vec.BitVec.extend_repeated.Goals as goal

pub returns-then-len-eq0-clause-list : goal.returns-then-len-eq0-clause-list
returns-then-len-eq0-clause-list g c =
    let xs = list_of c.args.view in
    let n = c.args.times in
    let none : n * length xs ≡ 0 = elim c.then-len-eq0.either [
      | inl e ↦ (let l : length xs ≡ 0 = sym c.len-len.ensures.list ∙ e in ap (λ k. n * k) l ∙ omega arith)
      | inr e ↦ ap (λ k. k * length xs) e.1 ∙ omega arith
    ] in
    sym (ap (λ l. c.args.self.now.list ++ l) (repeated_none n xs none) ∙ append-nil c.args.self.now.list)

pub returns-then-len-eq0-clause-row : goal.returns-then-len-eq0-clause-row
returns-then-len-eq0-clause-row g c =
    let xs = list_of c.args.view in
    let n = c.args.times in
    let w = g.T.BitStore.BITS in
    let now = c.args.self.now in
    let none : n * length xs ≡ 0 = elim c.then-len-eq0.either [
      | inl e ↦ (let l : length xs ≡ 0 = sym c.len-len.ensures.list ∙ e in ap (λ k. n * k) l ∙ omega arith)
      | inr e ↦ ap (λ k. k * length xs) e.1 ∙ omega arith
    ] in
    subst (Grew w now now) (sym (repeated_none n xs none)) (grew_none w now c.prove_in_words.ensures.size)

pub returns-then-times-start-clause-refusal : goal.returns-then-times-start-clause-refusal
returns-then-times-start-clause-refusal g c =
    let len = c.len-len.result in
    let past = past_room (MAX_BITS - c.len-start.result) len c.args.times (omega (arith, c.if-len-eq0.false)) c.if-times-start.true in
    let same : c.args.times * len ≡ c.args.times * len_of c.args.view = ap (λ k. c.args.times * k) c.len-len.ensures.value in
    let over : MAX_BITS < length c.args.self.now.list + c.args.times * len_of c.args.view = omega (arith, past, same, c.len-start.ensures.value, c.len-start.ensures.bound) in
    search rules

pub loop-done-init : goal.loop-done-init
loop-done-init g c =
    let w = g.T.BitStore.BITS in
    let xs = list_of c.args.view in
    let now = c.args.self.now in
    let kept = c.in_ok-reserve.ensures.kept in
    let put = c.append_reserved.ensures in
    let same : c.args.times * c.len-len.result ≡ c.args.times * len_of c.args.view = ap (λ k. c.args.times * k) c.len-len.ensures.value in
    record {
      some = omega arith;
      ends = omega (arith, c.if-times-eq0.false);
      list = put.list ∙ ap (λ l. l ++ xs) kept.list ∙ ap (λ l. now.list ++ l) (sym (append-nil xs));
      grew = subst (Grew w now c.append_reserved.new.self) (sym (append-nil xs)) (grew_twice w now c.reserve.new.self c.append_reserved.new.self [] xs (width_positive w g.met.T.BitStore.width) c.prove_in_words.ensures.size (grew_kept w now c.reserve.new.self c.prove_in_words.ensures.size kept) put.row);
      clean = λ was. put.clean (record { head = kept.head ∙ was.head; row = kept.row ∙ was.row ∙ ap (λ l. sized w l (length l)) (sym kept.list) });
      room = omega (arith, c.in_ok-reserve.ensures.room, same, put.capacity);
      few = omega (arith, c.in_ok-reserve.ensures.fits, same);
      capacity = omega (arith, c.reserve.ensures.capacity, put.capacity);
      no_memory = λ h. put.capacity ∙ c.reserve.ensures.no_memory (omega (arith, h, same));
    }

pub copy_reserved-requires-clause-inside : goal.copy_reserved-requires-clause-inside
copy_reserved-requires-clause-inside g c =
    let at = c.loop-done in
    let more = c.min-more.result in
    let few : more ≤ at.done = omega (arith, c.min-more.ensures) in
    let size = reached c.args.self.now.list (list_of c.args.view) at.self.list at.done more c.len-start.result c.len-len.result few c.len-start.ensures.value c.len-len.ensures.list at.invariant.list in
    let most = mul_mono more at.done c.len-len.result few in
    omega (arith, size, most, c.len-start.ensures.value)

pub copy_reserved-requires-clause-room : goal.copy_reserved-requires-clause-room
copy_reserved-requires-clause-room g c =
    let at = c.loop-done in
    let more = c.min-more.result in
    let len = c.len-len.result in
    let few : more ≤ at.done = omega (arith, c.min-more.ensures) in
    let size = reached c.args.self.now.list (list_of c.args.view) at.self.list at.done more c.len-start.result len few c.len-start.ensures.value c.len-len.ensures.list at.invariant.list in
    let most = mul_mono (at.done + more) c.args.times len (omega (arith, c.min-more.ensures, at.invariant.ends)) in
    let sum = right_sum at.done more len in
    let same : c.args.times * len ≡ c.args.times * len_of c.args.view = ap (λ k. c.args.times * k) c.len-len.ensures.value in
    omega (arith, size, most, sum, same, at.invariant.room)

pub copy_reserved-requires-clause-fits : goal.copy_reserved-requires-clause-fits
copy_reserved-requires-clause-fits g c =
    let at = c.loop-done in
    let more = c.min-more.result in
    let len = c.len-len.result in
    let few : more ≤ at.done = omega (arith, c.min-more.ensures) in
    let size = reached c.args.self.now.list (list_of c.args.view) at.self.list at.done more c.len-start.result len few c.len-start.ensures.value c.len-len.ensures.list at.invariant.list in
    let most = mul_mono (at.done + more) c.args.times len (omega (arith, c.min-more.ensures, at.invariant.ends)) in
    let sum = right_sum at.done more len in
    let same : c.args.times * len ≡ c.args.times * len_of c.args.view = ap (λ k. c.args.times * k) c.len-len.ensures.value in
    omega (arith, size, most, sum, same, at.invariant.few)

pub loop-done-smaller : goal.loop-done-smaller
loop-done-smaller g c = omega (arith, c.min-more.ensures, c.loop-done-test.true, c.loop-done.invariant.some)

pub loop-done-preserved : goal.loop-done-preserved
loop-done-preserved g c =
    let w = g.T.BitStore.BITS in
    let now = c.args.self.now in
    let xs = list_of c.args.view in
    let at = c.loop-done in
    let more = c.min-more.result in
    let put = c.copy_reserved.ensures in
    let few : more ≤ at.done = omega (arith, c.min-more.ensures) in
    let copy = copy_is now.list xs at.self.list at.done more c.len-start.result c.len-len.result few c.len-start.ensures.value c.len-len.ensures.list at.invariant.list in
    record {
      some = omega (arith, at.invariant.some);
      ends = omega (arith, c.min-more.ensures, at.invariant.ends);
      list = copied_more now.list xs at.self.list at.done more c.len-start.result c.len-len.result few c.len-start.ensures.value c.len-len.ensures.list at.invariant.list c.copy_reserved.new.self.list put.list;
      grew = subst (Grew w now c.copy_reserved.new.self) (sym (repeated_sum at.done more xs))
          (grew_twice w now at.self c.copy_reserved.new.self (repeated at.done xs) (repeated more xs) (width_positive w g.met.T.BitStore.width) c.prove_in_words.ensures.size at.invariant.grew
          (subst (Grew w at.self c.copy_reserved.new.self) copy put.row));
      clean = λ was. put.clean (at.invariant.clean was);
      room = omega (arith, at.invariant.room, put.capacity);
      few = at.invariant.few;
      capacity = omega (arith, at.invariant.capacity, put.capacity);
      no_memory = λ h. put.capacity ∙ at.invariant.no_memory h;
    }

pub returns-clause-list : goal.returns-clause-list
returns-clause-list g c =
    let end : c.loop-done.done ≡ c.args.times = omega (arith, c.loop-done-test.false, c.loop-done.invariant.ends) in
    c.loop-done.invariant.list ∙ ap (λ k. c.args.self.now.list ++ repeated k (list_of c.args.view)) end

pub returns-clause-row : goal.returns-clause-row
returns-clause-row g c =
    let end : c.loop-done.done ≡ c.args.times = omega (arith, c.loop-done-test.false, c.loop-done.invariant.ends) in
    subst (λ k. Grew g.T.BitStore.BITS c.args.self.now c.loop-done.self (repeated k (list_of c.args.view))) end c.loop-done.invariant.grew

pub overflow_add-start : goal.overflow_add-start
overflow_add-start g c = grind (arith, common_steps)
