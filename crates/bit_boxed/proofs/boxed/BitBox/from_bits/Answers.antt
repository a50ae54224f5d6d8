use Rattle.std.proofs.Common.{◌≡◌, ◌+◌, ◌*◌, [], ◌∷◌, ◌++◌, length, refl, sym, ◌∙◌, ap, arith, rules}
use Rattle.std.proofs.lemmas.List.{length_push}
use Rattle.std.proofs.iter.runs.Consumers.{total_runs}
use Rattle.bit_addressing.specs.Row.{sized, words_for}
use Rattle.bit_addressing.specs.Typed.{row}
use Rattle.bit_addressing.proofs.lists.Sized.{words_for_all}
use Rattle.bit_addressing.proofs.Rows.{row_of_none, sized_none, width_positive}
use Rattle.bit_boxed.proofs.Pulling.{yields_more, one_more, shows_all}
use Rattle.bit_boxed.proofs.boxed.BitBox.from_bits.Goals as goal

pub loop-bit-init : goal.loop-bit-init
loop-bit-init g c =
    let w = g.T.BitStore.BITS in
    let positive = width_positive w g.met.T.BitStore.width in
    let may = c.requires c.into_iter-bit-iterator.result c.into_iter-bit-iterator.ensures.into_iter_gives in
    let none : w * 0 ≡ 0 = omega arith in
    record {
      can = may.0;
      finite = may.1;
      count = ap length c.new-words.ensures.items ∙ words_for_all w 0 positive ∙ ap (words_for w) none;
      row = ap (row g.T.BitStore g.O.BitOrder) c.new-words.ensures.items ∙ row_of_none g.O.BitOrder.place w ∙ sym (sized_none w positive);
      size = refl;
      few = omega arith;
    }

pub returns-then-len-eq-MAX_BITS-clause-too_long : goal.returns-then-len-eq-MAX_BITS-clause-too_long
returns-then-len-eq-MAX_BITS-clause-too_long g c is =
    let at = c.loop-bit in
    let more = length_push at.yielded c.in-Some.bit in (
      c.into_iter-bit-iterator.result,
      at.yielded ++ c.in-Some.bit ∷ [],
      c.next.new.self,
      c.into_iter-bit-iterator.ensures.into_iter_gives,
      yields_more g.I.IntoIter.Iterator.next_gives c.into_iter-bit-iterator.result at.yielded at.bit-iterator c.in-Some.bit c.next.new.self at.yielded_by c.in-Some.ensures.steps,
      omega (arith, more, at.invariant.size, c.if-len-eq-MAX_BITS.true),
    )

pub returns-in_err-push_bit_in_vec-clause-memory : goal.returns-in_err-push_bit_in_vec-clause-memory
returns-in_err-push_bit_in_vec-clause-memory g c is =
    let at = c.loop-bit in
    let more = length_push at.yielded c.in-Some.bit in (
      c.into_iter-bit-iterator.result,
      at.yielded ++ c.in-Some.bit ∷ [],
      c.next.new.self,
      c.into_iter-bit-iterator.ensures.into_iter_gives,
      yields_more g.I.IntoIter.Iterator.next_gives c.into_iter-bit-iterator.result at.yielded at.bit-iterator c.in-Some.bit c.next.new.self at.yielded_by c.in-Some.ensures.steps,
      (omega (arith, more), omega (arith, more, at.invariant.size, at.invariant.few, c.if-len-eq-MAX_BITS.false)),
    )

pub loop-bit-preserved : goal.loop-bit-preserved
loop-bit-preserved g c =
    let w = g.T.BitStore.BITS in
    let at = c.loop-bit in
    record {
      can = search rules;
      finite = search rules;
      count = c.in_ok-push_bit_in_vec.ensures.size;
      row = c.in_ok-push_bit_in_vec.ensures.bits ∙ one_more w (row g.T.BitStore g.O.BitOrder at.words.items) at.yielded at.len c.in-Some.bit (width_positive w g.met.T.BitStore.width) at.invariant.size at.invariant.row;
      size = length_push at.yielded c.in-Some.bit ∙ ap (λ n. n + 1) at.invariant.size;
      few = omega (arith, at.invariant.few, c.if-len-eq-MAX_BITS.false);
    }

pub returns-clause-list : goal.returns-clause-list
returns-clause-list g c =
    let w = g.T.BitStore.BITS in
    let at = c.loop-bit in (
      c.into_iter-bit-iterator.result,
      at.yielded,
      c.into_iter-bit-iterator.ensures.into_iter_gives,
      (c.next.new.self, (at.bit-iterator, at.yielded_by, c.in-None.ensures.steps)),
      c.of_parts.ensures.list ∙ shows_all w (row g.T.BitStore g.O.BitOrder at.words.items) at.yielded at.len (width_positive w g.met.T.BitStore.width) at.invariant.size at.invariant.row,
    )

pub returns-clause-runs : goal.returns-clause-runs
returns-clause-runs g c =
    let h = returns-clause-list g c in
    (h.0, h.2, total_runs g.I.IntoIter.Iterator.next_gives h.0 (Unit {0}) (λ bits. c.of_parts.result.list ≡ bits) (h.1, λ _. h.3, h.4) tt)

pub returns-clause-clean : goal.returns-clause-clean
returns-clause-clean g c =
    let w = g.T.BitStore.BITS in
    let at = c.loop-bit in
    let list : c.of_parts.result.list ≡ at.yielded = c.of_parts.ensures.list ∙ shows_all w (row g.T.BitStore g.O.BitOrder at.words.items) at.yielded at.len (width_positive w g.met.T.BitStore.width) at.invariant.size at.invariant.row in
    record {
      head = c.of_parts.ensures.head;
      row = c.of_parts.ensures.row ∙ at.invariant.row ∙ ap (sized w at.yielded) (sym at.invariant.size ∙ ap length (sym list)) ∙ ap (λ l. sized w l (length c.of_parts.result.list)) (sym list);
    }
