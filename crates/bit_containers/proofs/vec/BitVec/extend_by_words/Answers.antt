use Rattle.std.proofs.Common.{◌≡◌, ◌+◌, ◌*◌, [], ◌∷◌, ◌++◌, length, refl, sym, ◌∙◌, ap, subst, arith, rules, append-nil, append_assoc}
use Rattle.std.proofs.lemmas.List.{length_push}
use Rattle.bit_addressing.specs.Typed.{row}
use Rattle.bit_addressing.proofs.Typed.{length_row}
use Rattle.bit_addressing.proofs.Rows.{width_positive, row_of_none}
use Rattle.bit_containers.specs.BitVec.{Grew}
use Rattle.bit_containers.proofs.Growing.{grew_none, grew_twice}
use Rattle.bit_containers.proofs.Growing.{wanted_fits}
use Rattle.bit_boxed.proofs.Pulling.{yields_more}
use Rattle.bit_containers.proofs.Pulling.{grown_more, row_more, words_more}
use Rattle.bit_containers.proofs.vec.BitVec.extend_by_words.Goals as goal

pub loop-word-init : goal.loop-word-init
loop-word-init g c =
    let now = c.args.self.now in
    let may = c.requires c.into_iter-word-iterator.result c.into_iter-word-iterator.ensures.into_iter_gives in
    let none = row_of_none g.O.BitOrder.place g.T.BitStore.BITS in
    record {
      can = may.0;
      finite = may.1;
      list = sym (append-nil now.list) ∙ ap (λ l. now.list ++ l) (sym none);
      grew = subst (Grew g.T.BitStore.BITS now now) (sym none) (grew_none g.T.BitStore.BITS now c.prove_in_words.ensures.size);
      capacity = omega arith;
      grown = λ past. absurd (omega (arith, past));
    }

pub loop-word-preserved : goal.loop-word-preserved
loop-word-preserved g c =
    let w = g.T.BitStore.BITS in
    let now = c.args.self.now in
    let at = c.loop-word in
    let bits = row g.T.BitStore g.O.BitOrder in
    let positive = width_positive w g.met.T.BitStore.width in
    let one = c.in-Some.word ∷ [] in
    let more : bits at.yielded ++ bits one ≡ bits (at.yielded ++ one) = sym (row_more g.T.BitStore g.O.BitOrder at.yielded c.in-Some.word positive) in
    record {
      can = search rules;
      finite = search rules;
      list = c.in_default.ensures.list ∙ ap (λ l. l ++ bits one) at.invariant.list ∙ append_assoc now.list (bits at.yielded) (bits one) ∙ ap (λ l. now.list ++ l) more;
      grew = subst (Grew w now c.extend_from_word.new.self) more (grew_twice w now at.self c.extend_from_word.new.self (bits at.yielded) (bits one) positive c.prove_in_words.ensures.size at.invariant.grew c.in_default.ensures.row);
      capacity = omega (arith, at.invariant.capacity, c.extend_from_word.ensures.capacity);
      grown = grown_more now.capacity at.self.capacity c.extend_from_word.new.self.capacity (length at.self.list + w) (length c.extend_from_word.new.self.list) at.invariant.capacity c.extend_from_word.ensures.no_memory (λ past. let so = at.invariant.grown past in omega arith) (omega (arith, c.in_default.ensures.row.len, length_row g.T.BitStore.value g.O.BitOrder.place w one, words_more w 0 1 refl));
    }

pub returns-in-Err-clause-too_long : goal.returns-in-Err-clause-too_long
returns-in-Err-clause-too_long g c is =
    let w = g.T.BitStore.BITS in
    let at = c.loop-word in
    let so_far : length at.self.list ≡ length c.args.self.now.list + w * length at.yielded = at.invariant.grew.len ∙ ap (λ n. length c.args.self.now.list + n) (length_row g.T.BitStore.value g.O.BitOrder.place w at.yielded) in
    let more = words_more w (length at.yielded) (length (at.yielded ++ c.in-Some.word ∷ [])) (length_push at.yielded c.in-Some.word) in
    let past = c.in-Err.ensures.refusal.too_long.0 (search rules) in (
      c.into_iter-word-iterator.result,
      at.yielded ++ c.in-Some.word ∷ [],
      c.next.new.self,
      c.into_iter-word-iterator.ensures.into_iter_gives,
      yields_more g.I.IntoIter.Iterator.next_gives c.into_iter-word-iterator.result at.yielded at.word-iterator c.in-Some.word c.next.new.self at.yielded_by c.in-Some.ensures.steps,
      omega arith,
    )

pub returns-in-Err-clause-memory : goal.returns-in-Err-clause-memory
returns-in-Err-clause-memory g c is =
    let w = g.T.BitStore.BITS in
    let at = c.loop-word in
    let so_far : length at.self.list ≡ length c.args.self.now.list + w * length at.yielded = at.invariant.grew.len ∙ ap (λ n. length c.args.self.now.list + n) (length_row g.T.BitStore.value g.O.BitOrder.place w at.yielded) in
    let more = words_more w (length at.yielded) (length (at.yielded ++ c.in-Some.word ∷ [])) (length_push at.yielded c.in-Some.word) in
    let past = c.in-Err.ensures.refusal.memory (search rules) in
    let few = wanted_fits _ _ _ _ c.in-Err.ensures.refusal (search rules) in
    let kept = at.invariant.capacity in (
      c.into_iter-word-iterator.result,
      at.yielded ++ c.in-Some.word ∷ [],
      c.next.new.self,
      c.into_iter-word-iterator.ensures.into_iter_gives,
      yields_more g.I.IntoIter.Iterator.next_gives c.into_iter-word-iterator.result at.yielded at.word-iterator c.in-Some.word c.next.new.self at.yielded_by c.in-Some.ensures.steps,
      (omega arith, omega arith),
    )

pub returns-in-Err-clause-grown : goal.returns-in-Err-clause-grown
returns-in-Err-clause-grown g c past =
    let w = g.T.BitStore.BITS in
    let now = c.args.self.now in
    let at = c.loop-word in
    let so_far : length at.self.list ≡ length now.list + w * length at.yielded = at.invariant.grew.len ∙ ap (λ n. length now.list + n) (length_row g.T.BitStore.value g.O.BitOrder.place w at.yielded) in
    let more = words_more w (length at.yielded) (length (at.yielded ++ c.in-Some.word ∷ [])) (length_push at.yielded c.in-Some.word) in (
      c.into_iter-word-iterator.result,
      at.yielded ++ c.in-Some.word ∷ [],
      c.next.new.self,
      c.into_iter-word-iterator.ensures.into_iter_gives,
      yields_more g.I.IntoIter.Iterator.next_gives c.into_iter-word-iterator.result at.yielded at.word-iterator c.in-Some.word c.next.new.self at.yielded_by c.in-Some.ensures.steps,
      grown_more now.capacity at.self.capacity c.extend_from_word.new.self.capacity (length at.self.list + w) (length now.list + w * length (at.yielded ++ c.in-Some.word ∷ [])) at.invariant.capacity c.extend_from_word.ensures.no_memory (λ longer. let so = at.invariant.grown longer in omega arith) (omega (arith, so_far, more)) (omega (arith, past, c.truncate.ensures.row.capacity)),
    )

pub returns-clause-grown : goal.returns-clause-grown
returns-clause-grown g c past =
    let w = g.T.BitStore.BITS in
    let now = c.args.self.now in
    let at = c.loop-word in
    let so_far : length at.self.list ≡ length now.list + w * length at.yielded = at.invariant.grew.len ∙ ap (λ n. length now.list + n) (length_row g.T.BitStore.value g.O.BitOrder.place w at.yielded) in
    let long = at.invariant.grown past in (
      c.into_iter-word-iterator.result,
      at.yielded,
      at.word-iterator,
      c.into_iter-word-iterator.ensures.into_iter_gives,
      at.yielded_by,
      omega (arith, so_far, long),
    )
