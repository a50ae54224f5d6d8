use Rattle.std.proofs.Common.{◌≡◌, ◌+◌, ◌*◌, ◌<◌, ◌≤◌, [], ◌∷◌, ◌++◌, length, sym, ◌∙◌, ap, arith, rules}
use Rattle.std.proofs.lemmas.List.{length_push}
use Rattle.bit_addressing.specs.declared.length.TheConstants.{MAX_BITS}
use Rattle.std.proofs.iter.runs.Consumers.{total_runs}
use Rattle.bit_boxed.proofs.Pulling.{yields_more}
use Rattle.bit_containers.proofs.vec.BitVec.from_words.Goals as goal

pub returns-then-not-fits-clause-too_long : goal.returns-then-not-fits-clause-too_long
returns-then-not-fits-clause-too_long g c is =
    let at = c.loop-word in
    let w = g.T.BitStore.BITS in
    let past : MAX_BITS < w * (c.len.result + 1) = search rules in
    let size : length (at.yielded ++ c.in-Some.word ∷ []) ≡ c.len.result + 1 = length_push at.yielded c.in-Some.word ∙ ap (λ n. n + 1) (sym (ap length at.invariant.words)) ∙ search rules in
    let bits : w * length (at.yielded ++ c.in-Some.word ∷ []) ≡ w * (c.len.result + 1) = ap (λ n. w * n) size in (
      c.into_iter-word-iterator.result,
      at.yielded ++ c.in-Some.word ∷ [],
      c.next.new.self,
      c.into_iter-word-iterator.ensures.into_iter_gives,
      yields_more g.I.IntoIter.Iterator.next_gives c.into_iter-word-iterator.result at.yielded at.word-iterator c.in-Some.word c.next.new.self at.yielded_by c.in-Some.ensures.steps,
      omega arith,
    )

pub returns-in_default-clause-memory : goal.returns-in_default-clause-memory
returns-in_default-clause-memory g c is =
    let at = c.loop-word in
    let w = g.T.BitStore.BITS in
    let size : length (at.yielded ++ c.in-Some.word ∷ []) ≡ c.len.result + 1 = length_push at.yielded c.in-Some.word ∙ ap (λ n. n + 1) (sym (ap length at.invariant.words)) ∙ search rules in
    let bits : w * length (at.yielded ++ c.in-Some.word ∷ []) ≡ w * (c.len.result + 1) = ap (λ n. w * n) size in
    let few : w * (c.len.result + 1) ≤ MAX_BITS = search rules in (
      c.into_iter-word-iterator.result,
      at.yielded ++ c.in-Some.word ∷ [],
      c.next.new.self,
      c.into_iter-word-iterator.ensures.into_iter_gives,
      yields_more g.I.IntoIter.Iterator.next_gives c.into_iter-word-iterator.result at.yielded at.word-iterator c.in-Some.word c.next.new.self at.yielded_by c.in-Some.ensures.steps,
      (omega arith, omega arith),
    )

pub returns-clause-runs : goal.returns-clause-runs
returns-clause-runs g c =
    let at = c.loop-word in
    let steps = g.I.IntoIter.Iterator.next_gives in
    let it = c.into_iter-word-iterator.result in (
      it,
      c.into_iter-word-iterator.ensures.into_iter_gives,
      total_runs steps it (Unit {0}) (λ words. c.from_vec.result.words ≡ words) (at.yielded, λ _. (c.next.new.self, (at.word-iterator, at.yielded_by, c.in-None.ensures.steps)), c.from_vec.ensures.words ∙ at.invariant.words) tt,
    )
