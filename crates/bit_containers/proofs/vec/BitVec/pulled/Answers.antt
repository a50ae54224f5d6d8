use Rattle.std.proofs.Common.{◌≡◌, [], ◌∷◌, ◌++◌, length, ap, subst, ◌∙◌, arith, rules}
use Rattle.std.proofs.lemmas.List.{length_push}
use Rattle.std.specs.Iterator.{Yields}
use Rattle.bit_containers.specs.Making.{highest_bits}
use Rattle.bit_boxed.proofs.Pulling.{yields_more}
use Rattle.bit_containers.proofs.Growing.{highest_bits_none}
use Rattle.bit_containers.proofs.Pulling.{pulled_length, pulled_more}
use Rattle.bit_containers.proofs.vec.BitVec.pulled.Goals as goal

pub loop-bit-init : goal.loop-bit-init
loop-bit-init g c =
    let none = ap length c.new-v.ensures.list in
    record {
      can = search rules;
      finite = search rules;
      list = ap (λ l. l ++ highest_bits 0 0) c.new-v.ensures.list ∙ highest_bits_none 0;
      room = omega arith;
      word = c.gathers-room.ensures.few;
      fits = c.gathers-room.ensures.fits;
      full = c.gathers-room.ensures.full;
      few = omega arith;
    }

pub loop-bit-preserved : goal.loop-bit-preserved
loop-bit-preserved g c =
    let at = c.loop-bit in
    let one = c.in_ok-number.ensures.joined in
    let all = pulled_more at.v.list one.0 c.gather.new.self.list at.number at.got c.in_ok-number.field-0-0 c.in_ok-number.field-0-1 at.yielded c.in-Some.bit at.invariant.list one.1 one.3 in
    let before = pulled_length at.v.list at.number at.got at.yielded at.invariant.list in
    let now = pulled_length c.gather.new.self.list c.in_ok-number.field-0-0 c.in_ok-number.field-0-1 (at.yielded ++ c.in-Some.bit ∷ []) all in
    let more = length_push at.yielded c.in-Some.bit in
    record {
      can = search rules;
      finite = search rules;
      list = all;
      room = c.in_ok-number.ensures.next.0;
      word = c.in_ok-number.ensures.next.1;
      fits = c.in_ok-number.ensures.next.2;
      full = c.in_ok-number.ensures.full;
      few = omega (arith, before, now, more, at.invariant.few, c.if-len-got.false, c.len.ensures.value);
    }

pub returns-then-len-got-clause-too_long : goal.returns-then-len-got-clause-too_long
returns-then-len-got-clause-too_long g c is =
    let at = c.loop-bit in
    let before = pulled_length at.v.list at.number at.got at.yielded at.invariant.list in
    let more = length_push at.yielded c.in-Some.bit in
    let first : c.into_iter-bit-iterator.result ≡ c.args.iter = search rules in (
      at.yielded ++ c.in-Some.bit ∷ [],
      c.next.new.self,
      subst (λ it. Yields g.I.Iterator.next_gives it (at.yielded ++ c.in-Some.bit ∷ []) c.next.new.self) first (yields_more g.I.Iterator.next_gives c.into_iter-bit-iterator.result at.yielded at.bit-iterator c.in-Some.bit c.next.new.self at.yielded_by c.in-Some.ensures.steps),
      omega (arith, before, more, c.if-len-got.true, c.len.ensures.value),
    )

pub returns-in_err-number-clause-memory : goal.returns-in_err-number-clause-memory
returns-in_err-number-clause-memory g c is =
    let at = c.loop-bit in
    let before = pulled_length at.v.list at.number at.got at.yielded at.invariant.list in
    let more = length_push at.yielded c.in-Some.bit in
    let first : c.into_iter-bit-iterator.result ≡ c.args.iter = search rules in (
      at.yielded ++ c.in-Some.bit ∷ [],
      c.next.new.self,
      subst (λ it. Yields g.I.Iterator.next_gives it (at.yielded ++ c.in-Some.bit ∷ []) c.next.new.self) first (yields_more g.I.Iterator.next_gives c.into_iter-bit-iterator.result at.yielded at.bit-iterator c.in-Some.bit c.next.new.self at.yielded_by c.in-Some.ensures.steps),
      omega (arith, more),
      omega (arith, before, more, at.invariant.few, c.if-len-got.false, c.len.ensures.value),
    )

pub returns-in_err-push_le-clause-memory : goal.returns-in_err-push_le-clause-memory
returns-in_err-push_le-clause-memory g c is =
    let at = c.loop-bit in
    let all = pulled_length at.v.list at.number at.got at.yielded at.invariant.list in
    let past = c.in_err-push_le.ensures.refusal.memory (search rules) in
    let first : c.into_iter-bit-iterator.result ≡ c.args.iter = search rules in (
      at.yielded,
      at.bit-iterator,
      subst (λ it. Yields g.I.Iterator.next_gives it at.yielded at.bit-iterator) first at.yielded_by,
      omega (arith, all, past, c.prove_in_words.ensures.room),
      omega (arith, all, at.invariant.few),
    )

pub returns-clause-few : goal.returns-clause-few
returns-clause-few g c =
    let at = c.loop-bit in
    let all = pulled_length at.v.list at.number at.got at.yielded at.invariant.list in
    let list = ap length (rw c.shifted_down.ensures at c.in_ok-push_le.ensures.list ∙ at.invariant.list) in
    omega (arith, all, list, at.invariant.few)
