use Rattle.std.proofs.Common.{◌+◌, [], ◌∷◌, ◌++◌, length, sym, arith, rules, append-nil}
use Rattle.std.proofs.lemmas.List.{length_push}
use Rattle.std.proofs.lemmas.Grind.{common_steps}
use Rattle.bit_addressing.proofs.Rows.{width_positive}
use Rattle.bit_rows.proofs.Binary.{length-number_bits}
use Rattle.bit_containers.proofs.Growing.{grew_none, highest_bits_none, wanted_fits}
use Rattle.bit_boxed.proofs.Pulling.{yields_more}
use Rattle.bit_containers.proofs.Pulling.{gathers_more, gathers_all, gathers_length, grown_more}
use Rattle.bit_containers.proofs.vec.BitVec.extend_by.Goals as goal

pub loop-bit-init : goal.loop-bit-init
loop-bit-init g c =
    let now = c.args.self.now in
    let may = c.requires c.into_iter-bit-iterator.result c.into_iter-bit-iterator.ensures.into_iter_gives in
    record {
      can = may.0;
      finite = may.1;
      joined = ([], sym (append-nil now.list), grew_none g.T.BitStore.BITS now c.prove_in_words.ensures.size, highest_bits_none 0);
      room = omega arith;
      word = c.gathers-most.ensures.few;
      few = c.gathers-most.ensures.fits;
      full = c.gathers-most.ensures.full;
      capacity = omega arith;
      grown = λ past. absurd (omega (arith, past));
    }

pub loop-bit-preserved : goal.loop-bit-preserved
loop-bit-preserved g c =
    let w = g.T.BitStore.BITS in
    let now = c.args.self.now in
    let at = c.loop-bit in
    let one = c.in-Ok.ensures.joined in
    let joined = gathers_more w now (width_positive w g.met.T.BitStore.width) c.prove_in_words.ensures.size at.self c.gather.new.self at.number at.got c.in-Ok.next.0 c.in-Ok.next.1 at.yielded c.in-Some.bit at.invariant.joined one.0 one.1 one.2 one.3 in
    let before = gathers_length w now at.self at.number at.got at.yielded at.invariant.joined in
    let after = gathers_length w now c.gather.new.self c.in-Ok.next.0 c.in-Ok.next.1 (at.yielded ++ c.in-Some.bit ∷ []) joined in
    let more = length_push at.yielded c.in-Some.bit in
    record {
      can = search rules;
      finite = search rules;
      joined = joined;
      room = c.in-Ok.ensures.next.0;
      word = c.in-Ok.ensures.next.1;
      few = c.in-Ok.ensures.next.2;
      full = c.in-Ok.ensures.full;
      capacity = omega (arith, at.invariant.capacity, c.gather.ensures.capacity);
      grown = grown_more now.capacity at.self.capacity c.gather.new.self.capacity (length at.self.list + at.got) (length c.gather.new.self.list + c.in-Ok.next.1) at.invariant.capacity c.gather.ensures.no_memory at.invariant.grown (omega (arith, before, after, more));
    }

pub returns-in-Err-clause-too_long : goal.returns-in-Err-clause-too_long
returns-in-Err-clause-too_long g c is =
    let at = c.loop-bit in
    let size = gathers_length g.T.BitStore.BITS c.args.self.now at.self at.number at.got at.yielded at.invariant.joined in
    let more = length_push at.yielded c.in-Some.bit in
    let past = c.in-Err.ensures.refusal.too_long.0 (search rules) in (
      c.into_iter-bit-iterator.result,
      at.yielded ++ c.in-Some.bit ∷ [],
      c.next.new.self,
      c.into_iter-bit-iterator.ensures.into_iter_gives,
      yields_more g.I.IntoIter.Iterator.next_gives c.into_iter-bit-iterator.result at.yielded at.bit-iterator c.in-Some.bit c.next.new.self at.yielded_by c.in-Some.ensures.steps,
      omega arith,
    )

pub returns-in-Err-clause-memory : goal.returns-in-Err-clause-memory
returns-in-Err-clause-memory g c is =
    let at = c.loop-bit in
    let size = gathers_length g.T.BitStore.BITS c.args.self.now at.self at.number at.got at.yielded at.invariant.joined in
    let more = length_push at.yielded c.in-Some.bit in
    let past = c.in-Err.ensures.refusal.memory (search rules) in
    let few = wanted_fits _ _ _ _ c.in-Err.ensures.refusal (search rules) in
    let kept = at.invariant.capacity in (
      c.into_iter-bit-iterator.result,
      at.yielded ++ c.in-Some.bit ∷ [],
      c.next.new.self,
      c.into_iter-bit-iterator.ensures.into_iter_gives,
      yields_more g.I.IntoIter.Iterator.next_gives c.into_iter-bit-iterator.result at.yielded at.bit-iterator c.in-Some.bit c.next.new.self at.yielded_by c.in-Some.ensures.steps,
      (omega arith, omega arith),
    )

pub returns-in-Err-push_le-clause-memory : goal.returns-in-Err-push_le-clause-memory
returns-in-Err-push_le-clause-memory g c is =
    let at = c.loop-bit in
    let size = gathers_length g.T.BitStore.BITS c.args.self.now at.self at.number at.got at.yielded at.invariant.joined in
    let past = c.in-Err-push_le.ensures.refusal.memory (search rules) in
    let few = wanted_fits _ _ _ _ c.in-Err-push_le.ensures.refusal (search rules) in
    let kept = at.invariant.capacity in (
      c.into_iter-bit-iterator.result,
      at.yielded,
      at.bit-iterator,
      c.into_iter-bit-iterator.ensures.into_iter_gives,
      at.yielded_by,
      (omega arith, omega arith),
    )

pub returns-clause-joined : goal.returns-clause-joined
returns-clause-joined g c =
    let w = g.T.BitStore.BITS in
    let at = c.loop-bit in
    let list = rw c.shifted_down.ensures at c.in_default.ensures.list in
    let row = rw c.shifted_down.ensures at c.in_default.ensures.row in (
      c.into_iter-bit-iterator.result,
      at.yielded,
      c.into_iter-bit-iterator.ensures.into_iter_gives,
      (c.next.new.self, (at.bit-iterator, at.yielded_by, c.in-None.ensures.steps)),
      gathers_all w c.args.self.now (width_positive w g.met.T.BitStore.width) c.prove_in_words.ensures.size at.self c.push_le.new.self at.number at.got at.yielded at.invariant.joined list row,
    )

pub returns-clause-few : goal.returns-clause-few
returns-clause-few g c =
    let size = length-number_bits c.shifted_down.result c.loop-bit.got in
    omega (arith, c.in_default.ensures.row.len)

pub returns-in-Err-clause-unchanged : goal.returns-in-Err-clause-unchanged
returns-in-Err-clause-unchanged g c = grind (arith, common_steps)

pub returns-in-Err-push_le-clause-unchanged : goal.returns-in-Err-push_le-clause-unchanged
returns-in-Err-push_le-clause-unchanged g c = grind (arith, common_steps)

pub returns-in-Err-clause-grown : goal.returns-in-Err-clause-grown
returns-in-Err-clause-grown g c past =
    let at = c.loop-bit in
    let size = gathers_length g.T.BitStore.BITS c.args.self.now at.self at.number at.got at.yielded at.invariant.joined in
    let more = length_push at.yielded c.in-Some.bit in (
      c.into_iter-bit-iterator.result,
      at.yielded ++ c.in-Some.bit ∷ [],
      c.next.new.self,
      c.into_iter-bit-iterator.ensures.into_iter_gives,
      yields_more g.I.IntoIter.Iterator.next_gives c.into_iter-bit-iterator.result at.yielded at.bit-iterator c.in-Some.bit c.next.new.self at.yielded_by c.in-Some.ensures.steps,
      grown_more c.args.self.now.capacity at.self.capacity c.gather.new.self.capacity (length at.self.list + at.got) (length c.args.self.now.list + length (at.yielded ++ c.in-Some.bit ∷ [])) at.invariant.capacity c.gather.ensures.no_memory at.invariant.grown (omega (arith, size, more)) (omega (arith, past, c.truncate.ensures.row.capacity)),
    )

pub returns-in-Err-push_le-clause-grown : goal.returns-in-Err-push_le-clause-grown
returns-in-Err-push_le-clause-grown g c past =
    let at = c.loop-bit in
    let size = gathers_length g.T.BitStore.BITS c.args.self.now at.self at.number at.got at.yielded at.invariant.joined in (
      c.into_iter-bit-iterator.result,
      at.yielded,
      at.bit-iterator,
      c.into_iter-bit-iterator.ensures.into_iter_gives,
      at.yielded_by,
      grown_more c.args.self.now.capacity at.self.capacity c.push_le.new.self.capacity (length at.self.list + at.got) (length c.args.self.now.list + length at.yielded) at.invariant.capacity c.push_le.ensures.no_memory at.invariant.grown (omega (arith, size)) (omega (arith, past, c.truncate-in-Err-push_le.ensures.row.capacity)),
    )

pub returns-clause-grown : goal.returns-clause-grown
returns-clause-grown g c past =
    let at = c.loop-bit in
    let size = gathers_length g.T.BitStore.BITS c.args.self.now at.self at.number at.got at.yielded at.invariant.joined in (
      c.into_iter-bit-iterator.result,
      at.yielded,
      at.bit-iterator,
      c.into_iter-bit-iterator.ensures.into_iter_gives,
      at.yielded_by,
      grown_more c.args.self.now.capacity at.self.capacity c.push_le.new.self.capacity (length at.self.list + at.got) (length c.args.self.now.list + length at.yielded) at.invariant.capacity c.push_le.ensures.no_memory at.invariant.grown (omega (arith, size)) past,
    )
