use Rattle.std.proofs.Common.{◌≡◌, ℕ, ◌+◌, ◌*◌, ◌^◌, ◌<◌, ◌++◌, List, [], ◌∷◌, Err, append-nil, append_assoc, length, take, refl, sym, subst, ◌∙◌, ap, arith, rules}
use Rattle.std.specs.declared.option.Option.TheVariants.{Some}
use Rattle.std.proofs.iter.Next.{Yields-more}
use Rattle.std.proofs.iter.runs.Consumers.{total_runs}
use Rattle.std.proofs.lemmas.List.{length-append}
use Rattle.std.proofs.Math.Seq.{take-append_seam}
use Rattle.std.proofs.lemmas.List.Elements.{All-pop}
use Rattle.bit_addressing.proofs.lists.Sized.{one_more_word}
use Rattle.bit_containers.specs.BitVec.{IsClean}
use Rattle.bit_containers.proofs.Pulling.{grown_more, never_grown, never_refused}
use Rattle.bit_records.proofs.Numbers.{count_of}
use Rattle.bit_records.proofs.records.Records.extend.Goals as goal

pub loop-number-init : goal.loop-number-init
loop-number-init g c =
    let now = c.args.self.now in
    let may = c.requires c.into_iter-number-iterator.result c.into_iter-number-iterator.ensures.into_iter_gives in
    record {
      can = may.0;
      finite = may.1;
      list = sym (append-nil now.list);
      width = refl;
      clean = subst (λ r. IsClean g.T.BitStore.BITS r.bits) c.self.view_is c.self.invariant.clean;
      capacity = omega arith;
      grown = λ past. absurd (omega (arith, past));
    }

-- bits of a number more
one_more : (xs ys : List ℕ) (x w v : ℕ) → ys ≡ xs ++ x ∷ [] → v ≡ w → length ys * v ≡ length xs * w + w
one_more xs ys x w v is same =
    let size : length ys ≡ length xs + 1 = ap length is ∙ length-append xs (x ∷ []) in
    let sum = one_more_word (length xs) w in
    ap (λ n. n * v) size ∙ ap (λ n. (length xs + 1) * n) same ∙ omega arith

-- the bits up to the next number
next_bits : (xs ys ns : List ℕ) (x w v : ℕ) → ys ≡ xs ++ ns → v ≡ w → length ys * v + v ≡ (length xs + length (ns ++ x ∷ [])) * w
next_bits xs ys ns x w v is same =
    let size : length ys ≡ length xs + length ns = ap length is ∙ length-append xs ns in
    let more : length (ns ++ x ∷ []) ≡ length ns + 1 = length-append ns (x ∷ []) in
    let sum = one_more_word (length xs + length ns) w in
    let all : length xs + length (ns ++ x ∷ []) ≡ length xs + length ns + 1 = omega arith in
    ap (λ n. n * v + v) size ∙ ap (λ n. (length xs + length ns) * n + n) same ∙ (let e : (length xs + length ns) * w + w ≡ (length xs + length ns + 1) * w = omega arith in e) ∙ ap (λ n. n * w) (sym all)

these_bits : (xs ys ns : List ℕ) (w v : ℕ) → ys ≡ xs ++ ns → v ≡ w → length ys * v ≡ (length xs + length ns) * w
these_bits xs ys ns w v is same = ap (λ n. n * v) (ap length is ∙ length-append xs ns) ∙ ap (λ n. (length xs + length ns) * n) same

pub push-requires : goal.push-requires
push-requires g c =
    let it = c.into_iter-number-iterator in
    let at = c.loop-number in
    let x = c.in-Some.number in
    let more = Yields-more g.I.IntoIter.Iterator.next_gives it.result at.yielded at.number-iterator x c.next.new.self at.yielded_by c.in-Some.ensures.steps in
    let all = (c.requires it.result it.ensures.into_iter_gives).2 (at.yielded ++ x ∷ []) c.next.new.self more in
    subst (λ w. x < 2 ^ w) (sym at.invariant.width) (All-pop (λ number. number < 2 ^ c.args.self.now.width) (at.yielded ++ x ∷ []) at.yielded (Some x) refl all).1

pub loop-number-preserved : goal.loop-number-preserved
loop-number-preserved g c =
    let now = c.args.self.now in
    let at = c.loop-number in
    let x = c.in-Some.number in
    let e = c.in-Ok.ensures in
    let more = one_more at.self.list c.push.new.self.list x at.self.width c.push.new.self.width e.list e.width in
    record {
      can = search rules;
      finite = search rules;
      list = e.list ∙ ap (λ l. l ++ x ∷ []) at.invariant.list ∙ append_assoc now.list at.yielded (x ∷ []);
      width = e.width ∙ at.invariant.width;
      clean = e.clean;
      capacity = omega (arith, at.invariant.capacity, e.capacity);
      grown = grown_more now.bits.capacity at.self.bits.capacity c.push.new.self.bits.capacity (length at.self.list * at.self.width + at.self.width) (length c.push.new.self.list * c.push.new.self.width)
          at.invariant.capacity e.no_memory (λ past. let had = at.invariant.grown past in omega arith) (omega (arith, more));
    }

pub returns-in-Err-clause-too_long : goal.returns-in-Err-clause-too_long
returns-in-Err-clause-too_long g c is =
    let now = c.args.self.now in
    let at = c.loop-number in
    let it = c.into_iter-number-iterator in
    let x = c.in-Some.number in
    let past = c.push.ensures.too_long.0 (search rules) in
    let bits = next_bits now.list at.self.list at.yielded x now.width at.self.width at.invariant.list at.invariant.width in (
      it.result,
      at.yielded ++ x ∷ [],
      c.next.new.self,
      it.ensures.into_iter_gives,
      Yields-more g.I.IntoIter.Iterator.next_gives it.result at.yielded at.number-iterator x c.next.new.self at.yielded_by c.in-Some.ensures.steps,
      omega (arith, past, bits),
    )

pub returns-in-Err-clause-memory : goal.returns-in-Err-clause-memory
returns-in-Err-clause-memory g c is =
    let now = c.args.self.now in
    let at = c.loop-number in
    let it = c.into_iter-number-iterator in
    let x = c.in-Some.number in
    let past = c.push.ensures.memory (search rules) in
    let kept = at.invariant.capacity in
    let bits = next_bits now.list at.self.list at.yielded x now.width at.self.width at.invariant.list at.invariant.width in (
      it.result,
      at.yielded ++ x ∷ [],
      c.next.new.self,
      it.ensures.into_iter_gives,
      Yields-more g.I.IntoIter.Iterator.next_gives it.result at.yielded at.number-iterator x c.next.new.self at.yielded_by c.in-Some.ensures.steps,
      omega (arith, past, bits, kept),
    )

pub returns-in-Err-clause-fits : goal.returns-in-Err-clause-fits
returns-in-Err-clause-fits g c =
    let now = c.args.self.now in
    never_refused g.I.IntoIterator.into_iter_gives g.I.IntoIter.Iterator.next_gives c.args.iter (λ numbers. (length now.list + length numbers) * now.width) now.bits.capacity (Err c.in-Err.why)
    (returns-in-Err-clause-too_long g c) (returns-in-Err-clause-memory g c)

pub returns-in-Err-clause-unchanged : goal.returns-in-Err-clause-unchanged
returns-in-Err-clause-unchanged g c =
    let i = c.self.inside in
    let inv = c.self.invariant in
    let now = c.args.self.now in
    let at = c.loop-number in
    let len : i.len ≡ length now.list = sym (count_of i.width i.len i.bits.list inv.some inv.size) ∙ ap (λ r. length r.list) c.self.view_is in
    record {
      width = c.truncate.ensures.width ∙ c.in-Err.ensures.unchanged.width ∙ at.invariant.width;
      list = c.truncate.ensures.list ∙ ap (take i.len) (c.in-Err.ensures.unchanged.list ∙ at.invariant.list) ∙ ap (λ n. take n (now.list ++ at.yielded)) len ∙ take-append_seam now.list at.yielded;
    }

pub returns-in-Err-clause-no_memory : goal.returns-in-Err-clause-no_memory
returns-in-Err-clause-no_memory g c =
    let now = c.args.self.now in
    let at = c.loop-number in
    let it = c.into_iter-number-iterator in
    let x = c.in-Some.number in
    let bits = next_bits now.list at.self.list at.yielded x now.width at.self.width at.invariant.list at.invariant.width in
    never_grown g.I.IntoIterator.into_iter_gives g.I.IntoIter.Iterator.next_gives c.args.iter (λ numbers. (length now.list + length numbers) * now.width) now.bits.capacity c.truncate.new.self.bits.capacity
    (omega (arith, at.invariant.capacity, c.push.ensures.capacity, c.truncate.ensures.capacity))
    (λ past. (
      it.result,
      at.yielded ++ x ∷ [],
      c.next.new.self,
      it.ensures.into_iter_gives,
      Yields-more g.I.IntoIter.Iterator.next_gives it.result at.yielded at.number-iterator x c.next.new.self at.yielded_by c.in-Some.ensures.steps,
      grown_more now.bits.capacity at.self.bits.capacity c.push.new.self.bits.capacity (length at.self.list * at.self.width + at.self.width) ((length now.list + length (at.yielded ++ x ∷ [])) * now.width)
          at.invariant.capacity c.push.ensures.no_memory (λ more. let had = at.invariant.grown more in omega arith) (omega (arith, bits)) (omega (arith, past, c.truncate.ensures.capacity)),
    ))

pub returns-clause-joined : goal.returns-clause-joined
returns-clause-joined g c =
    let at = c.loop-number in
    let it = c.into_iter-number-iterator in
    (it.result, at.yielded, it.ensures.into_iter_gives, (c.next.new.self, (at.number-iterator, at.yielded_by, c.in-None.ensures.steps)), at.invariant.list)

pub returns-clause-runs : goal.returns-clause-runs
returns-clause-runs g c =
    let at = c.loop-number in
    let it = c.into_iter-number-iterator in (
      it.result,
      it.ensures.into_iter_gives,
      total_runs g.I.IntoIter.Iterator.next_gives it.result (Unit {0}) (λ numbers. at.self.list ≡ c.args.self.now.list ++ numbers) (at.yielded, λ _. (c.next.new.self, (at.number-iterator, at.yielded_by, c.in-None.ensures.steps)), at.invariant.list) tt,
    )

pub returns-clause-no_memory : goal.returns-clause-no_memory
returns-clause-no_memory g c =
    let now = c.args.self.now in
    let at = c.loop-number in
    let it = c.into_iter-number-iterator in
    let bits = these_bits now.list at.self.list at.yielded now.width at.self.width at.invariant.list at.invariant.width in
    never_grown g.I.IntoIterator.into_iter_gives g.I.IntoIter.Iterator.next_gives c.args.iter (λ numbers. (length now.list + length numbers) * now.width) now.bits.capacity at.self.bits.capacity at.invariant.capacity
    (λ past. (it.result, at.yielded, at.number-iterator, it.ensures.into_iter_gives, at.yielded_by, (let had = at.invariant.grown past in omega (arith, bits, had))))
