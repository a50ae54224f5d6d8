use Rattle.std.proofs.Common.{◌≡◌, ℕ, ◌+◌, ◌-◌, ◌<◌, [], ◌∷◌, ◌++◌, Bool, true, false, if◌then◌else◌, length-append, replicate, slice_range, slice_index_or, refl, sym, subst, ◌∙◌, ap, arith}
use Rattle.std.specs.Bool.{MatchBool}
use Rattle.std.proofs.lemmas.List.{length-replicate}
use Rattle.bit_slice.specs.BitSlice.{len_of, list_of}
use Rattle.bit_slice.specs.Split.{NoneTaken, TakenAfter, tested}
use Rattle.bit_slice.proofs.Called.{callable_on}
use Rattle.bit_slice.proofs.slice.split.SplitIterator.next.Goals as goal

pub returns-then-end-self-clause-steps : goal.returns-then-end-self-clause-steps
returns-then-end-self-clause-steps g c =
    let s = c.args.self.now in
    let xs = list_of s.view in
    let r = c.first_taken-end in
    let size = c.get_range.ensures.len in
    let end : r.result ≡ s.from + len_of c.get_range.result = omega (arith, size, r.ensures.begins) in (
      c.if-self.false,
      refl,
      omega (arith, end, r.ensures.ends),
      c.get_range.ensures.list ∙ ap (slice_range xs s.from) end,
      (omega (arith, end, c.if-end-self.true), subst (λ n. NoneTaken (goal.F-step g) xs s.test s.from n r.new.test) (sym size) (r.ensures.none (omega (arith, c.if-end-self.true)))),
    )

pub returns-then-end-self-clause-goes : goal.returns-then-end-self-clause-goes
returns-then-end-self-clause-goes g c =
    let s = c.args.self.now in
    record {
      on = λ _. (record { at = λ results state i is below run. absurd (omega (arith, is, below, c.if-end-self.true)) }, tt, subst (λ b. 0 < (if b then 0 else len_of s.view - s.from + 1)) (sym c.if-self.false) (omega arith));
      keeps = record { at = λ results state i is below run. absurd (omega (arith, is, below, c.if-end-self.true)) };
      rests = λ _. tt;
    }

cut_short : (A B : Type 0) (done : Bool) → done ≡ false → B → MatchBool done A B
cut_short A B false is given = given
cut_short A B true is given = cc

pub returns-clause-steps : goal.returns-clause-steps
returns-clause-steps g c =
    let s = c.args.self.now in
    let xs = list_of s.view in
    let r = c.first_taken-end in
    let size = c.get_range-2.ensures.len in
    let end : r.result ≡ s.from + len_of c.get_range-2.result = omega (arith, size, r.ensures.begins) in
    let inside : r.result < len_of s.view = omega (arith, r.ensures.ends, c.if-end-self.false) in (
      c.if-self.false,
      refl,
      omega (arith, end, r.ensures.ends),
      c.get_range-2.ensures.list ∙ ap (slice_range xs s.from) end,
      cut_short _ _ s.done c.if-self.false (omega (arith, end), subst (λ n. TakenAfter (goal.F-step g) xs s.test s.from n r.new.test) (sym size) (r.ensures.taken inside)),
    )

pub returns-clause-goes : goal.returns-clause-goes
returns-clause-goes g c =
    let s = c.args.self.now in
    let xs = list_of s.view in
    let r = c.first_taken-end in
    let n : ℕ = r.result - s.from in
    let inside : r.result < len_of s.view = omega (arith, r.ensures.ends, c.if-end-self.false) in
    let size = length-append (replicate n false) (true ∷ []) in
    let some = length-replicate n false in
    let left = callable_on (λ state i. goal.F-pre g state i (slice_index_or xs i false)) (tested (goal.F-step g) xs) s.test s.from (len_of s.view) (replicate n false ++ true ∷ []) r.new.test (r.result + 1) (len_of s.view) c.requires (r.ensures.taken inside) (omega (arith, size, some, r.ensures.begins)) (omega arith) in
    let fewer : len_of s.view - (r.result + 1) + 1 < len_of s.view - s.from + 1 = omega (arith, inside, r.ensures.begins) in
    record {
      on = λ _. (left, tt, subst (λ b. (if b then 0 else len_of s.view - (r.result + 1) + 1) < (if b then 0 else len_of s.view - s.from + 1)) (sym c.if-self.false) fewer);
      keeps = left;
      rests = λ _. tt;
    }
