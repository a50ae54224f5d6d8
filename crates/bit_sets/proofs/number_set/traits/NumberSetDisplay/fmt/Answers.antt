use Rattle.std.proofs.Common.{◌≡◌, [], ◌∷◌, ◌++◌, ℕ, refl, sym, ◌∙◌, ap, append_assoc}
use Rattle.std.proofs.Output.{has_written_append, has_written_of_eq}
use Rattle.std.specs.Fmt.{decimal}
use Rattle.std.proofs.lemmas.List.{append-nil, flat_map_more}
use Rattle.bit_slice.specs.Indices.{ones_left}
use Rattle.bit_slice.specs.Places.{ones_of}
use Rattle.bit_sets.proofs.Members.{set_written}
use Rattle.bit_sets.proofs.number_set.traits.NumberSetDisplay.fmt.Goals as goal

pub loop-number-preserved : goal.loop-number-preserved
loop-number-preserved g c = record {
  left = c.loop-number.invariant.left ∙ ap (λ l. c.loop-number.yielded ++ l) c.in-Some-number.ensures.steps ∙ sym (append_assoc c.loop-number.yielded (c.in-Some-number.number ∷ []) _);
  written = λ p.
      let so_far = c.loop-number.invariant.written p in
      let more = c.in_ok-write-2.ensures.writes so_far.plain refl in
      has_written_of_eq _ _ _ _ _ (flat_map_more (λ (k : ℕ). 44 ∷ 32 ∷ decimal k) [] c.loop-number.yielded c.in-Some-number.number) (has_written_append _ _ _ _ _ _ so_far more);
}

pub returns-clause-writes : goal.returns-clause-writes
returns-clause-writes g c p ok =
    let start = c.in_ok-write.ensures.writes p refl in
    let middle = c.loop-number.invariant.written start.plain in
    let end = c.write_str-2.ensures.writes middle.plain ok in
    let rest : ones_left c.next.new.self ≡ c.loop-number.yielded =
    ap (λ it. ones_left it) (sym c.into_iter-number-iterator.ensures.into_iter_gives) ∙ c.loop-number.invariant.left ∙ ap (λ l. c.loop-number.yielded ++ l) c.in-None.ensures.steps.0 ∙ append-nil c.loop-number.yielded in
    let numbers : ones_of c.args.self.now ≡ c.in-Some.first ∷ c.loop-number.yielded = sym c.iter-numbers.ensures.list ∙ c.in-Some.ensures.steps ∙ ap (λ l. c.in-Some.first ∷ l) rest in
    has_written_of_eq _ _ _ _ _ (set_written c.args.self.now c.in-Some.first c.loop-number.yielded numbers) (has_written_append _ _ _ _ _ _ (has_written_append _ _ _ _ _ _ start middle) end)
