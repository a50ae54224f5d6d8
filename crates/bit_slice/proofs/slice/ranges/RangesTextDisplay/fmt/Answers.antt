use Rattle.std.proofs.Common.{◌≡◌, [], ◌∷◌, ◌++◌, refl, sym, ◌∙◌, ap, append_assoc}
use Rattle.std.proofs.Output.{has_written_append, has_written_of_eq}
use Rattle.std.proofs.lemmas.List.{append-nil, flat_map_more}
use Rattle.bit_slice.specs.BitSlice.{list_of}
use Rattle.bit_slice.specs.BitRuns.{ranges_left, ranges_of, range_text, with_commas}
use Rattle.bit_slice.proofs.slice.ranges.RangesTextDisplay.fmt.Goals as goal

pub loop-range-preserved : goal.loop-range-preserved
loop-range-preserved g c =
    let was = c.loop-range.invariant in
    let given = c.loop-range.yielded in
    record {
      left = was.left ∙ ap (λ l. given ++ l) c.in-Some-range.ensures.steps ∙ sym (append_assoc given (c.in-Some-range.range ∷ []) _);
      written = λ p.
          let so_far = was.written p in
          let comma = c.in_ok-write_str.ensures.writes so_far.plain refl in
          let run = c.in_ok-write_range-2.ensures comma.plain refl in
          has_written_of_eq _ _ _ _ _ (flat_map_more (λ next. 44 ∷ range_text next) [] given c.in-Some-range.range) (has_written_append _ _ _ _ _ _ so_far (has_written_append _ _ _ _ _ _ comma run));
    }

pub returns-clause-writes : goal.returns-clause-writes
returns-clause-writes g c p ok =
    let was = c.loop-range.invariant in
    let given = c.loop-range.yielded in
    let start = c.in_ok-write_range.ensures p refl in
    let middle = was.written start.plain in
    let rest : ranges_left c.next.new.self ≡ given = ap ranges_left (sym c.into_iter-range-iterator.ensures.into_iter_gives) ∙ was.left ∙ ap (λ l. given ++ l) c.in-None.ensures.steps.0 ∙ append-nil given in
    let runs : ranges_of c.args.self.now.bit (list_of c.args.self.now.view) ≡ c.in-Some.first ∷ given = sym c.iter_ranges-ranges.ensures.list ∙ c.in-Some.ensures.steps ∙ ap (λ l. c.in-Some.first ∷ l) rest in
    has_written_of_eq _ _ _ _ _ (ap with_commas (sym runs)) (has_written_append _ _ _ _ _ _ start middle)
