use Rattle.std.proofs.Common.{◌≡◌, ℕ, ◌+◌, ◌-◌, ◌++◌, ◌∷◌, [], append_assoc, map-id, sym, ◌∙◌, ap, arith}
use Rattle.std.specs.List.{range_with_len}
use Rattle.std.proofs.lemmas.List.FromFn.{map-range_with_len_more}
use Rattle.bit_blocks.proofs.listed.push_range.Goals as goal

range_more : (a n j : ℕ) → a + n ≡ j → range_with_len a (n + 1) ≡ range_with_len a n ++ j ∷ []
range_more a n j at = sym (map-id (range_with_len a (n + 1))) ∙ map-range_with_len_more (λ k. k) a n j at ∙ ap (λ l. l ++ j ∷ []) (map-id (range_with_len a n))

pub loop-number-preserved : goal.loop-number-preserved
loop-number-preserved c =
    let first = c.args.first in
    let number = c.loop-number.number in
    let low = c.loop-number.auto.number in
    let size : number + 1 - first ≡ number - first + 1 = omega arith in
    c.in_ok-push.ensures.items ∙ ap (λ l. l ++ number ∷ []) c.loop-number.invariant ∙ append_assoc c.args.made.now.items (range_with_len first (number - first)) (number ∷ [])
    ∙ ap (λ l. c.args.made.now.items ++ l) (sym (ap (range_with_len first) size ∙ range_more first (number - first) number (omega arith)))
