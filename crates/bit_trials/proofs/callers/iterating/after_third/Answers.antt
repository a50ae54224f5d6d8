use Rattle.std.proofs.Common.{◌+◌, length, ◌∙◌, ap}
use Rattle.bit_boxed.proofs.Stepping.{nth_end, nth_words}
use Rattle.bit_trials.proofs.callers.iterating.after_third.Goals as goal

pub returns-clause-words : goal.returns-clause-words
returns-clause-words g c = nth_words _ _ _ _ c.nth-third.ensures.ran ∙ c.into_iter-bits.ensures.into_iter_gives.0

pub returns-clause-end : goal.returns-clause-end
returns-clause-end g c =
    let made = c.into_iter-bits.ensures.into_iter_gives in
    nth_end _ _ _ _ c.nth-third.ensures.ran ∙ ap (λ k. k + length c.into_iter-bits.result.list) made.1 ∙ ap (λ l. c.args.v.head + length l) made.2
