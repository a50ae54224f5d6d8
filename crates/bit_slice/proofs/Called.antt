-- What the calls of a function that keeps a state returned, one after another.
use Rattle.std.proofs.Common.{◌≡◌, ◌≤◌, ℕ, ◌+◌, refl, ap, List, [], ◌∷◌, ◌++◌, length, length-append, map, arith}
use Rattle.std.specs.List.{range_with_len}
use Rattle.bit_slice.specs.Closures.{CallableFrom, ResultsFrom}

module _ {F B : Type 0} (step : F → ℕ → B → F → Type 0) where
  -- one call more adds its result
  pub results_more : (f : F) (i : ℕ) (results : List B) (g : F) (j : ℕ) (b : B) (h : F) → ResultsFrom step f i results g → step g j b h → j ≡ i + length results → ResultsFrom step f i (results ++ b ∷ []) h
  results_more f i [] g j b h run called at =
      let same : j ≡ i = omega arith in
      (h, rw (run, ← same) called, refl)
  results_more f i (a ∷ results) g j b h run called at =
      (run.0, run.1, results_more run.0 (i + 1) results g j b h run.2 called (omega arith))

  -- where each result is that of a function of the index, those are the values of that function at the indices
  pub filled_with : (of : ℕ → B) → ((f : F) (i : ℕ) (given : B) (next : F) → step f i given next → given ≡ of i)
      → (f : F) (i : ℕ) (results : List B) (last : F) → ResultsFrom step f i results last → results ≡ map of (range_with_len i (length results))
  filled_with of says f i [] last run = refl
  filled_with of says f i (a ∷ results) last run =
      rw (says f i a run.0 run.1) (ap (λ l. of i ∷ l) (filled_with of says run.0 (i + 1) results last run.2))

  -- calls after others
  pub results_then : (f : F) (i : ℕ) (results : List B) (g : F) (j : ℕ) (later : List B) (h : F) → ResultsFrom step f i results g → ResultsFrom step g j later h → j ≡ i + length results → ResultsFrom step f i (results ++ later) h
  results_then f i [] g j later h run more at =
      let same : j ≡ i = omega arith in
      rw (run, ← same) more
  results_then f i (a ∷ results) g j later h run more at =
      (run.0, run.1, results_then run.0 (i + 1) results g j later h run.2 more (omega arith))

-- some of the calls are left
pub callable_on : {F B : Type 0} (pre : F → ℕ → Type 0) (step : F → ℕ → B → F → Type 0) (f : F) (i upto : ℕ) (results : List B) (g : F) (j end : ℕ) → CallableFrom pre step f i upto → ResultsFrom step f i results g → j ≡ i + length results → end ≤ upto → CallableFrom pre step g j end
callable_on pre step f i upto results g j end callable run at within = record {
  at = λ later state k is below called.
      let sum = length-append results later in
      callable.at (results ++ later) state k (omega arith) (omega arith) (results_then step f i results g j later state run called at);
}
