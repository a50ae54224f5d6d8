-- What is pulled out of an iterator over references whose items are copied, and where a call is refused.
use Rattle.std.proofs.Common.{◌≡◌, ℕ, ◌<◌, ◌≤◌, List, [], ◌∷◌, length, map, Bor, refl, sym, ◌∙◌, ap, subst, arith}
use Rattle.std.specs.Prelude.{Option, Some, None, Result, Err}
use Rattle.bit_addressing.specs.declared.length.TheConstants.{MAX_BITS}
use Rattle.bit_addressing.specs.declared.errors.GrowError.{GrowError}
use Rattle.bit_addressing.specs.declared.errors.GrowError.TheVariants.{TooLong, OutOfMemory}
use Rattle.std.specs.Option.{option_copied}
use Rattle.std.specs.Iterator.{Yields}
use Rattle.std.specs.Iterator.Runs.{EachRunFrom}
use Rattle.std.proofs.lemmas.List.{length-map}
use Rattle.std.proofs.iter.runs.Adapters.{copied_runs}
use Rattle.bit_slice.specs.Pulls.{GivesAll, GivesFirst}
use Rattle.std.specs.Iterator.Adapters.{copied_source, copied_steps}
use Rattle.std.specs.declared.iter.Copied.{Copied}

module _ {A S : Type 0} (steps : S → Option (Bor A) → S → Type 0) where
  -- an item that is copied is one that was given
  pub some_copied : (o : Option (Bor A)) (x : A) → Some x ≡ option_copied o → (b : Bor A) × (o ≡ Some b) × (x ≡ b.now)
  some_copied None x is = absurd cc
  some_copied (Some b) x is = (b, refl, cc)

  -- and none is where none was given
  pub none_copied : (o : Option (Bor A)) → None ≡ option_copied o → o ≡ None
  none_copied None is = refl
  none_copied (Some b) is = absurd cc

  -- the items that were copied are those that were given
  pub pulled_copies : (s : Copied S) (items : List A) (t : Copied S) → Yields (copied_steps steps) s items t → (given : List (Bor A)) × Yields steps (copied_source s) given (copied_source t) × (items ≡ map (λ b. b.now) given)
  pulled_copies s [] t run = ([], ap copied_source run, refl)
  pulled_copies s (x ∷ items) t run =
      let u = run.0 in
      let step = run.1 in
      let one = some_copied step.0 x step.2 in
      let more = pulled_copies u items t run.2 in
      (one.0 ∷ more.0, (copied_source u, subst (λ o. steps (copied_source s) o (copied_source u)) one.1 step.1, more.1), cc)

module _ {U S A : Type 0} (becomes : U → S → Type 0) (steps : S → Option (Bor A) → S → Type 0) (iter : U) (copies : Copied S) (starts : becomes iter (copied_source copies)) where
  -- all that was copied was given
  pub all_copied : (P : List A → Type 0) → GivesAll (λ x s. s ≡ x) (copied_steps steps) copies P → GivesAll becomes steps iter (λ items. P (map (λ b. b.now) items))
  all_copied P h =
      let mid = h.3.1.0 in
      let end = h.3.0 in
      let last = h.3.1.2 in
      let given = pulled_copies steps h.0 h.1 mid h.3.1.1 in (
        copied_source h.0,
        given.0,
        subst (λ s. becomes iter (copied_source s)) (sym h.2) starts,
        (copied_source end, (copied_source mid, given.1, subst (λ o. steps (copied_source mid) o (copied_source end)) (none_copied steps last.0 last.2) last.1)),
        subst P given.2 h.4,
      )

  -- what was copied first was given first
  pub first_copied : (P : List A → Type 0) → GivesFirst (λ x s. s ≡ x) (copied_steps steps) copies P → GivesFirst becomes steps iter (λ items. P (map (λ b. b.now) items))
  first_copied P h =
      let given = pulled_copies steps h.0 h.1 h.2 h.4 in
      (copied_source h.0, given.0, copied_source h.2, subst (λ s. becomes iter (copied_source s)) (sym h.3) starts, given.1, subst P given.2 h.5)

  -- what holds of how many items each run gives holds of how many are copied
  pub each_copied : (Q : ℕ → Type 0) → ((s : S) → becomes iter s → EachRunFrom steps s (λ run. Q (length run.items))) → (s : Copied S) → s ≡ copies → EachRunFrom (copied_steps steps) s (λ run. Q (length run.items))
  each_copied Q each s is run seen from =
      let q = copied_runs steps copies (copied_source copies) refl run seen (from ∙ is) in
      let same : length run.items ≡ length q.0.items = ap length q.2.2 ∙ length-map q.0.items (λ b. b.now) in
      subst Q (sym same) (each (copied_source copies) starts q.0 q.0.seen q.1)

-- where a call is refused after its first items, there are some
module _ {U S A V : Type 0} (becomes : U → S → Type 0) (steps : S → Option A → S → Type 0) (iter : U) where
  -- an iterator that a box refused gave an item first, whatever the reason
  pub refused_first : (why : GrowError) (result : Result V GrowError) → result ≡ Err why → (result ≡ Err TooLong → GivesFirst becomes steps iter (λ items. MAX_BITS < length items))
      → (result ≡ Err OutOfMemory → GivesFirst becomes steps iter (λ items. (0 < length items) × (length items ≤ MAX_BITS))) → GivesFirst becomes steps iter (λ items. 0 < length items)
  refused_first TooLong result is long memory = let h = long is in (h.0, h.1, h.2, h.3, h.4, omega (arith, h.5))
  refused_first OutOfMemory result is long memory = let h = memory is in (h.0, h.1, h.2, h.3, h.4, h.5.0)
