-- Iterators that own their bits: what runs of their calls give, and what one call leaves.
use Rattle.std.proofs.Common.{◌≡◌, suc, ◌<◌, Bool, Option, None, Some, List, [], ◌∷◌, ◌++◌, length, refl, ap, arith}
use Rattle.std.proofs.lemmas.List.{length_push}
use Rattle.std.specs.Iterator.{YieldsFirst, YieldsLast}
use Rattle.std.specs.Iterator.Runs.{YieldsInOrder, YieldsInReverse}
use Rattle.std.proofs.iter.runs.Sources.{from_front, from_back, as_is, as_is_back}
use Rattle.bit_slice.specs.Owned.{GivesInOrder, GivesInReverse}

module _ {S : Type 0} (rest : S → List Bool) where
  -- where a call gives the first bit that is left, whatever else it says
  pub in_order : (steps : S → Option Bool → S → Type 0) → ((s : S) (r : Option Bool) (t : S) → steps s r t → YieldsFirst rest s r t) → YieldsInOrder steps rest
  in_order steps says p s = as_is p (rest p.from) (from_front steps (λ b. b) rest (λ s t h. ap length (says s None t h).0) (λ s x t h. says s (Some x) t h) p s)

  -- where it gives the last
  pub in_reverse : (steps : S → Option Bool → S → Type 0) → ((s : S) (r : Option Bool) (t : S) → steps s r t → YieldsLast rest s r t) → YieldsInReverse steps rest
  in_reverse steps says p s = as_is_back p (rest p.from) (from_back steps (λ b. b) rest (λ s t h. ap length (says s None t h).0) (λ s x t h. says s (Some x) t h) p s)

  -- the owning iterator gives its bits in order
  pub gives_in_order : GivesInOrder rest
  gives_in_order = in_order (YieldsFirst rest) (λ s r t h. h)

  -- the owning iterator gives them from the back in reverse
  pub gives_in_reverse : GivesInReverse rest
  gives_in_reverse = in_reverse (YieldsLast rest) (λ s r t h. h)

-- a bit that is taken leaves fewer
pub shorter_first : (old new : List Bool) (b : Bool) → old ≡ b ∷ new → length new < length old
shorter_first old new b is = let size : length (b ∷ new) ≡ suc (length new) = refl in omega (arith, ap length is)

-- a list without its last bit is shorter
pub shorter_last : (old new : List Bool) (b : Bool) → old ≡ new ++ b ∷ [] → length new < length old
shorter_last old new b is = omega (arith, ap length is, length_push new b)
