-- What runs of calls of `next` and `next_back` give.
use Rattle.std.proofs.Common.{◌≡◌, ℕ, ◌-◌, ◌≤◌, List, length, drop, slice_range, ap, arith}
use Rattle.std.specs.Iterator.{YieldsFirst, YieldsLast}
use Rattle.std.specs.Iterator.Runs.{YieldsInOrder, YieldsInReverse}
use Rattle.std.proofs.iter.runs.Sources.{from_front, from_back, as_is, as_is_back}
use Rattle.std.proofs.lemmas.List.{take_all, length-take-le, length-drop}
use Rattle.bit_addressing.specs.declared.store.BitStore as store
use Rattle.bit_addressing.specs.declared.order.BitOrder as order
use Rattle.bit_records.specs.Iter.{numbers_left}

-- before the first step all numbers are left
pub left_all : (xs : List ℕ) (n : ℕ) → n ≡ length xs → slice_range xs 0 n ≡ xs
left_all xs n is = take_all (n - 0) xs (omega arith)

-- the numbers left are the distance of the two ends
pub left_count : (xs : List ℕ) (from upto : ℕ) → upto ≤ length xs → length (slice_range xs from upto) ≡ upto - from
left_count xs from upto h = let rest = length-drop from xs in length-take-le (upto - from) (drop from xs) (omega arith)

module _ {X Y : Type 0} (W : store.Ghosts X) (P : order.Ghosts Y) where
  -- the iterator gives the numbers in order
  pub number_runs : YieldsInOrder (YieldsFirst (numbers_left {X = X} {Y = Y} {W = W} {P = P})) numbers_left
  number_runs p s = as_is p (numbers_left p.from) (from_front (YieldsFirst (numbers_left {X = X} {Y = Y} {W = W} {P = P})) (λ b. b) numbers_left (λ s t h. ap length h.0) (λ s x t h. h) p s)

  -- the iterator gives them from the back in reverse
  pub number_runs_back : YieldsInReverse (YieldsLast (numbers_left {X = X} {Y = Y} {W = W} {P = P})) numbers_left
  number_runs_back p s = as_is_back p (numbers_left p.from) (from_back (YieldsLast (numbers_left {X = X} {Y = Y} {W = W} {P = P})) (λ b. b) numbers_left (λ s t h. ap length h.0) (λ s x t h. h) p s)
