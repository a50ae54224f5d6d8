-- Bits removed from a vector, or replaced by others.
use Rattle.std.proofs.Common.{◌≡◌, ℕ, ◌+◌, ◌-◌, ◌<◌, ◌≤◌, refl, sym, subst, ap, ◌∙◌, Bool, false, List, [], ◌∷◌, ◌++◌, length, replicate, get_or, take, drop, slice_range, arith, rules}
use Rattle.std.proofs.lemmas.List.{same_lists, places, length-append, length-replicate, take_all}
use Rattle.std.specs.List.{splice}
use Rattle.std.specs.Iterator.Runs.{YieldsInOrder, YieldsInReverse}
use Rattle.std.proofs.iter.runs.Sources.{from_front, from_back, as_is, as_is_back}
use Rattle.bit_addressing.specs.Row.{put, sized, moved}
use Rattle.bit_addressing.proofs.lists.Shown.{length-run, shows_sized, shows_fewer}
use Rattle.bit_slice.proofs.Shown.{run_first, run_last}
use Rattle.bit_addressing.proofs.lists.Moved.{length-moved, shows_moved}
use Rattle.bit_addressing.proofs.Shifts.{put_moved}
use Rattle.bit_addressing.specs.declared.store.BitStore as store
use Rattle.bit_addressing.specs.declared.order.BitOrder as order
use Rattle.bit_containers.specs.declared.vec.drain.Drain.{Drain}
use Rattle.std.specs.Iterator.{YieldsFirst, YieldsLast}
use Rattle.bit_containers.specs.Items.{items_rest}
use Rattle.bit_containers.specs.Drain.{drain_rest, DrainSteps, DrainStepsBack, DrainKeeps, DrainKeepsAlong}

-- ---- a range that is removed

-- what is after a range moved over it
closed_up : (xs : List Bool) (s e : ℕ) → s ≤ e → e ≤ length xs → take (s + (length xs - e)) (put xs s (slice_range xs e (e + (length xs - e)))) ≡ splice xs s e []
unfolding put
closed_up xs s e h k = same_lists _ _ (search (rules, places)) (λ i d below. grind (arith, places))

-- the same in what a vector shows
pub removed_range_shows : (w : ℕ) (xs : List Bool) (head len s e : ℕ) → 0 < w → s ≤ e → e ≤ len → head + len ≤ length xs
    → slice_range (sized w (moved xs (head + e) (head + s) (len - e)) (head + s + (len - e))) head (head + (s + (len - e))) ≡ splice (slice_range xs head (head + len)) s e []
removed_range_shows w xs head len s e positive h k fits =
    let n : ℕ = len - e in
    let list : List Bool = slice_range xs head (head + len) in
    let size : length list ≡ len = length-run xs head len fits in
    let all : List Bool = moved xs (head + e) (head + s) n in
    let long : length all ≡ length xs = length-moved xs (head + e) (head + s) n in
    let end : head + s + n ≡ head + (s + n) = omega arith in
    let rest : n ≡ length list - e = omega arith in
    ap (λ b. slice_range (sized w all b) head (head + (s + n))) end
    ∙ shows_sized w all (head + (s + n)) head (head + (s + n)) positive (omega arith) (omega arith) (omega arith)
    ∙ shows_fewer all head (s + n) len (omega arith) (omega arith)
    ∙ ap (take (s + n)) (shows_moved xs head len e s n (omega arith) (omega arith) fits ∙ sym (put_moved list e s n (omega arith) (omega arith)))
    ∙ ap (λ m. take (s + m) (put list s (slice_range list e (e + m)))) rest
    ∙ closed_up list s e h (omega arith)

-- ---- what a `Drain` gives

-- a part is its first bit and the rest
pub run_front : (xs : List Bool) (i j : ℕ) → i < j → j ≤ length xs → slice_range xs i j ≡ get_or xs i false ∷ slice_range xs (i + 1) j
run_front xs i j h k = run_first xs i j (get_or xs i false) h k refl

-- a part is all but its last bit, and that bit
pub run_back : (xs : List Bool) (i j : ℕ) → i < j → j ≤ length xs → slice_range xs i j ≡ slice_range xs i (j - 1) ++ get_or xs (j - 1) false ∷ []
run_back xs i j h k = run_last xs i j (get_or xs (j - 1) false) h k refl

-- what is after the first of a run, and one more
pub run_after : (xs : List Bool) (i j n : ℕ) → i + n < j → j ≤ length xs → slice_range xs (i + n + 1) j ≡ drop (n + 1) (slice_range xs i j)
run_after xs i j n h k = same_lists _ _ (search (rules, places)) (λ a d below. grind (arith, places))

module _ {X Y : Type 0} {W : store.Ghosts X} {P : order.Ghosts Y} where
  -- a drain gives what it has left, in order
  pub drain_runs : YieldsInOrder (DrainSteps {X = X} {Y = Y} {W = W} {P = P}) drain_rest
  drain_runs p s = as_is p (drain_rest p.from) (from_front DrainSteps (λ x. x) drain_rest (λ s t h. ap length h.0.0) (λ s x t h. h.0) p s)

  -- a drain gives what it has left from the back, in reverse
  pub drain_runs_back : YieldsInReverse (DrainStepsBack {X = X} {Y = Y} {W = W} {P = P}) drain_rest
  drain_runs_back p s = as_is_back p (drain_rest p.from) (from_back DrainStepsBack (λ x. x) drain_rest (λ s t h. ap length h.0.0) (λ s x t h. h.0) p s)

  -- a drain keeps what it will leave, whatever was taken from it
  pub drain_keeps_along : (first : Drain X Y W P) → DrainKeepsAlong first
  drain_keeps_along first [] later run = subst (DrainKeeps first) run (refl, refl, refl, refl)
  drain_keeps_along first (item ∷ items) later run =
      let step = run.1.1 in
      let rest = drain_keeps_along run.0 items later run.2 in
      (rest.0 ∙ step.0, rest.1 ∙ step.1, rest.2 ∙ step.2, rest.3 ∙ step.3)

  -- an owning iterator gives its bits in order
  pub items_runs : YieldsInOrder (YieldsFirst (items_rest {X = X} {Y = Y} {W = W} {P = P})) items_rest
  items_runs p s = as_is p (items_rest p.from) (from_front (YieldsFirst items_rest) (λ b. b) items_rest (λ s t h. ap length h.0) (λ s x t h. h) p s)

  -- an owning iterator gives its bits from the back in reverse
  pub items_runs_back : YieldsInReverse (YieldsLast (items_rest {X = X} {Y = Y} {W = W} {P = P})) items_rest
  items_runs_back p s = as_is_back p (items_rest p.from) (from_back (YieldsLast items_rest) (λ b. b) items_rest (λ s t h. ap length h.0) (λ s x t h. h) p s)

-- ---- bits written inside what a vector shows

-- the front of a list, up to what was written after it
pub take_put : (xs ys : List Bool) (d n : ℕ) → n ≡ d + length ys → n ≤ length xs → take n (put xs d ys) ≡ take d xs ++ ys
unfolding put
take_put xs ys d n is h = same_lists _ _ (search (rules, places)) (λ i e below. grind (arith, places))

-- and the rest
pub drop_put : (xs ys : List Bool) (d n : ℕ) → n ≡ d + length ys → n ≤ length xs → drop n (put xs d ys) ≡ drop n xs
unfolding put
drop_put xs ys d n is h = same_lists _ _ (search (rules, places)) (λ i e below. grind (arith, places))

-- the front of a list, up to where it was written over
pub take_before_put : (xs ys : List Bool) (d : ℕ) → d + length ys ≤ length xs → take d (put xs d ys) ≡ take d xs
unfolding put
take_before_put xs ys d h = same_lists _ _ (search (rules, places)) (λ i e below. grind (arith, places))

-- ---- bits replaced by others

-- fewer bits than they replace are written over them, and the rest of the range is removed
pub spliced_short : (xs ys : List Bool) (s e n : ℕ) → n ≡ length ys → s + n ≤ e → e ≤ length xs → splice (put xs s ys) (s + n) e [] ≡ splice xs s e ys
unfolding put
spliced_short xs ys s e n is h k = same_lists _ _ (search (rules, places)) (λ i d below. grind (arith, places))

-- what is after the range, moved up in a longer list
made_room : (xs ys : List Bool) (s e extra : ℕ) → s ≤ e → e ≤ length xs → length ys ≡ e - s + extra → put (put (xs ++ replicate extra false) (e + extra) (drop e xs)) s ys ≡ splice xs s e ys
unfolding put
made_room xs ys s e extra h k size = same_lists _ _ (search (rules, places)) (λ i d below. grind (arith, places))

-- before more bits than they replace are written, what is after them moves up
pub spliced_long : (xs ys : List Bool) (s e extra : ℕ) → s ≤ e → e ≤ length xs → length ys ≡ e - s + extra → put (moved (take (length xs + extra) xs ++ replicate (length xs + extra - length xs) false) e (e + extra) (length xs - e)) s ys ≡ splice xs s e ys
spliced_long xs ys s e extra h k size =
    let more : length xs + extra - length xs ≡ extra = omega arith in
    let n : ℕ = length xs - e in
    let zs : List Bool = xs ++ replicate extra false in
    let long : length zs ≡ length xs + extra = length-append xs (replicate extra false) ∙ ap (λ m. length xs + m) (length-replicate extra false) in
    let all : e + n ≡ length xs = omega arith in
    let rest : slice_range zs e (e + n) ≡ drop e xs = same_lists _ _ (search (rules, places)) (λ i d below. grind (arith, places)) in
    ap (λ l. put (moved (l ++ replicate (length xs + extra - length xs) false) e (e + extra) n) s ys) (take_all (length xs + extra) xs (omega arith))
    ∙ ap (λ m. put (moved (xs ++ replicate m false) e (e + extra) n) s ys) more
    ∙ ap (λ l. put l s ys) (sym (put_moved zs e (e + extra) n (omega arith) (omega arith)) ∙ ap (put zs (e + extra)) rest)
    ∙ made_room xs ys s e extra h k size
