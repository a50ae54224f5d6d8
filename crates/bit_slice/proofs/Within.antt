-- Runs of a row that are combined with other runs of the same row, a number of bits at a time.
use Rattle.std.proofs.Common.{◌≡◌, ℕ, ◌+◌, ◌-◌, ◌≤◌, Bool, List, [], ◌∷◌, ◌++◌, length, slice_range, refl, sym, ◌∙◌, ap, arith, rules}
use Rattle.std.proofs.lemmas.List.{same_lists, places}
use Rattle.bit_addressing.specs.Row.{put}
use Rattle.bit_rows.proofs.Combinations.{put_later}
use Rattle.bit_addressing.proofs.lists.Put.{put_joined, put_none}
use Rattle.bit_addressing.proofs.lists.Shown.{length-run}
use Rattle.bit_slice.proofs.Combining.{length-combined}
use Rattle.bit_slice.proofs.Shown.{run_none}
use Rattle.bit_slice.proofs.Turned.{put_front}
use Rattle.bit_addressing.proofs.Runs.{slices_joined}
use Rattle.bit_slice.specs.Operators.{combined}

combined_joined : (f : Bool → Bool → Bool) (is bs cs ds : List Bool) → length is ≡ length bs → combined f is bs ++ combined f cs ds ≡ combined f (is ++ cs) (bs ++ ds)
combined_joined f [] [] cs ds e = refl
combined_joined f [] (b ∷ bs) cs ds e = absurd (omega (arith, e))
combined_joined f (a ∷ is) [] cs ds e = absurd (omega (arith, e))
combined_joined f (a ∷ is) (b ∷ bs) cs ds e = ap (λ l. f a b ∷ l) (combined_joined f is bs cs ds (omega (arith, e)))

-- what stands before a run that is written stays
put_earlier : (xs ys : List Bool) (d a b : ℕ) → a ≤ b → b ≤ d → d + length ys ≤ length xs → slice_range (put xs d ys) a b ≡ slice_range xs a b
unfolding put
put_earlier xs ys d a b h k l = same_lists _ _ (search (rules, places)) (λ i e below. grind (arith, places))

module _ (f : Bool → Bool → Bool) (xs : List Bool) (from at n : ℕ) (source : from + n ≤ length xs) (target : at + n ≤ length xs) where
  -- the first `done` bits are combined
  abbrev pub front : ℕ → List Bool
  front done = combined f (slice_range xs at (at + done)) (slice_range xs from (from + done))

  -- before the first piece nothing is combined from the front
  pub front_none : xs ≡ put xs at (front 0)
  front_none = sym (ap (λ l. put xs at (combined f l (slice_range xs from (from + 0)))) (run_none xs at (at + 0) (omega arith)) ∙ put_none xs at)

  -- one piece more is combined from the front
  pub front_more : (zs : List Bool) (done m : ℕ) → at ≤ from → zs ≡ put xs at (front done) → done + m ≤ n
      → put zs (at + done) (combined f (slice_range zs (at + done) (at + done + m)) (slice_range zs (from + done) (from + done + m))) ≡ put xs at (front (done + m))
  front_more zs done m order is few =
      let a : length (slice_range xs at (at + done)) ≡ done = length-run xs at done (omega arith) in
      let b : length (slice_range xs from (from + done)) ≡ done = length-run xs from done (omega arith) in
      let c : length (slice_range xs (at + done) (at + done + m)) ≡ m = length-run xs (at + done) m (omega arith) in
      let size : length (front done) ≡ done = length-combined f (slice_range xs at (at + done)) (slice_range xs from (from + done)) ∙ a in
      let next : List Bool = combined f (slice_range xs (at + done) (at + done + m)) (slice_range xs (from + done) (from + done + m)) in
      let more : length next ≡ m = length-combined f (slice_range xs (at + done) (at + done + m)) (slice_range xs (from + done) (from + done + m)) ∙ c in
      let here : slice_range zs (at + done) (at + done + m) ≡ slice_range xs (at + done) (at + done + m) =
      ap (λ l. slice_range l (at + done) (at + done + m)) is ∙ put_later xs (front done) at (at + done) (at + done + m) (omega arith) (omega (arith, size)) (omega arith) (omega arith) in
      let there : slice_range zs (from + done) (from + done + m) ≡ slice_range xs (from + done) (from + done + m) =
      ap (λ l. slice_range l (from + done) (from + done + m)) is ∙ put_later xs (front done) at (from + done) (from + done + m) (omega arith) (omega (arith, size)) (omega arith) (omega arith) in
      let p : at + done + m ≡ at + (done + m) = omega arith in
      let q : from + done + m ≡ from + (done + m) = omega arith in
      ap (λ l. put zs (at + done) (combined f l (slice_range zs (from + done) (from + done + m)))) here
      ∙ ap (λ l. put zs (at + done) (combined f (slice_range xs (at + done) (at + done + m)) l)) there
      ∙ ap (λ l. put l (at + done) next) is ∙ put_joined xs (front done) next at (at + done) (omega (arith, size)) (omega (arith, more))
      ∙ ap (put xs at) (combined_joined f (slice_range xs at (at + done)) (slice_range xs from (from + done)) (slice_range xs (at + done) (at + done + m)) (slice_range xs (from + done) (from + done + m)) (a ∙ sym b)
      ∙ ap (λ l. combined f l (slice_range xs from (from + done) ++ slice_range xs (from + done) (from + done + m))) (slices_joined xs at (at + done) (at + done + m) (omega arith) (omega arith) (omega arith) ∙ ap (slice_range xs at) p)
      ∙ ap (combined f (slice_range xs at (at + (done + m)))) (slices_joined xs from (from + done) (from + done + m) (omega arith) (omega arith) (omega arith) ∙ ap (slice_range xs from) q))

  -- all but the first `left` bits are combined
  abbrev pub rest : ℕ → List Bool
  rest left = combined f (slice_range xs (at + left) (at + n)) (slice_range xs (from + left) (from + n))

  -- before the first piece nothing is combined from the end
  pub rest_none : xs ≡ put xs (at + n) (rest n)
  rest_none = sym (ap (λ l. put xs (at + n) (combined f l (slice_range xs (from + n) (from + n)))) (run_none xs (at + n) (at + n) (omega arith)) ∙ put_none xs (at + n))

  -- one piece more is combined from the end
  pub rest_more : (zs : List Bool) (left m : ℕ) → from ≤ at → zs ≡ put xs (at + (left + m)) (rest (left + m)) → left + m ≤ n
      → put zs (at + left) (combined f (slice_range zs (at + left) (at + left + m)) (slice_range zs (from + left) (from + left + m))) ≡ put xs (at + left) (rest left)
  rest_more zs left m order is few =
      let p : at + left + m ≡ at + (left + m) = omega arith in
      let q : from + left + m ≡ from + (left + m) = omega arith in
      let whole : at + (left + m) + (n - (left + m)) ≡ at + n = omega arith in
      let a : length (slice_range xs (at + left) (at + left + m)) ≡ m = length-run xs (at + left) m (omega arith) in
      let b : length (slice_range xs (from + left) (from + left + m)) ≡ m = length-run xs (from + left) m (omega arith) in
      let c : length (slice_range xs (at + (left + m)) (at + n)) ≡ n - (left + m) = ap (λ k. length (slice_range xs (at + (left + m)) k)) (sym whole) ∙ length-run xs (at + (left + m)) (n - (left + m)) (omega arith) in
      let size : length (rest (left + m)) ≡ n - (left + m) = length-combined f (slice_range xs (at + (left + m)) (at + n)) (slice_range xs (from + (left + m)) (from + n)) ∙ c in
      let next : List Bool = combined f (slice_range xs (at + left) (at + left + m)) (slice_range xs (from + left) (from + left + m)) in
      let more : length next ≡ m = length-combined f (slice_range xs (at + left) (at + left + m)) (slice_range xs (from + left) (from + left + m)) ∙ a in
      let here : slice_range zs (at + left) (at + left + m) ≡ slice_range xs (at + left) (at + left + m) =
      ap (λ l. slice_range l (at + left) (at + left + m)) is ∙ put_earlier xs (rest (left + m)) (at + (left + m)) (at + left) (at + left + m) (omega arith) (omega arith) (omega (arith, size)) in
      let there : slice_range zs (from + left) (from + left + m) ≡ slice_range xs (from + left) (from + left + m) =
      ap (λ l. slice_range l (from + left) (from + left + m)) is ∙ put_earlier xs (rest (left + m)) (at + (left + m)) (from + left) (from + left + m) (omega arith) (omega arith) (omega (arith, size)) in
      ap (λ l. put zs (at + left) (combined f l (slice_range zs (from + left) (from + left + m)))) here
      ∙ ap (λ l. put zs (at + left) (combined f (slice_range xs (at + left) (at + left + m)) l)) there
      ∙ ap (λ l. put l (at + left) next) is ∙ put_front xs next (rest (left + m)) (at + left) (at + (left + m)) (omega (arith, more)) (omega (arith, size))
      ∙ ap (put xs (at + left)) (combined_joined f (slice_range xs (at + left) (at + left + m)) (slice_range xs (from + left) (from + left + m)) (slice_range xs (at + (left + m)) (at + n)) (slice_range xs (from + (left + m)) (from + n)) (a ∙ sym b)
      ∙ ap (λ k. combined f (slice_range xs (at + left) k ++ slice_range xs (at + (left + m)) (at + n)) (slice_range xs (from + left) (from + left + m) ++ slice_range xs (from + (left + m)) (from + n))) p
      ∙ ap (λ k. combined f (slice_range xs (at + left) (at + (left + m)) ++ slice_range xs (at + (left + m)) (at + n)) (slice_range xs (from + left) k ++ slice_range xs (from + (left + m)) (from + n))) q
      ∙ ap (λ l. combined f l (slice_range xs (from + left) (from + (left + m)) ++ slice_range xs (from + (left + m)) (from + n))) (slices_joined xs (at + left) (at + (left + m)) (at + n) (omega arith) (omega arith) target)
      ∙ ap (combined f (slice_range xs (at + left) (at + n))) (slices_joined xs (from + left) (from + (left + m)) (from + n) (omega arith) (omega arith) source))
