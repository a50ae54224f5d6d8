-- A list that is written as the combination of two others, a number of bits at a time.
use Rattle.std.proofs.Common.{◌≡◌, ℕ, ◌+◌, ◌-◌, ◌≤◌, Bool, List, length, slice_range, refl, sym, ◌∙◌, ap, arith, rules}
use Rattle.std.proofs.lemmas.List.{same_lists, places}
use Rattle.bit_addressing.specs.Row.{put}
use Rattle.bit_addressing.proofs.lists.Put.{length-put}
use Rattle.bit_addressing.proofs.lists.Shown.{length-between, length-run}
use Rattle.bit_rows.proofs.Numbers.{put_next}
use Rattle.bit_slice.specs.Operators.{combined}
use Rattle.bit_slice.proofs.Combining.{length-combined}
use Rattle.bit_slice.proofs.Ranges.{part_combined}
use Rattle.bit_slice.proofs.Swapped.{put_again}

-- what was put is read back
put_read : (xs ys : List Bool) (d n : ℕ) → length ys ≡ n → d + n ≤ length xs → slice_range (put xs d ys) d (d + n) ≡ ys
unfolding put
put_read xs ys d n size h = same_lists _ _ (search (rules, places)) (λ i b below. grind (arith, places))

module _ (f : Bool → Bool → Bool) (old ls rs : List Bool) (head len : ℕ) (size : length ls ≡ len) (room : head + len ≤ length old) where
  -- one piece more is copied from the left and combined with the right
  pub assigned_more : (cur : List Bool) (done n : ℕ) → cur ≡ put old head (slice_range (combined f ls rs) 0 done) → done + n ≤ len
      → put (put cur (head + done) (slice_range ls done (done + n))) (head + done) (combined f (slice_range (put cur (head + done) (slice_range ls done (done + n))) (head + done) (head + done + n)) (slice_range rs done (done + n))) ≡ put old head (slice_range (combined f ls rs) 0 (done + n))
  assigned_more cur done n is few =
      let all : List Bool = combined f ls rs in
      let xs : List Bool = slice_range ls done (done + n) in
      let whole : length all ≡ length ls = length-combined f ls rs in
      let part : length xs ≡ n = length-run ls done n (omega arith) in
      let made : length (slice_range all done (done + n)) ≡ n = length-run all done n (omega arith) in
      let so_far : length cur ≡ length old = let l : length (slice_range all 0 done) ≡ done - 0 = length-between all 0 done (omega arith) in ap length is ∙ length-put old (slice_range all 0 done) head (omega arith) in
      let e : done + n - done ≡ n = omega arith in
      ap (λ l. put (put cur (head + done) xs) (head + done) (combined f l (slice_range rs done (done + n)))) (put_read cur xs (head + done) n part (omega arith))
      ∙ ap (put (put cur (head + done) xs) (head + done)) (part_combined f ls rs done n (omega arith))
      ∙ put_again cur xs (slice_range all done (done + n)) (head + done) (part ∙ sym made) (omega arith)
      ∙ put_next old cur all (slice_range all done (done + n)) head 0 done (done + n) (head + done) (omega arith) (omega arith) (omega arith) (omega arith) (omega arith) is refl

  -- all of it
  pub assigned_all : (done : ℕ) → done ≡ len → put old head (slice_range (combined f ls rs) 0 done) ≡ put old head (combined f ls rs)
  assigned_all done is =
      let whole : length (combined f ls rs) ≡ length ls = length-combined f ls rs in
      ap (put old head) (same_lists _ _ (search (rules, places)) (λ i b below. grind (arith, places)))
