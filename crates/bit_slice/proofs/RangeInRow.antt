-- A range of the list that stands in a row from a head on: where it is in the row, and what calls leave that write it.
use Rattle.std.proofs.Common.{◌≡◌, ℕ, ◌+◌, ◌-◌, ◌≤◌, Bool, List, length, map, not, replicate, slice_range, sym, ◌∙◌, ap, arith}
use Rattle.bit_addressing.specs.Range.{LiesIn}
use Rattle.bit_addressing.specs.Row.{put}
use Rattle.bit_addressing.proofs.lists.Shown.{length-between, length-run}
use Rattle.bit_slice.specs.Operators.{combined, part_onto}
use Rattle.bit_slice.proofs.Combining.{length-combined}
use Rattle.bit_slice.proofs.Parts.{run_in_run}

module _ (old : List Bool) (head len : ℕ) (room : head + len ≤ length old) where
  abbrev list : List Bool
  list = slice_range old head (head + len)

  -- a run of the row is a range of the list
  pub range_of_run : (from upto : ℕ) → LiesIn from upto len → slice_range old (head + from) (head + upto) ≡ slice_range list from upto
  range_of_run from upto lies = sym (run_in_run old head (head + len) from upto (omega (arith, lies)) room lies.0)

  -- a range of the list has as many bits as its bounds say
  pub length-range : (from upto : ℕ) → LiesIn from upto len → length (slice_range list from upto) ≡ upto - from
  length-range from upto lies = let size = length-run old head len room in length-between list from upto (omega (arith, size, lies))

  -- two runs of the list that are combined give as many bits as each of them has
  pub length-combined_within : (f : Bool → Bool → Bool) (from upto dest : ℕ) → dest + (upto - from) ≤ len → length (part_onto (combined f) list from upto dest) ≡ upto - from
  length-combined_within f from upto dest fits =
      let size = length-run old head len room in
      length-combined f (slice_range list dest (dest + (upto - from))) (slice_range list from upto) ∙ length-run list dest (upto - from) (omega (arith, size, fits))

module _ (old : List Bool) (head len : ℕ) (room : head + len ≤ length old) (from upto first last : ℕ) (begins : first ≡ from) (ends : last ≡ upto) (lies : LiesIn from upto len) where
  abbrev within : List Bool
  within = slice_range old head (head + len)

  -- a row where a range of the list was filled
  pub filled_range : (bit : Bool) → put old (head + first) (replicate (head + last - (head + first)) bit) ≡ put old (head + from) (replicate (upto - from) bit)
  filled_range bit =
      let count : head + last - (head + first) ≡ upto - from = omega (arith, begins, ends, lies) in
      ap (λ n. put old (head + first) (replicate n bit)) count ∙ ap (λ k. put old (head + k) (replicate (upto - from) bit)) begins

  -- a row where a range of the list was flipped
  pub flipped_range : put old (head + first) (map not (slice_range old (head + first) (head + last))) ≡ put old (head + from) (map not (slice_range within from upto))
  flipped_range =
      ap (λ k. put old (head + k) (map not (slice_range old (head + k) (head + last)))) begins
      ∙ ap (λ k. put old (head + from) (map not (slice_range old (head + from) (head + k)))) ends
      ∙ ap (λ l. put old (head + from) (map not l)) (range_of_run old head len room from upto lies)

  -- a row where a range of the list was combined with another list
  pub combined_range : (f : Bool → Bool → Bool) (ys : List Bool) → put old (head + first) (combined f (slice_range old (head + first) (head + first + (last - first))) ys) ≡ put old (head + from) (combined f (slice_range within from upto) ys)
  combined_range f ys =
      let stop : head + first + (last - first) ≡ head + upto = omega (arith, begins, ends, lies) in
      ap (λ k. put old (head + first) (combined f (slice_range old (head + first) k) ys)) stop
      ∙ ap (λ k. put old (head + k) (combined f (slice_range old (head + k) (head + upto)) ys)) begins
      ∙ ap (λ l. put old (head + from) (combined f l ys)) (range_of_run old head len room from upto lies)

  -- a row where a range of the list was combined onto the bits from another index on
  pub combined_within : (f : Bool → Bool → Bool) (dest : ℕ) → dest + (upto - from) ≤ len
      → put old (head + dest) (combined f (slice_range old (head + dest) (head + dest + (last - first))) (slice_range old (head + first) (head + first + (last - first)))) ≡ put old (head + dest) (part_onto (combined f) within from upto dest)
  combined_within f dest fits =
      let n : ℕ = upto - from in
      let there : head + dest + (last - first) ≡ head + (dest + n) = omega (arith, begins, ends, lies) in
      let stop : head + first + (last - first) ≡ head + upto = omega (arith, begins, ends, lies) in
      ap (λ k. put old (head + dest) (combined f (slice_range old (head + dest) k) (slice_range old (head + first) (head + first + (last - first))))) there
      ∙ ap (λ k. put old (head + dest) (combined f (slice_range old (head + dest) (head + (dest + n))) (slice_range old (head + first) k))) stop
      ∙ ap (λ k. put old (head + dest) (combined f (slice_range old (head + dest) (head + (dest + n))) (slice_range old (head + k) (head + upto)))) begins
      ∙ ap (λ l. put old (head + dest) (combined f l (slice_range old (head + from) (head + upto)))) (range_of_run old head len room dest (dest + n) (omega arith, fits))
      ∙ ap (λ l. put old (head + dest) (combined f (slice_range within dest (dest + n)) l)) (range_of_run old head len room from upto lies)
