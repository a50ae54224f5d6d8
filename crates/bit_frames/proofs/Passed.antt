-- Searches that pass 64 frames at a time.
use Rattle.std.proofs.Common.{◌≡◌, ◌≢◌, ℕ, ◌+◌, ◌-◌, ◌^◌, ◌<◌, ◌≤◌, Bool, true, false, not, List, length, slice_get, slice_range, Option, Some, None, refl, sym, ◌∙◌, ap, subst, inl, inr, arith}
use Rattle.std.specs.Prelude.{count_by, count_ones, MatchOption}
use Rattle.std.specs.Int.Bits.{xor_zero_r}
use Rattle.std.specs.Int.Count.{count_leading_zeros}
use Rattle.std.proofs.lemmas.Bool.{cases_lt}
use Rattle.std.proofs.lemmas.Option.{slice_get-get_or}
use Rattle.bit_addressing.specs.Row.{number_of}
use Rattle.bit_addressing.proofs.lists.Shown.{length-run}
use Rattle.bit_rows.proofs.Counts.{counted}
use Rattle.bit_slice.proofs.Found.{IsTop, top_here}
use Rattle.bit_slice.proofs.Shown.{count_by-not}
use Rattle.bit_frames.specs.FreeMap.{AreFree, IsNextRun, IsTaken}
use Rattle.bit_frames.proofs.Counted.{taken_count}
use Rattle.bit_frames.proofs.Frames.{NoneBefore, in_run, other_bit, run_inside}

-- 64 frames from `at` on, whose bits are those of a number
module _ (map : List Bool) (at block : ℕ) (inside : at + 64 ≤ length map) (is : block ≡ number_of (slice_range map at (at + 64))) where
  abbrev frames : List Bool
  frames = slice_range map at (at + 64)

  many : length frames ≡ 64
  many = length-run map at 64 inside

  free_count : 64 - count_ones block ≡ count_by not frames
  free_count = count_by-not frames 64 (count_ones block) (sym many) (counted map at (at + 64) at (at + 64) block refl refl is)

  -- free frames in a row among them are at most as many as are free
  few_in_row : (first n : ℕ) → first + n ≤ 64 → AreFree map n (at + first) → n ≤ 64 - count_ones block
  few_in_row first n within free =
      let each : AreFree frames n first = λ i h. (let same : at + (first + i) ≡ at + first + i = omega arith in in_run map at 64 (first + i) inside (omega arith) ∙ ap (slice_get map) same ∙ free i h) in
      omega (arith, free_count, taken_count frames first n (omega (arith, many)) each)

  -- a run from `start` on that ends by their end has no more frames than lie from there up to `at`, and are free of them
  pub few_free : (start count k : ℕ) → start ≤ k → k + count ≤ at + 64 → AreFree map count k → count ≤ at - start + (64 - count_ones block)
  few_free start count k later ends free = elim (cases_lt (k + count) at) [
    | inl before ↦ omega arith
    | inr reaches ↦ elim (cases_lt k at) [
      | inl early ↦ omega (arith, few_in_row 0 (k + count - at) (omega arith) (λ i h. (let same : k + (at - k + i) ≡ at + 0 + i = omega arith in ap (slice_get map) (sym same) ∙ free (at - k + i) (omega arith))))
      | inr within ↦ omega (arith, few_in_row (k - at) count (omega arith) (λ i h. (let same : k + i ≡ at + (k - at) + i = omega arith in ap (slice_get map) (sym same) ∙ free i h)))
    ]
  ]

  -- the highest bit of the number is that of the last taken one
  pub last_taken : block ≢ 0 → block < 2 ^ 64 → (count_leading_zeros 64 block ≤ 63) × IsTaken map (at + (63 - count_leading_zeros 64 block))
  last_taken some fits =
      let same = xor_zero_r block in
      let P : ℕ → Type 0 = λ x. (count_leading_zeros 64 x ≤ 63) × IsTop frames true 64 (63 - count_leading_zeros 64 x) in
      let Q : ℕ → Type 0 = λ x. x < 2 ^ 64 in
      let top = subst P same (top_here frames block 0 64 is many (omega arith) true refl (λ e. some (sym same ∙ e)) (subst Q (sym same) fits)) in
      let t : ℕ = 63 - count_leading_zeros 64 block in (
        top.0,
        sym (in_run map at 64 t inside top.1.within) ∙ slice_get-get_or frames t false (omega (arith, many, top.1.within)) ∙ ap Some top.1.here,
      )

module _ (map : List Bool) (from count : ℕ) (some : 0 < count) where
  -- where no run that begins from `start` on ends in some frames, none begins up to the last taken one of these
  pub none_passed : (start end next : ℕ) → (start < next → (next ≤ end) × IsTaken map (next - 1)) → NoneBefore map from count some start → ((k : ℕ) → start ≤ k → k + count ≤ end → AreFree map count k → ⊥) → NoneBefore map from count some next
  none_passed start end next last before none k low high free = elim (cases_lt k start) [
    | inl l ↦ before k low l free
    | inr l ↦
        let taken = last (omega arith) in
        elim (cases_lt (next - 1) (k + count)) [
          | inl reaches ↦ (let e : k + (next - 1 - k) ≡ next - 1 = omega arith in other_bit (slice_get map (next - 1)) taken.1 (ap (slice_get map) (sym e) ∙ free (next - 1 - k) (omega arith)))
          | inr ends ↦ none k l (omega (arith, taken.0)) free
        ]
  ]

  -- the next run from a later frame on, where none begins before that
  pub next_from : (start end : ℕ) (r : Option ℕ) → end ≡ length map → from ≤ start → NoneBefore map from count some start → MatchOption r ((k : ℕ) → start ≤ k → k + count ≤ end → AreFree map count k → ⊥) (λ first. IsNextRun map count start first)
      → MatchOption r ((k : ℕ) → from ≤ k → AreFree map count k → ⊥) (λ first. IsNextRun map count from first)
  next_from start end None all later before none = λ k low free. elim (cases_lt k start) [
    | inl l ↦ before k low l free
    | inr l ↦ none k l (omega (arith, run_inside map count k some free)) free
  ]
  next_from start end (Some first) all later before is = record {
    begins = omega (arith, is.begins);
    inside = is.inside;
    free = is.free;
    before = λ k low high free. elim (cases_lt k start) [ inl l ↦ before k low l free | inr l ↦ is.before k l high free ];
  }
