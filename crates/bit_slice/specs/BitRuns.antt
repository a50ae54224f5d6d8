-- The runs of equal items of a list.
use Rattle.std.specs.Prelude.{◌≡◌, ◌==◌, ℕ, ◌+◌, ◌-◌, Bool, true, false, if◌then◌else◌, List, [], ◌∷◌, ◌++◌, codes, drop, map, refl, replicate, slice_index_or}
use Rattle.std.specs.Fmt.{decimal, digits}
use Rattle.std.specs.List.{filter, flat_map, prefix_len}
use Rattle.std.specs.declared.ops.Range.{Range}
use Rattle.bit_addressing.specs.declared.store.BitStore as store
use Rattle.bit_addressing.specs.declared.order.BitOrder as order
use Rattle.bit_slice.specs.BitSlice.{len_of, list_of}
use Rattle.bit_slice.specs.Edges.{edges_of}
use Rattle.bit_slice.specs.Numbered.{is_bit}
use Rattle.bit_slice.specs.Places.{ones_of, places_between}
use Rattle.bit_slice.specs.declared.slice.runs.BitRun.{BitRun}
use Rattle.bit_slice.specs.declared.slice.runs.IterRuns.{IterRuns}
use Rattle.bit_slice.specs.declared.slice.ranges.IterRanges.{IterRanges}
use Rattle.bit_slice.specs.declared.slice.ranges.RangesText.{RangesText}

-- the run that begins at an index: the item there, and as many as are equal to it
abbrev pub run_at : List Bool → ℕ → BitRun
run_at xs i = let bit = slice_index_or xs i false in record { start = i; end = i + prefix_len (is_bit bit) (drop i xs); bit = bit }

-- the runs of equal items, in order: one from each item on that differs from the one before it
abbrev pub runs_of : List Bool → List BitRun
runs_of xs = map (run_at xs) (ones_of (edges_of xs))

-- the items of a run
abbrev pub bits_of_run : BitRun → List Bool
bits_of_run r = replicate (r.end - r.start) r.bit

-- the runs that an iterator has left
abbrev pub runs_left : {X Y : Type 0} {W : store.Ghosts X} {P : order.Ghosts Y} → IterRuns X Y W P → List BitRun
runs_left s = map (run_at (list_of s.view)) (places_between (λ b. b) (edges_of (list_of s.view)) s.start (len_of s.view))

-- the indices of a run, as a range
abbrev pub range_of : BitRun → Range ℕ
range_of run = record { start = run.start; end = run.end }

-- of these runs those with this bit, as ranges
abbrev pub ranges_with : Bool → List BitRun → List (Range ℕ)
ranges_with bit runs = map range_of (filter (λ run. is_bit bit run.bit) runs)

-- the ranges of the indices with this bit, ascending, each a whole run
abbrev pub ranges_of : Bool → List Bool → List (Range ℕ)
ranges_of bit xs = ranges_with bit (runs_of xs)

-- the ranges that an iterator has left
abbrev pub ranges_left : {X Y : Type 0} {W : store.Ghosts X} {P : order.Ghosts Y} → IterRanges X Y W P → List (Range ℕ)
ranges_left s = ranges_with s.bit (runs_left s.runs)

-- the first index of a range, and the last where it is another
abbrev pub range_text : Range ℕ → List ℕ
range_text range = decimal range.start ++ (if range.start == range.end - 1 then [] else 45 ∷ decimal (range.end - 1))

-- ranges, each after the first with a comma before it
abbrev pub with_commas : List (Range ℕ) → List ℕ
with_commas [] = []
with_commas (range ∷ ranges) = range_text range ++ flat_map (λ next. 44 ∷ range_text next) ranges

-- the ranges of the indices with this bit, written
abbrev pub ranges_text : Bool → List Bool → List ℕ
ranges_text bit xs = with_commas (ranges_of bit xs)

-- what is written of a text of ranges
abbrev pub shown_ranges : {X Y : Type 0} {W : store.Ghosts X} {P : order.Ghosts Y} → RangesText X Y W P → List ℕ
shown_ranges text = ranges_text text.bit (list_of text.view)

abbrev five : List Bool
five = true ∷ true ∷ false ∷ true ∷ true ∷ []

abbrev run : ℕ → ℕ → Bool → BitRun
run i j b = record { start = i; end = j; bit = b }

runs_of_five : runs_of five ≡ run 0 2 true ∷ run 2 3 false ∷ run 3 5 true ∷ []
runs_of_five = refl

runs_of_none : runs_of [] ≡ []
runs_of_none = refl

bits_of_runs : flat_map bits_of_run (runs_of five) ≡ five
bits_of_runs = refl

text_of_ones : ranges_text true five ≡ codes "0-1,3-4"
unfolding digits
text_of_ones = refl

text_of_zeros : ranges_text false five ≡ codes "2"
unfolding digits
text_of_zeros = refl

text_of_none : ranges_text false (true ∷ []) ≡ codes ""
text_of_none = refl
