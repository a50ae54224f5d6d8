-- The runs of free frames of a map, and their text.
use Rattle.std.specs.Prelude.{◌≡◌, ℕ, Bool, false, true, List, [], ◌∷◌, codes, refl}
use Rattle.std.specs.Fmt.{digits}
use Rattle.std.specs.declared.ops.Range.{Range}
use Rattle.bit_slice.specs.BitRuns.{ranges_of, ranges_text}

-- the runs of free frames of a map, ascending, each a whole run
abbrev pub free_runs_of : List Bool → List (Range ℕ)
free_runs_of taken = ranges_of false taken

-- the runs of free frames of a map, written
abbrev pub map_text : List Bool → List ℕ
map_text taken = ranges_text false taken

abbrev five : List Bool
five = false ∷ false ∷ true ∷ true ∷ false ∷ []

abbrev run : ℕ → ℕ → Range ℕ
run start end = record { start = start; end = end }

runs_of_five : free_runs_of five ≡ run 0 2 ∷ run 4 5 ∷ []
runs_of_five = refl

no_run : free_runs_of (true ∷ true ∷ []) ≡ []
no_run = refl

text_of_five : map_text five ≡ codes "0-1,4"
unfolding digits
text_of_five = refl

text_of_none : map_text (true ∷ []) ≡ codes ""
text_of_none = refl
