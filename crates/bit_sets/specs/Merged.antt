-- What an iterator over the numbers of two sets has left.
use Rattle.std.specs.Prelude.{ℕ, Bool, ◌&&◌, ◌||◌, not, if◌then◌else◌, List, length}
use Rattle.bit_slice.specs.Operators.{combined}
use Rattle.bit_slice.specs.Places.{places_between}
use Rattle.bit_containers.specs.Making.{filled_up}
use Rattle.bit_sets.specs.declared.number_set.merged.Merging.{Merging}
use Rattle.bit_sets.specs.declared.number_set.merged.Merging.TheVariants.{Either, Both, LeftAlone, OneAlone}
use Rattle.bit_sets.specs.declared.number_set.merged.Merged.{Merged}

-- whether a number is given, by whether it is in the left set and in the right one
abbrev pub made_by : Merging → Bool → Bool → Bool
made_by Either x y = x || y
made_by Both x y = x && y
made_by LeftAlone x y = x && not y
made_by OneAlone x y = if x then not y else y

-- the set of the numbers that are to be given
abbrev pub merged_list : Merging → List Bool → List Bool → List Bool
merged_list merging xs ys = combined (made_by merging) (filled_up xs (length ys)) ys

-- the numbers that an iterator has left
abbrev pub merged_left : Merged → List ℕ
merged_left s = places_between (λ b. b) (merged_list s.merging s.left.now s.right.now) s.from s.upto
