-- What a text of ranges says: `0-3,7` is a list that is true from index 0 to 3 and at 7.
use Rattle.std.specs.Prelude.{◌≡◌, ℕ, ◌+◌, ◌-◌, ◌&&◌, nat_le, nat_lt, Bool, true, false, if◌then◌else◌, List, [], ◌∷◌, Option, Some, None, Result, Ok, Err, codes, length, refl, replicate}
use Rattle.std.specs.declared.ops.Range.{Range}
use Rattle.bit_addressing.specs.Row.{put}
use Rattle.bit_containers.specs.TextParts.{number_of, parts_of}

-- the range from a first to a last index, where both are there, in order, and below len
abbrev pub range_to : ℕ → Option ℕ → Option ℕ → Option (Range ℕ)
range_to len (Some first) (Some last) = if nat_le first last && nat_lt last len then Some (record { start = first; end = last + 1 }) else None
range_to len (Some first) None = None
range_to len None last = None

-- the range of an index alone, or from the first of two to the second
abbrev pub range_of_numbers : ℕ → List (List ℕ) → Option (Range ℕ)
range_of_numbers len [] = None
range_of_numbers len (first ∷ []) = range_to len (number_of first) (number_of first)
range_of_numbers len (first ∷ last ∷ []) = range_to len (number_of first) (number_of last)
range_of_numbers len (first ∷ last ∷ other ∷ more) = None

-- the range that a part of the text says: `7`, or `0-3`
abbrev pub range_said : ℕ → List ℕ → Option (Range ℕ)
range_said len part = range_of_numbers len (parts_of 45 part)

-- what follows a range, or the index at which there is none
abbrev pub with_range : Option (Range ℕ) → ℕ → (Range ℕ → Result (List Bool) ℕ) → Result (List Bool) ℕ
with_range None at next = Err at
with_range (Some range) at next = next range

-- a list with the ranges of these parts set in turn, or the index at which the first part begins that says none below len
abbrev pub ranges_set : ℕ → List Bool → ℕ → List (List ℕ) → Result (List Bool) ℕ
ranges_set len xs at [] = Ok xs
ranges_set len xs at (part ∷ parts) = with_range (range_said len part) at (λ range. ranges_set len (put xs range.start (replicate (range.end - range.start) true)) (at + length part + 1) parts)

-- the list of len bits that a text of ranges says, or the index at which its first wrong part begins; no text says that all are false
abbrev pub ranges_read : ℕ → List ℕ → Result (List Bool) ℕ
ranges_read len [] = Ok (replicate len false)
ranges_read len (c ∷ text) = ranges_set len (replicate len false) 0 (parts_of 44 (c ∷ text))

some_ranges : ranges_read 6 (codes "4,0-2") ≡ Ok (true ∷ true ∷ true ∷ false ∷ true ∷ false ∷ [])
unfolding put
some_ranges = refl

no_ranges : ranges_read 2 [] ≡ Ok (false ∷ false ∷ [])
no_ranges = refl

past_the_end : ranges_read 4 (codes "0,2-4") ≡ Err 2
past_the_end = refl

out_of_order : ranges_read 4 (codes "3-2") ≡ Err 0
out_of_order = refl

three_numbers : ranges_read 4 (codes "0-1-2") ≡ Err 0
three_numbers = refl
