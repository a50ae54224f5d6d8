-- How many frames are free after some were taken or given back.
use Rattle.std.proofs.Common.{◌≡◌, ℕ, ◌+◌, ◌-◌, ◌*◌, ◌<◌, ◌≤◌, Bool, true, false, not, cond, List, ◌++◌, Some, drop, length, replicate, set, slice_get, take, sym, ◌∙◌, ap, inl, inr, arith}
use Rattle.std.specs.Prelude.{count_by}
use Rattle.std.specs.List.{sum_by}
use Rattle.std.proofs.lemmas.Bool.{cases_lt}
use Rattle.std.proofs.lemmas.List.{ext_get_or, get_or-replicate, length-replicate}
use Rattle.std.proofs.lemmas.List.Folds.{sum_by-replicate}
use Rattle.std.proofs.lemmas.List.Sums.{sum_by-append}
use Rattle.std.proofs.lemmas.Option.{get_or_from_slice_get}
use Rattle.bit_addressing.specs.Row.{put}
use Rattle.bit_addressing.proofs.lists.Put.{length-put, put_before, put_after, put_inside, put_one}
use Rattle.bit_frames.specs.FreeMap.{AreFree, AreTaken}

-- frames that are all free or all taken are so already
same_put : (map : List Bool) (first count : ℕ) (bit : Bool) → first + count ≤ length map → ((i : ℕ) → i < count → slice_get map (first + i) ≡ Some bit) → put map first (replicate count bit) ≡ map
same_put map first count bit inside each =
    let many = length-replicate count bit in
    let size = length-put map (replicate count bit) first (omega arith) in
    ext_get_or false (put map first (replicate count bit)) map size
    (λ i h. elim (cases_lt i first) [
      | inl low ↦ put_before map (replicate count bit) first i false (omega arith) low
      | inr l ↦ elim (cases_lt i (first + count)) [
        | inl m ↦
            let at : first + (i - first) ≡ i = omega arith in
            put_inside map (replicate count bit) first i false (omega arith) l (omega arith) ∙ get_or-replicate count (i - first) bit false (omega arith)
            ∙ sym (get_or_from_slice_get map i bit false (ap (slice_get map) (sym at) ∙ each (i - first) (omega arith)))
        | inr m ↦ put_after map (replicate count bit) first i false (omega arith) (omega arith)
      ]
    ])

-- the free frames of a map in which a run was written over
put_count : (map : List Bool) (first count : ℕ) (bit : Bool) → count_by not (put map first (replicate count bit)) ≡ count_by not (take first map) + (count * cond (not bit) 1 0 + count_by not (drop (first + count) map))
unfolding put
put_count map first count bit =
    let f = λ (b : Bool). cond (not b) 1 0 in
    let many = length-replicate count bit in
    sum_by-append f (take first map) (replicate count bit ++ drop (first + length (replicate count bit)) map)
    ∙ ap (λ n. sum_by f (take first map) + n) (sum_by-append f (replicate count bit) (drop (first + length (replicate count bit)) map) ∙ ap (λ n. n + sum_by f (drop (first + length (replicate count bit)) map)) (sum_by-replicate f count bit) ∙ ap (λ n. count * cond (not bit) 1 0 + sum_by f (drop (first + n) map)) many)

-- taking a free run lowers the number of free frames by its length
pub taken_count : (map : List Bool) (first count : ℕ) → first + count ≤ length map → AreFree map count first → count_by not (put map first (replicate count true)) + count ≡ count_by not map
taken_count map first count inside free =
    let was = ap (count_by not) (sym (same_put map first count false inside free)) ∙ put_count map first count false in
    let now = put_count map first count true in
    omega arith

-- freeing a taken run raises the number of free frames by its length
pub freed_count : (map : List Bool) (first count : ℕ) → first + count ≤ length map → AreTaken map count first → count_by not (put map first (replicate count false)) ≡ count_by not map + count
freed_count map first count inside taken =
    let was = ap (count_by not) (sym (same_put map first count true inside taken)) ∙ put_count map first count true in
    let now = put_count map first count false in
    omega arith

-- taking a free frame lowers the number of free frames by one
pub one_taken : (map : List Bool) (frame : ℕ) → frame < length map → slice_get map frame ≡ Some false → count_by not (set map frame true) + 1 ≡ count_by not map
one_taken map frame inside free =
    ap (λ l. count_by not l + 1) (put_one map frame true inside)
    ∙ taken_count map frame 1 (omega arith) (λ i h. (let at : frame + i ≡ frame = omega arith in ap (slice_get map) at ∙ free))
