-- Runs of free frames: where one ends, and that none begins before it.
use Rattle.std.proofs.Common.{◌≡◌, ◌≢◌, ℕ, ◌+◌, ◌-◌, ◌%◌, ◌<◌, ◌≤◌, Bool, true, false, List, length, replicate, get_or, Option, Some, None, slice_get, slice_range, sym, ◌∙◌, ap, inl, inr, arith}
use Rattle.std.specs.Option.{IfNone, IfSome, unwrap_or}
use Rattle.std.proofs.lemmas.Bool.{cases_lt}
use Rattle.std.proofs.lemmas.List.{ext_get_or, get_or-replicate, length-replicate}
use Rattle.std.proofs.lemmas.Option.{get_or_from_slice_get, slice_get-get_or, slice_get_within}
use Rattle.bit_addressing.specs.Row.{put}
use Rattle.bit_addressing.proofs.lists.Put.{length-put, put_before, put_after, put_inside, put_none}
use Rattle.std.specs.Prelude.{◌↔◌, EachIndex, MatchOption}
use Rattle.bit_addressing.proofs.lists.Shown.{get_or-run, length-run}
use Rattle.bit_slice.proofs.Multiples.{gap_least}
use Rattle.bit_slice.proofs.Ranges.{read_filled}
use Rattle.bit_slice.specs.Pieces.{part}
use Rattle.bit_slice.proofs.BitRuns.{all_inside}
use Rattle.bit_frames.specs.FreeMap.{AreFree, AreTaken, IsFirstRun, IsNextRun, IsTaken}

-- a bit that is true is not false
pub other_bit : (o : Option Bool) → o ≡ Some true → o ≢ Some false
other_bit o is e = some_apart (sym is ∙ e)
  where
    some_apart : Some true ≢ Some false
    some_apart e = cc

-- the frame after a run isn't free, and lies in the map or right after it
pub after_run : (map : List Bool) (first n : ℕ) (r : Option ℕ) → n ≡ length map → first < n → IfSome r (λ k. first ≤ k) → IfSome r (λ k. slice_get map k ≡ Some true)
    → (slice_get map (unwrap_or r n) ≢ Some false) × (first ≤ unwrap_or r n) × (unwrap_or r n ≤ n)
after_run map first n None size inside begins found = (λ e. (let within = slice_get_within map n false e in absurd (omega arith)), omega arith, omega arith)
after_run map first n (Some k) size inside begins found =
    let within = slice_get_within map k true found in
    (other_bit (slice_get map k) found, begins, omega arith)

-- ---- searches

-- a run of free frames lies in the map
pub run_inside : (map : List Bool) (count first : ℕ) → 0 < count → AreFree map count first → first + count ≤ length map
run_inside map count first some free = (let last = slice_get_within map (first + (count - 1)) false (free (count - 1) (omega arith)) in omega arith)

-- it is a part of the map that is false
part_free : (map : List Bool) (count first : ℕ) → 0 < count → AreFree map count first → part count map first ≡ replicate count false
part_free map count first some free =
    all_inside map count first false (run_inside map count first some free) (record {
      each = λ k low high. (let at : first + (k - first) ≡ k = omega arith in get_or_from_slice_get map k false false (ap (slice_get map) (sym at) ∙ free (k - first) (omega arith)));
    })

module _ (map : List Bool) (from count : ℕ) (some : 0 < count) where
  -- no run of that many begins from `from` on before an index
  abbrev pub NoneBefore : ℕ → Type 0
  NoneBefore at = (k : ℕ) → from ≤ k → k < at → AreFree map count k → ⊥

  -- frames that are taken up to a free one begin no run
  pub none_up_to : (at first : ℕ) → ((j : ℕ) → at ≤ j → j < first → IsTaken map j) → NoneBefore at → NoneBefore first
  none_up_to at first taken none k low high free = elim (cases_lt k at) [
    | inl l ↦ none k low l free
    | inr l ↦ (let e : k + 0 ≡ k = omega arith in other_bit (slice_get map k) (taken k l high) (ap (slice_get map) (sym e) ∙ free 0 some))
  ]

  -- nor does a frame from which a taken one comes too soon
  pub none_over : (first last : ℕ) → first ≤ last → last < first + count → IsTaken map last → NoneBefore first → NoneBefore (last + 1)
  none_over first last order near taken none k low high free = elim (cases_lt k first) [
    | inl l ↦ none k low l free
    | inr l ↦ (let e : k + (last - k) ≡ last = omega arith in other_bit (slice_get map last) taken (ap (slice_get map) (sym e) ∙ free (last - k) (omega arith)))
  ]

  -- nor does any where all later frames are taken
  pub none_past : (at : ℕ) → ((j : ℕ) → at ≤ j → j < length map → IsTaken map j) → NoneBefore at → (k : ℕ) → from ≤ k → AreFree map count k → ⊥
  none_past at taken none k low free =
      let inside = run_inside map count k some free in
      none_up_to at (length map) taken none k low (omega arith) free

-- the next free run from frame 0 on is the first free run
pub first_fit : (map : List Bool) (count : ℕ) (r : Option ℕ) → MatchOption r ((k : ℕ) → 0 ≤ k → AreFree map count k → ⊥) (λ first. IsNextRun map count 0 first) → MatchOption r ((k : ℕ) → AreFree map count k → ⊥) (λ first. IsFirstRun map count first)
first_fit map count None none = λ k free. none k (omega arith) free
first_fit map count (Some i) is = record { inside = is.inside; free = is.free; before = λ k low free. is.before k (omega arith) low free }

-- no run of that many ends after the last free frame before `upto`
pub none_after : (map : List Bool) (upto last count : ℕ) → 0 < count → ((j : ℕ) → last < j → j < upto → IsTaken map j) → ((i : ℕ) → upto < i + count → AreFree map count i → ⊥) → (i : ℕ) → last + 1 < i + count → AreFree map count i → ⊥
none_after map upto last count some taken none i past free = elim (cases_lt upto (i + count)) [
  | inl l ↦ none i l free
  | inr l ↦ other_bit (slice_get map (i + (count - 1))) (taken (i + (count - 1)) (omega arith) (omega arith)) (free (count - 1) (omega arith))
]

-- nor after the first of the free frames that end with it, where they are too few
pub none_from : (map : List Bool) (upto last start count : ℕ) → 0 < count → ((j : ℕ) → last < j → j < upto → IsTaken map j) → ((i : ℕ) → upto < i + count → AreFree map count i → ⊥) → ((j : ℕ) → j + 1 ≡ start → IsTaken map j) → start ≤ last → last - start < count - 1
    → (i : ℕ) → start < i + count → AreFree map count i → ⊥
none_from map upto last start count some taken none edge order few i past free = elim (cases_lt (last + 1) (i + count)) [
  | inl l ↦ none_after map upto last count some taken none i l free
  | inr l ↦
      let at : i + (start - 1 - i) ≡ start - 1 = omega arith in
      other_bit (slice_get map (start - 1)) (edge (start - 1) (omega arith)) (ap (slice_get map) (sym at) ∙ free (start - 1 - i) (omega arith))
]

-- frames that were free, marked as taken and then as free
pub put_back : (map now new : List Bool) (first count : ℕ) → first + count ≤ length now → AreFree map count first → now ≡ put map first (replicate count true) → new ≡ put now first (replicate count false) → new ≡ map
put_back map now new first count inside free taken given =
    let marks : List Bool = replicate count true in
    let clear : List Bool = replicate count false in
    let many : length marks ≡ count = length-replicate count true in
    let same : length clear ≡ count = length-replicate count false in
    elim (cases_lt 0 count) [
      | inl some ↦
          let last = slice_get_within map (first + (count - 1)) false (free (count - 1) (omega arith)) in
          let size = length-put map marks first (omega arith) in
          let wide : length now ≡ length map = ap length taken ∙ size in
          let all = length-put now clear first (omega arith) in
          given ∙ ext_get_or false (put now first clear) map (all ∙ wide)
          (λ i h. elim (cases_lt i first) [
            | inl low ↦ put_before now clear first i false (omega arith) low ∙ ap (λ l. get_or l i false) taken ∙ put_before map marks first i false (omega arith) low
            | inr l ↦ elim (cases_lt i (first + count)) [
              | inl m ↦
                  let at : first + (i - first) ≡ i = omega arith in
                  put_inside now clear first i false (omega arith) l (omega arith) ∙ get_or-replicate count (i - first) false false (omega arith)
                  ∙ sym (get_or_from_slice_get map i false false (ap (slice_get map) (sym at) ∙ free (i - first) (omega arith)))
              | inr m ↦ put_after now clear first i false (omega arith) (omega arith) ∙ ap (λ l. get_or l i false) taken ∙ put_after map marks first i false (omega arith) (omega arith)
            ]
          ])
      | inr none ↦
          let zero_is : count ≡ 0 = omega arith in
          given ∙ ap (λ k. put now first (replicate k false)) zero_is ∙ put_none now first ∙ taken ∙ ap (λ k. put map first (replicate k true)) zero_is ∙ put_none map first
    ]

-- a map with marked frames has as many
pub marked_length : (map : List Bool) (first count : ℕ) (taken : Bool) → first + count ≤ length map → length (put map first (replicate count taken)) ≡ length map
marked_length map first count taken inside =
    let many = length-replicate count taken in
    length-put map (replicate count taken) first (omega arith)

-- a frame of a run is the one at its index in the part of the map
pub in_run : (map : List Bool) (first count i : ℕ) → first + count ≤ length map → i < count → slice_get (slice_range map first (first + count)) i ≡ slice_get map (first + i)
in_run map first count i inside h =
    let size = length-run map first count inside in
    slice_get-get_or (slice_range map first (first + count)) i false (omega arith) ∙ ap Some (get_or-run map first count i h) ∙ sym (slice_get-get_or map (first + i) false (omega arith))

-- frames are taken exactly where each bit of their part is true
pub all_taken : (map : List Bool) (first count : ℕ) → first + count ≤ length map → EachIndex (slice_range map first (first + count)) (λ i. slice_get (slice_range map first (first + count)) i ≡ Some true) ↔ AreTaken map count first
all_taken map first count inside =
    let size = length-run map first count inside in (
      (λ each i h. sym (in_run map first count i inside h) ∙ each i (omega arith)),
      (λ taken i h. in_run map first count i inside (omega arith) ∙ taken i (omega arith)),
    )

-- frames that were marked as taken are
pub marked_taken : (map now : List Bool) (first count : ℕ) → AreFree map count first → now ≡ put map first (replicate count true) → AreTaken now count first
marked_taken map now first count free marked i h =
    let last = slice_get_within map (first + (count - 1)) false (free (count - 1) (omega arith)) in
    ap (λ l. slice_get l (first + i)) marked ∙ read_filled map first count true (omega arith) (first + i) (omega arith) (omega arith)

-- the frames from a free one up to the next taken one are free
pub free_up_to : (map : List Bool) (first n : ℕ) (r : Option ℕ) → n ≡ length map → IfSome r (λ i. (j : ℕ) → first ≤ j → j < i → slice_get map j ≡ Some false) → IfNone r ((j : ℕ) → first ≤ j → j < length map → slice_get map j ≡ Some false)
    → (j : ℕ) → first ≤ j → j < unwrap_or r n → slice_get map j ≡ Some false
free_up_to map first n None size some none j from below = none j from (omega arith)
free_up_to map first n (Some k) size some none j from below = some j from below

-- none begins before the first free frame
pub no_early : (map : List Bool) (from first count align : ℕ) → 0 < count → ((j : ℕ) → from ≤ j → j < first → slice_get map j ≡ Some true) → ((i : ℕ) → i < from → i % align ≡ 0 → AreFree map count i → ⊥) → (i : ℕ) → i < first → i % align ≡ 0 → AreFree map count i → ⊥
no_early map from first count align some before none i below multiple free = elim (cases_lt i from) [
  | inl l ↦ none i l multiple free
  | inr l ↦
      let here : i + 0 ≡ i = omega arith in
      other_bit (slice_get map i) (before i l below) (ap (slice_get map) (sym here) ∙ free 0 some)
]

-- no run of that many at a multiple begins before the end of a run of free frames in which it has no room
pub no_aligned : (map : List Bool) (from first end count align : ℕ) → 0 < count → 0 < align → ((j : ℕ) → from ≤ j → j < first → slice_get map j ≡ Some true) → ((i : ℕ) → i < from → i % align ≡ 0 → AreFree map count i → ⊥) → slice_get map end ≢ Some false
    → end < first + (align - first % align) % align + count → (i : ℕ) → i < end → i % align ≡ 0 → AreFree map count i → ⊥
no_aligned map from first end count align some wide before none taken short i below multiple free = elim (cases_lt i first) [
  | inl l ↦ no_early map from first count align some before none i l multiple free
  | inr l ↦
      let least = gap_least align first i wide l multiple in
      let at : i + (end - i) ≡ end = omega arith in
      taken (ap (slice_get map) (sym at) ∙ free (end - i) (omega arith))
]
