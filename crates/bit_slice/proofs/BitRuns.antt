-- The runs of equal items of a list, and where they begin.
use Rattle.std.proofs.Common.{◌≡◌, ℕ, zero, suc, ◌+◌, ◌-◌, ◌<◌, ◌≤◌, Bool, true, false, not, cond, if◌then◌else◌, List, [], ◌∷◌, length, drop, map, get_or, slice_range, refl, sym, ◌∙◌, ap, subst, inl, inr, arith, replicate, slice_get, Some, ◌≢◌, ◌^◌, bit_and, w64, None, Option}
use Rattle.std.specs.Prelude.{IfSome}
use Rattle.std.specs.Int.{trailing_zeros}
use Rattle.std.specs.List.{filter, prefix_len}
use Rattle.std.proofs.lemmas.Bool.{cases_lt, true≢false}
use Rattle.std.proofs.lemmas.List.Sums.{prefix_len_is}
use Rattle.std.proofs.lemmas.List.{ext_get_or, get_or-drop, get_or-replicate, get_or-take, length-drop, length-replicate, length-take-le}
use Rattle.bit_addressing.specs.Bits.{has_bit}
use Rattle.bit_addressing.specs.Row.{number_of}
use Rattle.bit_addressing.proofs.lists.Shown.{get_or-run}
use Rattle.bit_slice.specs.BitRuns.{range_of, ranges_with, run_at}
use Rattle.bit_slice.specs.declared.slice.runs.BitRun.{BitRun}
use Rattle.bit_slice.specs.Edges.{edges_of, first_in, IsRunUpto}
use Rattle.bit_slice.specs.Numbered.{is_bit}
use Rattle.bit_slice.specs.Operators.{xor_of}
use Rattle.bit_slice.specs.Pieces.{part}
use Rattle.bit_slice.specs.Places.{IsAbsent, IsChunk, IsChunkLeft, places_between}
use Rattle.bit_slice.proofs.Chunked.{absent_joined, first_inside, first_set, next_after, next_at_end, none_before, none_until}
use Rattle.bit_slice.proofs.Found.{item_is}
use Rattle.bit_slice.proofs.Patterns.{item_of_chunk}
use Rattle.bit_slice.proofs.Places.{places_from, places_later}

-- ---- which items differ from the one before

abbrev differ : Bool → Bool → Bool
differ x y = if x then not y else y

length-xor : (xs ys : List Bool) → length (xor_of xs ys) ≡ length xs
length-xor [] ys = refl
length-xor (x ∷ xs) [] = ap suc (length-xor xs [])
length-xor (x ∷ xs) (y ∷ ys) = ap suc (length-xor xs ys)

-- there is one edge bit for each item
pub length-edges : (xs : List Bool) → length (edges_of xs) ≡ length xs
length-edges [] = refl
length-edges (x ∷ xs) = ap suc (length-xor xs (x ∷ xs))

item_of_xor : (xs ys : List Bool) (i : ℕ) → i < length xs → get_or (xor_of xs ys) i false ≡ differ (get_or xs i false) (get_or ys i false)
item_of_xor [] ys i h = absurd (omega arith)
item_of_xor (x ∷ xs) [] zero h = refl
item_of_xor (x ∷ xs) [] (suc i) h = item_of_xor xs [] i (omega arith)
item_of_xor (x ∷ xs) (y ∷ ys) zero h = refl
item_of_xor (x ∷ xs) (y ∷ ys) (suc i) h = item_of_xor xs ys i (omega arith)

-- the first item begins a run
pub first_edge : (xs : List Bool) → 0 < length xs → get_or (edges_of xs) 0 false ≡ true
first_edge [] h = absurd (omega arith)
first_edge (x ∷ xs) h = refl

-- an edge is where an item differs from the one before it
pub item_of_edges : (xs : List Bool) (i : ℕ) → suc i < length xs → get_or (edges_of xs) (suc i) false ≡ differ (get_or xs (suc i) false) (get_or xs i false)
item_of_edges [] i h = absurd (omega arith)
item_of_edges (x ∷ xs) i h = item_of_xor xs (x ∷ xs) i (omega arith)

equal_items : (x y : Bool) → differ x y ≡ false → x ≡ y
equal_items true true e = refl
equal_items true false e = e
equal_items false true e = sym e
equal_items false false e = refl

other_items : (x y : Bool) → differ x y ≡ true → x ≡ not y
other_items true true e = sym e
other_items true false e = refl
other_items false true e = refl
other_items false false e = e

same_items : (x y : Bool) → x ≡ y → differ x y ≡ false
same_items true y e = ap not (sym e)
same_items false y e = sym e

not_same : (x y : Bool) → x ≡ not y → differ x y ≡ true
not_same x true e = ap (λ b. differ b true) e
not_same x false e = ap (λ b. differ b false) e

-- ---- one run

module _ (xs : List Bool) (start : ℕ) (bit : Bool) (here : get_or xs start false ≡ bit) where
  -- where no item differs from the one before, all are equal
  all_equal : (n : ℕ) → start + n < length xs → IsAbsent true (edges_of xs) (start + 1) (start + n + 1) → get_or xs (start + n) false ≡ bit
  all_equal zero h none = let e : start + zero ≡ start = omega arith in ap (λ i. get_or xs i false) e ∙ here
  all_equal (suc n) h none =
      let e : start + suc n ≡ suc (start + n) = omega arith in
      let before = all_equal n (omega arith) (record { each = λ j a b. none.each j a (omega arith) }) in
      ap (λ i. get_or xs i false) e
      ∙ equal_items (get_or xs (suc (start + n)) false) (get_or xs (start + n) false) (sym (item_of_edges xs (start + n) (omega arith)) ∙ none.each (suc (start + n)) (omega arith) (omega arith))
      ∙ before

  -- without an edge the items stay equal
  pub equal_upto : (upto : ℕ) → upto ≤ length xs → IsAbsent true (edges_of xs) (start + 1) upto → (j : ℕ) → start ≤ j → j < upto → get_or xs j false ≡ bit
  equal_upto upto inside none j a b =
      let e : start + (j - start) ≡ j = omega arith in
      ap (λ i. get_or xs i false) (sym e) ∙ all_equal (j - start) (omega arith) (record { each = λ k c d. none.each k c (omega arith) })

-- items that are equal begin no run, but for the first
pub none_begins : (xs : List Bool) (lo hi : ℕ) (bit : Bool) → hi ≤ length xs → ((j : ℕ) → lo ≤ j → j < hi → get_or xs j false ≡ bit) → IsAbsent true (edges_of xs) (lo + 1) hi
none_begins xs lo hi bit inside each = record {
  each = λ j a b.
      let e : suc (j - 1) ≡ j = omega arith in
      ap (λ i. get_or (edges_of xs) i false) (sym e)
      ∙ item_of_edges xs (j - 1) (omega arith)
      ∙ same_items (get_or xs (suc (j - 1)) false) (get_or xs (j - 1) false)
      (each (suc (j - 1)) (omega arith) (omega arith) ∙ sym (each (j - 1) (omega arith) (omega arith)));
}

-- an item that is another than the one before begins a run
pub begins_after : (xs : List Bool) (i : ℕ) (bit : Bool) → 0 < i → i < length xs → get_or xs (i - 1) false ≡ bit → get_or xs i false ≡ not bit → get_or (edges_of xs) i false ≡ true
begins_after xs i bit some inside before here =
    let e : suc (i - 1) ≡ i = omega arith in
    ap (λ j. get_or (edges_of xs) j false) (sym e)
    ∙ item_of_edges xs (i - 1) (omega arith)
    ∙ not_same (get_or xs (suc (i - 1)) false) (get_or xs (i - 1) false) (ap (λ j. get_or xs j false) e ∙ here ∙ ap not (sym before))

-- and the item at which the next run begins is another
pub other_after : (xs : List Bool) (i : ℕ) (bit : Bool) → 0 < i → i < length xs → get_or xs (i - 1) false ≡ bit → get_or (edges_of xs) i false ≡ true → get_or xs i false ≡ not bit
other_after xs i bit some inside before begins =
    let e : suc (i - 1) ≡ i = omega arith in
    ap (λ j. get_or xs j false) (sym e)
    ∙ other_items (get_or xs (suc (i - 1)) false) (get_or xs (i - 1) false) (sym (item_of_edges xs (i - 1) (omega arith)) ∙ ap (λ j. get_or (edges_of xs) j false) e ∙ begins)
    ∙ ap not before

pub not_not : (b : Bool) → not (not b) ≡ b
not_not true = refl
not_not false = refl

unequal : (b : Bool) → b ≡ not b → ⊥
unequal true e = true≢false e
unequal false e = true≢false (sym e)

passes : (bit b : Bool) → b ≡ bit → is_bit bit b ≡ true
passes true b e = e
passes false b e = ap not e

fails : (bit b : Bool) → b ≡ not bit → is_bit bit b ≡ false
fails true b e = e
fails false b e = ap not e

module _ (xs : List Bool) (start end : ℕ) (bit : Bool) (run : IsRunUpto bit xs start end) (inside : end ≤ length xs) where
  -- the last item of a run
  pub last_of_run : get_or xs (end - 1) false ≡ bit
  last_of_run = let o = run.ordered in equal_upto xs start bit run.here end inside run.same (end - 1) (omega arith) (omega arith)

  -- a run that ends where another begins, or with the list
  module _ (ends : end < length xs → get_or xs end false ≡ not bit) where
    how_long : prefix_len (is_bit bit) (drop start xs) ≡ end - start
    how_long =
        let o = run.ordered in
        let size : length (drop start xs) ≡ length xs - start = length-drop start xs in
        prefix_len_is (is_bit bit) (drop start xs) (end - start) false (omega arith)
        (λ k b. passes bit (get_or (drop start xs) k false) (get_or-drop start xs k false ∙ equal_upto xs start bit run.here end inside run.same (start + k) (omega arith) (omega arith)))
        (λ l. fails bit (get_or (drop start xs) (end - start) false) (let e : start + (end - start) ≡ end = omega arith in get_or-drop start xs (end - start) false ∙ ap (λ j. get_or xs j false) e ∙ ends (omega arith)))

    -- a run that begins and ends at these indices is the list's run there
    pub run_is : run_at xs start ≡ record { start = start; end = end; bit = bit }
    run_is =
        let o = run.ordered in
        let e : start + (end - start) ≡ end = omega arith in
        ap (λ b. record { start = start; end = start + prefix_len (is_bit b) (drop start xs); bit = b }) run.here
        ∙ ap (λ n. record { start = start; end = start + n; bit = bit }) how_long
        ∙ ap (λ n. record { start = start; end = n; bit = bit }) e

    -- the runs from its start on are it and those from its end on
    pub runs_first : map (run_at xs) (places_between (λ b. b) (edges_of xs) start (length xs)) ≡ (record { start = start; end = end; bit = bit }) ∷ map (run_at xs) (places_between (λ b. b) (edges_of xs) end (length xs))
    runs_first =
        let o = run.ordered in
        ap (map (run_at xs)) (places_from (λ b. b) (edges_of xs) start (length xs) (omega arith) run.begins
        ∙ ap (λ l. start ∷ l) (sym (places_later (λ b. b) true refl refl (edges_of xs) (start + 1) end (length xs) (omega arith) inside run.same)))
        ∙ ap (λ r. r ∷ map (run_at xs) (places_between (λ b. b) (edges_of xs) end (length xs))) run_is

  -- the next run, up to where no item is known to begin another
  pub next_run : (upto : ℕ) → end < length xs → get_or (edges_of xs) end false ≡ true → end < upto → IsAbsent true (edges_of xs) (end + 1) upto → IsRunUpto (not bit) xs end upto
  next_run upto more begins ordered none = record {
    begins = begins;
    here = let o = run.ordered in other_after xs end bit (omega arith) more last_of_run begins;
    ordered = ordered;
    same = none;
  }

-- ---- words

-- the bits of a number that differ from the one below are those of the items that differ from the one before
pub edges_of_chunk : (xs : List Bool) (at n chunk result : ℕ) (before : Bool) → at + n ≤ length xs → n ≤ 64 → 0 < at → get_or xs (at - 1) false ≡ before → chunk ≡ number_of (slice_range xs at (at + n)) → has_bit result 0 ≡ (if has_bit chunk 0 then not before else before) → ((p : ℕ) → p + 1 < 64 → has_bit result (p + 1) ≡ (if has_bit chunk (p + 1) then not (has_bit chunk p) else has_bit chunk p)) → (i : ℕ) → i < n → has_bit result i ≡ get_or (slice_range (edges_of xs) at (at + n)) i false
edges_of_chunk xs at n chunk result before inside few later is read first next zero h =
    let e : suc (at - 1) ≡ at + zero = omega arith in
    let z : at + zero ≡ at = omega arith in
    let long = length-edges xs in
    first
    ∙ ap (λ b. differ b before) (item_of_chunk xs at n 0 chunk h read ∙ ap (λ j. get_or xs j false) (sym e))
    ∙ ap (differ (get_or xs (suc (at - 1)) false)) (sym is)
    ∙ sym (item_of_edges xs (at - 1) (omega arith))
    ∙ ap (λ j. get_or (edges_of xs) j false) e
    ∙ sym (get_or-run (edges_of xs) at n zero h)
edges_of_chunk xs at n chunk result before inside few later is read first next (suc p) h =
    let e : suc (at + p) ≡ at + suc p = omega arith in
    let q : p + 1 ≡ suc p = omega arith in
    ap (has_bit result) (sym q) ∙ next p (omega arith)
    ∙ ap (λ b. differ b (has_bit chunk p)) (ap (has_bit chunk) q ∙ item_of_chunk xs at n (suc p) chunk h read ∙ ap (λ j. get_or xs j false) (sym e))
    ∙ ap (differ (get_or xs (suc (at + p)) false)) (item_of_chunk xs at n p chunk (omega arith) read)
    ∙ sym (item_of_edges xs (at + p) (omega arith))
    ∙ ap (λ j. get_or (edges_of xs) j false) e
    ∙ sym (get_or-run (edges_of xs) at n (suc p) h)

-- ---- where a run is read on

module _ (xs : List Bool) (start lo hi chunk : ℕ) (bit : Bool) (run : IsRunUpto bit xs start (first_in lo hi chunk)) (left : IsChunkLeft (edges_of xs) lo hi chunk) where
  -- no bit is left of those that were read
  pub upto_end : chunk ≡ 0 → IsRunUpto bit xs start hi
  upto_end none = subst (IsRunUpto bit xs start) (next_at_end (edges_of xs) lo hi chunk left none) run

  -- bits are read from a later index on, where none before it begins a run
  pub read_more : (from upto more : ℕ) → chunk ≡ 0 → hi ≤ from → IsAbsent true (edges_of xs) hi from → IsChunk (edges_of xs) from upto more → more < 2 ^ 64 → IsRunUpto bit xs start (first_in from upto more)
  read_more from upto more none later absent is fits =
      let all = upto_end none in
      let o = all.ordered in
      let few = is.ordered in
      record {
        begins = all.begins;
        here = all.here;
        ordered = omega arith;
        same = absent_joined true (edges_of xs) (start + 1) hi (first_in from upto more) all.same
            (absent_joined true (edges_of xs) hi from (first_in from upto more) absent (none_before (edges_of xs) from upto more is fits));
      }

  -- the lowest bit that is left is where the next run begins
  module _ (some : chunk ≢ 0) (fits : chunk < 2 ^ 64) (inside : hi ≤ length xs) where
    abbrev next : ℕ
    next = lo + trailing_zeros w64 chunk

    -- the next edge lies inside the block
    pub next_inside : next < hi
    next_inside = first_inside (edges_of xs) lo hi chunk left some fits

    -- the run reaches the next edge
    pub run_to : IsRunUpto bit xs start next
    run_to = let l = next_inside in let here : first_in lo hi chunk ≡ next = omega arith in subst (IsRunUpto bit xs start) here run

    -- the next edge is one
    pub begins_there : get_or (edges_of xs) next false ≡ true
    begins_there = first_set (edges_of xs) lo hi chunk left some fits

    -- at the next edge the item is the other bit
    pub other_there : get_or xs next false ≡ not bit
    other_there =
        let l = next_inside in
        let o = run_to.ordered in
        other_after xs next bit (omega arith) (omega arith) (last_of_run xs start next bit run_to (omega arith)) begins_there

    -- from the next edge on the run has the other bit
    pub run_after : IsRunUpto (not bit) xs next (first_in lo hi (bit_and chunk (chunk - 1)))
    run_after =
        let l = next_inside in
        next_run xs start next bit run_to (omega arith) (first_in lo hi (bit_and chunk (chunk - 1))) (omega arith) begins_there
        (let n = next_after (edges_of xs) lo hi chunk left some fits in omega arith)
        (none_until (edges_of xs) lo hi chunk left some fits)

-- a run is left where a bit is
pub still_left : (len start end chunk : ℕ) → (len ≤ start → (end ≡ len) × (chunk ≡ 0)) → chunk ≢ 0 → start < len
still_left len start end chunk done some = elim (cases_lt start len) [
  | inl l ↦ l
  | inr l ↦ absurd (some (done l).1)
]

-- the runs that are left, where the list has a length
pub runs_upto : (xs : List Bool) (len start end : ℕ) (bit : Bool) → length xs ≡ len → IsRunUpto bit xs start end → end ≤ len → (end < len → get_or xs end false ≡ not bit) → map (run_at xs) (places_between (λ b. b) (edges_of xs) start len) ≡ (record { start = start; end = end; bit = bit }) ∷ map (run_at xs) (places_between (λ b. b) (edges_of xs) end len)
runs_upto xs len start end bit size run inside ends =
    let runs = runs_first xs start end bit run (omega arith) (λ l. ends (omega arith)) in
    subst (λ n. map (run_at xs) (places_between (λ b. b) (edges_of xs) start n) ≡ (record { start = start; end = end; bit = bit }) ∷ map (run_at xs) (places_between (λ b. b) (edges_of xs) end n)) size runs

-- ---- parts that are equal items

-- an item that is another is in no part of equal ones
pub other_inside : (xs : List Bool) (n j k : ℕ) (bit : Bool) → j ≤ k → k < j + n → get_or xs k false ≡ not bit → part n xs j ≢ replicate n bit
other_inside xs n j k bit begins ends here same =
    let e : j + (k - j) ≡ k = omega arith in
    let item : get_or (part n xs j) (k - j) false ≡ not bit = get_or-take n (drop j xs) (k - j) false (omega arith) ∙ get_or-drop j xs (k - j) false ∙ ap (λ i. get_or xs i false) e ∙ here in
    unequal bit (sym (get_or-replicate n (k - j) bit false (omega arith)) ∙ ap (λ l. get_or l (k - j) false) (sym same) ∙ item)

-- no item from an index on is the bit
pub none_inside : (xs : List Bool) (n lo hi j : ℕ) (bit : Bool) → 0 < n → IsAbsent bit xs lo hi → lo ≤ j → j < hi → part n xs j ≢ replicate n bit
none_inside xs n lo hi j bit some none a b = other_inside xs n j j bit (omega arith) (omega arith) (none.each j a b)

-- where no item is another, all are equal
pub all_inside : (xs : List Bool) (n i : ℕ) (bit : Bool) → i + n ≤ length xs → IsAbsent (not bit) xs i (i + n) → part n xs i ≡ replicate n bit
all_inside xs n i bit inside none =
    let size : length (part n xs i) ≡ n = length-take-le n (drop i xs) (omega (arith, length-drop i xs)) in
    ext_get_or false (part n xs i) (replicate n bit) (size ∙ sym (length-replicate n bit))
    (λ k l.
    get_or-take n (drop i xs) k false (omega arith) ∙ get_or-drop i xs k false
    ∙ none.each (i + k) (omega arith) (omega arith) ∙ not_not bit ∙ sym (get_or-replicate n k bit false (omega arith)))

-- each item of a part of equal ones
pub each_inside : (xs : List Bool) (n i j : ℕ) (bit : Bool) → i + n ≤ length xs → part n xs i ≡ replicate n bit → i ≤ j → j < i + n → slice_get xs j ≡ Some bit
each_inside xs n i j bit inside same a b =
    let e : i + (j - i) ≡ j = omega arith in
    item_is xs j bit (omega arith)
    (ap (λ k. get_or xs k false) (sym e) ∙ sym (get_or-take n (drop i xs) (j - i) false (omega arith) ∙ get_or-drop i xs (j - i) false)
    ∙ ap (λ l. get_or l (j - i) false) same ∙ get_or-replicate n (j - i) bit false (omega arith))

-- each index of a found run has its bit
pub each_of_run : (xs : List Bool) (n len : ℕ) (bit : Bool) → length xs ≡ len → (r : Option ℕ) → IfSome r (λ i. i + n ≤ len) → IfSome r (λ i. part n xs i ≡ replicate n bit) → IfSome r (λ i. (j : ℕ) → i ≤ j → j < i + n → slice_get xs j ≡ Some bit)
each_of_run xs n len bit size None inside same = tt
each_of_run xs n len bit size (Some i) inside same = λ j a b. each_inside xs n i j bit (omega arith) same a b

-- ---- searches for the next item that differs

module _ (xs : List Bool) (at upto : ℕ) (bit : Bool) (later : 0 < at) (inside : upto ≤ length xs) (before : get_or xs (at - 1) false ≡ bit) where
  -- where no item differs from the one before, the item before the last index is as that before the first
  pub bit_before : at ≤ upto → IsAbsent true (edges_of xs) at upto → get_or xs (upto - 1) false ≡ bit
  bit_before longer none =
      let e : at ≡ at - 1 + 1 = omega arith in
      elim (cases_lt at upto) [
        | inl l ↦ equal_upto xs (at - 1) bit before upto inside (subst (λ n. IsAbsent true (edges_of xs) n upto) e none) (upto - 1) (omega arith) (omega arith)
        | inr l ↦ let z : at - 1 ≡ upto - 1 = omega arith in ap (λ n. get_or xs n false) (sym z) ∙ before
      ]

  -- where no item is another, none differs from the one before
  pub none_absent : IsAbsent (not bit) xs at upto → IsAbsent true (edges_of xs) at upto
  none_absent none =
      let e : at - 1 + 1 ≡ at = omega arith in
      subst (λ n. IsAbsent true (edges_of xs) n upto) e (none_begins xs (at - 1) upto bit inside (λ j a b. elim (cases_lt j at) [
        | inl l ↦ let z : at - 1 ≡ j = omega arith in ap (λ n. get_or xs n false) (sym z) ∙ before
        | inr l ↦ none.each j l b ∙ not_not bit
      ]))

-- ---- the ranges with a bit

-- a run with the other bit is passed, and one with this bit is given
pub range_passed : (bit : Bool) (run : BitRun) (rest all : List BitRun) → all ≡ run ∷ rest → (run.bit ≡ bit → ⊥) → ranges_with bit all ≡ ranges_with bit rest
range_passed bit run rest all is other = ap (ranges_with bit) is ∙ ap (λ b. map range_of (cond b (run ∷ filter (λ r. is_bit bit r.bit) rest) (filter (λ r. is_bit bit r.bit) rest))) (is_not_bit bit run.bit other)
  where
    is_not_bit : (bit b : Bool) → (b ≡ bit → ⊥) → is_bit bit b ≡ false
    is_not_bit true true h = absurd (h refl)
    is_not_bit true false h = refl
    is_not_bit false true h = refl
    is_not_bit false false h = absurd (h refl)

-- a run with the bit is the next range
pub range_given : (bit : Bool) (run : BitRun) (rest all : List BitRun) → all ≡ run ∷ rest → run.bit ≡ bit → ranges_with bit all ≡ range_of run ∷ ranges_with bit rest
range_given bit run rest all is same = ap (ranges_with bit) is ∙ ap (λ b. map range_of (cond b (run ∷ filter (λ r. is_bit bit r.bit) rest) (filter (λ r. is_bit bit r.bit) rest))) (this_bit bit run.bit same)
  where
    this_bit : (bit b : Bool) → b ≡ bit → is_bit bit b ≡ true
    this_bit true b h = h
    this_bit false b h = ap not h
