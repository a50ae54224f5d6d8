-- Texts of ranges: what was written is read back.
use Rattle.std.proofs.Common.{◌≡◌, ℕ, zero, suc, ◌+◌, ◌-◌, ◌^◌, ◌<◌, ◌≤◌, ◌==◌, Bool, true, false, not, if◌then◌else◌, List, [], ◌∷◌, ◌++◌, map, length, take, drop, get_or, replicate, refl, sym, ◌∙◌, ap, subst, inl, inr, arith, append-nil, length-append, Option, Some, None, Ok, Err}
use Rattle.std.specs.Borrow.{Bor}
use Rattle.std.specs.Fmt.{decimal}
use Rattle.std.specs.Prelude.{MatchOption, is_some}
use Rattle.std.specs.List.{All, flat_map, prefix_len}
use Rattle.std.specs.Str.{all_ascii_digits}
use Rattle.std.specs.declared.ops.Range.{Range}
use Rattle.std.proofs.lemmas.Bool.{cases_lt, le-leb, lt-ltb, true≢false}
use Rattle.std.proofs.lemmas.Bool.Decides.{eqb_tells}
use Rattle.std.proofs.lemmas.Fmt.{decimal_nonempty, digits_decimal, digits_value-decimal, length-decimal-le}
use Rattle.std.proofs.lemmas.List.{ext_get_or, get_or-append_right, get_or-drop, get_or-replicate, get_or-take, get_or_append_left, length-drop, length-replicate, length-take-le}
use Rattle.std.proofs.lemmas.List.Concat.{flat_map-cons}
use Rattle.std.proofs.lemmas.List.Elements.{All-append}
use Rattle.std.proofs.lemmas.List.Splits.{slice_split_at, slice_split_none}
use Rattle.std.proofs.lemmas.List.Sums.{prefix_len-le-length, prefix_len_passes, prefix_len_stops}
use Rattle.std.proofs.lemmas.Str.Parse.{tells_all_ascii_digits}
use Rattle.bit_addressing.specs.Row.{put}
use Rattle.bit_addressing.proofs.lists.Put.{length-put, put_after, put_before, put_inside}
use Rattle.bit_slice.specs.BitRuns.{range_text, ranges_of, ranges_text, ranges_with, run_at, with_commas}
use Rattle.bit_slice.specs.Edges.{edges_of, IsRunUpto}
use Rattle.bit_slice.specs.Numbered.{is_bit}
use Rattle.bit_slice.specs.Places.{places_between}
use Rattle.bit_slice.proofs.BitRuns.{begins_after, first_edge, length-edges, none_begins, range_given, range_passed, runs_upto}
use Rattle.bit_slice.proofs.Numbered.{is_here}
use Rattle.bit_slice.proofs.Places.{places_empty, places_whole}
use Rattle.bit_containers.specs.TextParts.{number_of, parts_of}
use Rattle.bit_containers.specs.RangesRead.{range_said, range_of_numbers, range_to, ranges_read, ranges_set, with_range}
use Rattle.bit_containers.proofs.TextParts.{own, some_parts}

-- ---- numbers

-- the number of its decimal digits
number_of_decimal : (n : ℕ) → n < 2 ^ 64 → number_of (decimal n) ≡ Some n
number_of_decimal n small =
    let long : length (decimal n) ≤ 20 = length-decimal-le 20 n (omega arith) (omega arith) small in
    rw (digits_decimal own n small, lt-ltb 0 (length (decimal n)) (decimal_nonempty n small), le-leb (length (decimal n)) 20 long, digits_value-decimal own n small, lt-ltb n (2 ^ 64) small) refl

-- a digit is no separator
digit_apart : (s c : ℕ) → s < 48 → 48 ≤ c → (c == s) ≡ false
digit_apart s c low high = elim (eqb_tells c s) [
  | inl h ↦ absurd (omega (arith, h.1))
  | inr h ↦ h.0
]

no_separator : (s : ℕ) → s < 48 → (text : List ℕ) → all_ascii_digits text ≡ true → All (λ c. (c == s) ≡ false) text
no_separator s low [] e k d h = absurd (omega arith)
no_separator s low (c ∷ text) e zero d h = digit_apart s c low (tells_all_ascii_digits.parts c text e).0.0
no_separator s low (c ∷ text) e (suc k) d h = no_separator s low text (tells_all_ascii_digits.parts c text e).1 k d (omega arith)

apart : (s n : ℕ) → s < 48 → n < 2 ^ 64 → All (λ c. (c == s) ≡ false) (decimal n)
apart s n low small = no_separator s low (decimal n) (digits_decimal own n small)

-- ---- one range

range_is : (len first last : ℕ) → first ≤ last → last < len → range_to len (Some first) (Some last) ≡ Some (record { start = first; end = last + 1 })
range_is len first last ordered inside = rw (le-leb first last ordered, lt-ltb last len inside) refl

range_read_by : (len : ℕ) (r : Range ℕ) (b : Bool) → (r.start == r.end - 1) ≡ b → r.start < r.end → r.end ≤ len → len < 2 ^ 64 → range_said len (decimal r.start ++ (if b then [] else 45 ∷ decimal (r.end - 1))) ≡ Some r
range_read_by len r true alone ordered inside small =
    let one : parts_of 45 (decimal r.start ++ []) ≡ decimal r.start ∷ [] = ap (parts_of 45) (append-nil (decimal r.start)) ∙ slice_split_none (λ c. c == 45) (decimal r.start) (apart 45 r.start (omega arith) (omega arith)) in
    let end : r.start + 1 ≡ r.end = elim (eqb_tells r.start (r.end - 1)) [
      | inl h ↦ omega (arith, h.1)
      | inr h ↦ (let k : true ≡ false = sym alone ∙ h.0 in cc)
    ] in
    ap (range_of_numbers len) one
    ∙ ap (λ n. range_to len n n) (number_of_decimal r.start (omega arith))
    ∙ range_is len r.start r.start (omega arith) (omega arith)
    ∙ ap (λ e. Some (record { start = r.start; end = e })) end
range_read_by len r false apart_ends ordered inside small =
    let two : parts_of 45 (decimal r.start ++ (45 ∷ decimal (r.end - 1))) ≡ decimal r.start ∷ decimal (r.end - 1) ∷ [] =
    slice_split_at (λ c. c == 45) (decimal r.start) 45 (decimal (r.end - 1)) (apart 45 r.start (omega arith) (omega arith)) refl
    ∙ ap (λ l. decimal r.start ∷ l) (slice_split_none (λ c. c == 45) (decimal (r.end - 1)) (apart 45 (r.end - 1) (omega arith) (omega arith))) in
    let end : r.end - 1 + 1 ≡ r.end = omega arith in
    ap (range_of_numbers len) two
    ∙ ap (λ n. range_to len n (number_of (decimal (r.end - 1)))) (number_of_decimal r.start (omega arith))
    ∙ ap (range_to len (Some r.start)) (number_of_decimal (r.end - 1) (omega arith))
    ∙ range_is len r.start (r.end - 1) (omega arith) (omega arith)
    ∙ ap (λ e. Some (record { start = r.start; end = e })) end

-- a range that was written is read
pub range_read : (len : ℕ) (r : Range ℕ) → r.start < r.end → r.end ≤ len → len < 2 ^ 64 → range_said len (range_text r) ≡ Some r
range_read len r ordered inside small = range_read_by len r (r.start == r.end - 1) refl ordered inside small

-- ---- the parts of a text

no_comma_by : (r : Range ℕ) (b : Bool) → r.end < 2 ^ 64 → r.start < 2 ^ 64 → All (λ c. (c == 44) ≡ false) (decimal r.start ++ (if b then [] else 45 ∷ decimal (r.end - 1)))
no_comma_by r true e s = subst (All (λ c. (c == 44) ≡ false)) (sym (append-nil (decimal r.start))) (apart 44 r.start (omega arith) s)
no_comma_by r false e s = All-append (λ c. (c == 44) ≡ false) (decimal r.start) (45 ∷ decimal (r.end - 1)) (apart 44 r.start (omega arith) s) dashed
  where
    dashed : All (λ c. (c == 44) ≡ false) (45 ∷ decimal (r.end - 1))
    dashed zero d h = refl
    dashed (suc k) d h = apart 44 (r.end - 1) (omega arith) (omega arith) k d (omega arith)

-- a range is written without a comma
no_comma : (r : Range ℕ) → r.end < 2 ^ 64 → r.start < 2 ^ 64 → All (λ c. (c == 44) ≡ false) (range_text r)
no_comma r e s = no_comma_by r (r.start == r.end - 1) e s

abbrev Fits : ℕ → Range ℕ → Type 0
Fits len r = (r.start < r.end) × (r.end ≤ len)

all_later : (P : Range ℕ → Type 0) (r : Range ℕ) (rs : List (Range ℕ)) → All P (r ∷ rs) → All P rs
all_later P r rs all k d h = all (suc k) d (omega arith)

-- the parts of written ranges are the ranges written
pub parts_written : (len : ℕ) (r : Range ℕ) (rs : List (Range ℕ)) → len < 2 ^ 64 → All (Fits len) (r ∷ rs) → parts_of 44 (with_commas (r ∷ rs)) ≡ map range_text (r ∷ rs)
parts_written len r [] small all =
    let f = all 0 r (omega arith) in
    ap (parts_of 44) (append-nil (range_text r)) ∙ slice_split_none (λ c. c == 44) (range_text r) (no_comma r (omega (arith, f.1)) (omega (arith, f.0, f.1)))
parts_written len r (next ∷ rs) small all =
    let f = all 0 r (omega arith) in
    ap (λ l. parts_of 44 (range_text r ++ l)) (flat_map-cons (λ (n : Range ℕ). 44 ∷ range_text n) next rs)
    ∙ slice_split_at (λ c. c == 44) (range_text r) 44 (with_commas (next ∷ rs)) (no_comma r (omega (arith, f.1)) (omega (arith, f.0, f.1))) refl
    ∙ ap (λ l. range_text r ∷ l) (parts_written len next rs small (all_later (Fits len) r (next ∷ rs) all))

-- ---- from run to run

module _ (bits : List Bool) where
  -- the list as far as it was read
  abbrev upto : ℕ → List Bool
  upto s = take s bits ++ replicate (length bits - s) false

  length-upto : (s : ℕ) → s ≤ length bits → length (upto s) ≡ length bits
  length-upto s h = length-append (take s bits) (replicate (length bits - s) false) ∙ omega (arith, length-take-le s bits h, length-replicate (length bits - s) false)

  before_upto : (s i : ℕ) → s ≤ length bits → i < s → get_or (upto s) i false ≡ get_or bits i false
  before_upto s i h l =
      get_or_append_left (take s bits) (replicate (length bits - s) false) false i (omega (arith, length-take-le s bits h))
      ∙ get_or-take s bits i false l

  after_upto : (s i : ℕ) → s ≤ i → i < length bits → get_or (upto s) i false ≡ false
  after_upto s i l h =
      get_or-append_right (take s bits) (replicate (length bits - s) false) s i false (length-take-le s bits (omega arith)) l
      ∙ get_or-replicate (length bits - s) (i - s) false false (omega arith)

  all_upto : (s : ℕ) → s ≡ length bits → upto s ≡ bits
  all_upto s e =
      ext_get_or false (upto s) bits (length-upto s (omega arith)) (λ i h. before_upto s i (omega arith) (omega (arith, length-upto s (omega arith))))

  module _ (s e : ℕ) (ordered : s < e) (inside : e ≤ length bits) where
    -- a run of false bits is passed
    passed : ((j : ℕ) → s ≤ j → j < e → get_or bits j false ≡ false) → upto s ≡ upto e
    passed same =
        let long = length-upto s (omega arith) in
        ext_get_or false (upto s) (upto e) (long ∙ sym (length-upto e inside))
        (λ i h. elim (cases_lt i s) [
          | inl l ↦ before_upto s i (omega arith) l ∙ sym (before_upto e i inside (omega arith))
          | inr l ↦ after_upto s i l (omega arith) ∙ elim (cases_lt i e) [
            | inl k ↦ sym (same i l k) ∙ sym (before_upto e i inside k)
            | inr k ↦ sym (after_upto e i k (omega arith))
          ]
        ])

    -- a run of true bits is set
    set_run : ((j : ℕ) → s ≤ j → j < e → get_or bits j false ≡ true) → put (upto s) s (replicate (e - s) true) ≡ upto e
    set_run same =
        let long = length-upto s (omega arith) in
        let some = length-replicate (e - s) true in
        let size = length-put (upto s) (replicate (e - s) true) s (omega arith) in
        ext_get_or false (put (upto s) s (replicate (e - s) true)) (upto e) (size ∙ long ∙ sym (length-upto e inside))
        (λ i h. elim (cases_lt i s) [
          | inl l ↦ put_before (upto s) (replicate (e - s) true) s i false (omega arith) l ∙ before_upto s i (omega arith) l ∙ sym (before_upto e i inside (omega arith))
          | inr l ↦ elim (cases_lt i e) [
            | inl k ↦ put_inside (upto s) (replicate (e - s) true) s i false (omega arith) l (omega arith) ∙ get_or-replicate (e - s) (i - s) true false (omega arith) ∙ sym (same i l k) ∙ sym (before_upto e i inside k)
            | inr k ↦ put_after (upto s) (replicate (e - s) true) s i false (omega arith) (omega arith) ∙ after_upto s i l (omega arith) ∙ sym (after_upto e i k (omega arith))
          ]
        ])

  -- the ranges of the runs from an index on
  abbrev ranges_from : ℕ → List (Range ℕ)
  ranges_from s = ranges_with true (map (run_at bits) (places_between (λ b. b) (edges_of bits) s (length bits)))

  -- these ranges lie in the list, and their texts are read as the list
  abbrev Reads : ℕ → List (Range ℕ) → Type 0
  Reads s ranges = All (Fits (length bits)) ranges × ((at : ℕ) → ranges_set (length bits) (upto s) at (map range_text ranges) ≡ Ok bits)

  none_fit : All (Fits (length bits)) []
  none_fit k d h = absurd (omega arith)

  one_fits : (r : Range ℕ) (rs : List (Range ℕ)) → Fits (length bits) r → All (Fits (length bits)) rs → All (Fits (length bits)) (r ∷ rs)
  one_fits r rs f all zero d h = f
  one_fits r rs f all (suc k) d h = all k d (omega arith)

  module _ (small : length bits < 2 ^ 64) where
    run_read : (s e : ℕ) (b : Bool) → s < e → e ≤ length bits → IsRunUpto b bits s e → (e < length bits → get_or bits e false ≡ not b) → ((j : ℕ) → s ≤ j → j < e → get_or bits j false ≡ b) → Reads e (ranges_from e) → Reads s (ranges_from s)
    run_read s e true ordered inside run ends same later =
        let r : Range ℕ = record { start = s; end = e } in
        let given = range_given true (record { start = s; end = e; bit = true }) (map (run_at bits) (places_between (λ b. b) (edges_of bits) e (length bits))) (map (run_at bits) (places_between (λ b. b) (edges_of bits) s (length bits))) (runs_upto bits (length bits) s e true refl run inside ends) refl in (
          subst (All (Fits (length bits))) (sym given) (one_fits r (ranges_from e) (ordered, inside) later.0),
          λ at.
              ap (λ l. ranges_set (length bits) (upto s) at (map range_text l)) given
              ∙ ap (λ o. with_range o at (λ range. ranges_set (length bits) (put (upto s) range.start (replicate (range.end - range.start) true)) (at + length (range_text r) + 1) (map range_text (ranges_from e)))) (range_read (length bits) r ordered inside small)
              ∙ ap (λ xs. ranges_set (length bits) xs (at + length (range_text r) + 1) (map range_text (ranges_from e))) (set_run s e ordered inside same)
              ∙ later.1 (at + length (range_text r) + 1),
        )
    run_read s e false ordered inside run ends same later =
        let gone = range_passed true (record { start = s; end = e; bit = false }) (map (run_at bits) (places_between (λ b. b) (edges_of bits) e (length bits))) (map (run_at bits) (places_between (λ b. b) (edges_of bits) s (length bits))) (runs_upto bits (length bits) s e false refl run inside ends) (λ h. let k : false ≡ true = h in cc) in (
          subst (All (Fits (length bits))) (sym gone) later.0,
          λ at.
              ap (λ l. ranges_set (length bits) (upto s) at (map range_text l)) gone
              ∙ ap (λ xs. ranges_set (length bits) xs at (map range_text (ranges_from e))) (passed s e ordered inside same)
              ∙ later.1 at,
        )

    itself : (b : Bool) → is_bit b b ≡ true
    itself true = refl
    itself false = refl

    another : (bit b : Bool) → is_bit bit b ≡ false → b ≡ not bit
    another true b h = h
    another false true h = refl
    another false false h = let k : true ≡ false = h in cc

    -- the bit of the run from an index on, and how long it is
    abbrev run_bit : ℕ → Bool
    run_bit s = get_or bits s false

    abbrev run_length : ℕ → ℕ
    run_length s = prefix_len (is_bit (run_bit s)) (drop s bits)

    module _ (s : ℕ) (l : s < length bits) where
      run_fits : s + run_length s ≤ length bits
      run_fits = omega (arith, prefix_len-le-length (is_bit (run_bit s)) (drop s bits), length-drop s bits)

      run_same : (j : ℕ) → s ≤ j → j < s + run_length s → get_or bits j false ≡ run_bit s
      run_same j a b =
          let e : s + (j - s) ≡ j = omega arith in
          ap (λ i. get_or bits i false) (sym e) ∙ sym (get_or-drop s bits (j - s) false)
          ∙ is_here (run_bit s) (get_or (drop s bits) (j - s) false) (prefix_len_passes (is_bit (run_bit s)) (drop s bits) (j - s) false (omega arith))

      stops : run_length s < length (drop s bits) → is_bit (run_bit s) (get_or (drop s bits) (run_length s) false) ≡ false
      stops h = prefix_len_stops (is_bit (run_bit s)) (drop s bits) false h

      run_ends : s + run_length s < length bits → get_or bits (s + run_length s) false ≡ not (run_bit s)
      run_ends h =
          sym (get_or-drop s bits (run_length s) false)
          ∙ another (run_bit s) (get_or (drop s bits) (run_length s) false) (stops (omega (arith, length-drop s bits)))

      run_some : 0 < run_length s
      run_some = elim (cases_lt 0 (run_length s)) [
        | inl h ↦ h
        | inr h ↦ (let e : s + run_length s ≡ s = omega arith in
            let first : get_or (drop s bits) (run_length s) false ≡ run_bit s = get_or-drop s bits (run_length s) false ∙ ap (λ i. get_or bits i false) e in
            let k : true ≡ false = sym (itself (run_bit s)) ∙ ap (is_bit (run_bit s)) (sym first) ∙ stops (omega (arith, length-drop s bits)) in
            cc)
      ]

    at_end : (s : ℕ) → s ≡ length bits → Reads s (ranges_from s)
    at_end s e =
        let none = ap (λ ps. ranges_with true (map (run_at bits) ps)) (places_empty (λ b. b) (edges_of bits) s (length bits) (omega arith)) in (
          subst (All (Fits (length bits))) (sym none) none_fit,
          λ at. ap (λ rs. ranges_set (length bits) (upto s) at (map range_text rs)) none ∙ ap Ok (all_upto s e),
        )

    -- the ranges from a run's start on
    ranges_read_from : (m s : ℕ) → length bits ≤ s + m → s ≤ length bits → (s < length bits → get_or (edges_of bits) s false ≡ true) → Reads s (ranges_from s)
    ranges_read_from zero s far inside edge = at_end s (omega arith)
    ranges_read_from (suc m) s far inside edge = elim (cases_lt s (length bits)) [
      | inl l ↦ (let some = run_some s l in
          let fits = run_fits s l in
          let e : ℕ = s + run_length s in
          run_read s e (run_bit s) (omega arith) fits
          (record { begins = edge l; here = refl; ordered = omega arith; same = none_begins bits s e (run_bit s) fits (run_same s l) })
          (run_ends s l) (run_same s l)
          (ranges_read_from m e (omega arith) fits (λ h. begins_after bits e (run_bit s) (omega arith) h (run_same s l (e - 1) (omega arith) (omega arith)) (run_ends s l h))))
      | inr l ↦ at_end s (omega arith)
    ]

    whole_read : (ranges : List (Range ℕ)) → Reads 0 ranges → ranges_read (length bits) (with_commas ranges) ≡ Ok bits
    whole_read [] reads = ap (λ n. Ok (replicate n false)) (let e : length bits ≡ length bits - 0 = omega arith in e) ∙ reads.1 0
    whole_read (r ∷ rs) reads =
        let f = reads.0 0 r (omega arith) in
        let e : length bits ≡ length bits - 0 = omega arith in
        not_empty (with_commas (r ∷ rs)) (omega (arith, decimal_nonempty r.start (omega (arith, f.0, f.1)), length-append (range_text r) (flat_map (λ next. 44 ∷ range_text next) rs), length-append (decimal r.start) (if r.start == r.end - 1 then [] else 45 ∷ decimal (r.end - 1))))
        ∙ ap (λ n. ranges_set (length bits) (replicate n false) 0 (parts_of 44 (with_commas (r ∷ rs)))) e
        ∙ ap (ranges_set (length bits) (upto 0) 0) (parts_written (length bits) r rs small reads.0)
        ∙ reads.1 0
      where
        not_empty : (text : List ℕ) → 0 < length text → ranges_read (length bits) text ≡ ranges_set (length bits) (replicate (length bits) false) 0 (parts_of 44 text)
        not_empty [] h = absurd (omega arith)
        not_empty (c ∷ text) h = refl

    -- what was written of a list is read as the list
    pub ranges_read_back : ranges_read (length bits) (ranges_text true bits) ≡ Ok bits
    ranges_read_back =
        let same : ranges_from 0 ≡ ranges_of true bits = ap (λ ps. ranges_with true (map (run_at bits) ps)) (places_whole (λ b. b) (edges_of bits) (length bits) (length-edges bits)) in
        ap (λ rs. ranges_read (length bits) (with_commas rs)) (sym same)
        ∙ whole_read (ranges_from 0) (ranges_read_from (length bits) 0 (omega arith) (omega arith) (λ h. first_edge bits h))

-- the same of a text that is equal
written_read : (bits : List Bool) (len : ℕ) (text : List ℕ) → length bits ≡ len → len < 2 ^ 64 → text ≡ ranges_text true bits → ranges_read len text ≡ Ok bits
written_read bits len text size small is = ap (ranges_read len) is ∙ ap (λ n. ranges_read n (ranges_text true bits)) (sym size) ∙ ranges_read_back bits (omega arith)

-- what a text says is one list
pub read_once : (bits list : List Bool) (len : ℕ) (text : List ℕ) → length bits ≡ len → len < 2 ^ 64 → text ≡ ranges_text true bits → ranges_read len text ≡ Ok list → list ≡ bits
read_once bits list len text size small is read =
    let e : ranges_read len text ≡ Ok bits = written_read bits len text size small is in
    cc

-- a text that was written is not wrong
pub never_wrong : (bits : List Bool) (len at : ℕ) (text : List ℕ) → length bits ≡ len → len < 2 ^ 64 → text ≡ ranges_text true bits → ranges_read len text ≡ Err at → ⊥
never_wrong bits len at text size small is read =
    let e : ranges_read len text ≡ Ok bits = written_read bits len text size small is in
    cc

-- three parts and more say no range
three_say_none : (len : ℕ) (first last : List ℕ) (more : List (List ℕ)) → 0 < length more → None ≡ range_of_numbers len (first ∷ last ∷ more)
three_say_none len first last [] h = absurd (omega arith)
three_say_none len first last (other ∷ more) h = refl

-- a part with a second dash says no range
pub second_dash : (len : ℕ) (part first rest last : List ℕ) (after : Option (Bor (List ℕ))) → parts_of 45 part ≡ first ∷ parts_of 45 rest → MatchOption after (parts_of 45 rest ≡ last ∷ []) (λ more. parts_of 45 rest ≡ last ∷ parts_of 45 more.now) → is_some after ≡ true → None ≡ range_said len part
second_dash len part first rest last None one two some = absurd (true≢false (sym some))
second_dash len part first rest last (Some more) one two some =
    three_say_none len first last (parts_of 45 more.now) (some_parts 45 more.now)
    ∙ ap (range_of_numbers len) (ap (λ ps. first ∷ ps) (sym two) ∙ sym one)

stopped_at : (len : ℕ) (xs : List Bool) (at : ℕ) (parts : List (List ℕ)) (part : List ℕ) (more : List (List ℕ)) → parts ≡ part ∷ more → None ≡ range_said len part → ranges_set len xs at parts ≡ Err at
stopped_at len xs at parts part more is none =
    ap (ranges_set len xs at) is
    ∙ ap (λ o. with_range o at (λ range. ranges_set len (put xs range.start (replicate (range.end - range.start) true)) (at + length part + 1) more)) (sym none)

-- a part that says no range ends the reading where it begins
pub stopped : (len : ℕ) (xs : List Bool) (at : ℕ) (left part : List ℕ) (after : Option (Bor (List ℕ))) → MatchOption after (parts_of 44 left ≡ part ∷ []) (λ more. parts_of 44 left ≡ part ∷ parts_of 44 more.now) → None ≡ range_said len part → ranges_set len xs at (parts_of 44 left) ≡ Err at
stopped len xs at left part None parts none = stopped_at len xs at (parts_of 44 left) part [] parts none
stopped len xs at left part (Some more) parts none = stopped_at len xs at (parts_of 44 left) part (parts_of 44 more.now) parts none
