-- Words that are exchanged, those of one side shifted.
use Rattle.std.proofs.Common.{◌≡◌, ℕ, ◌+◌, ◌*◌, ◌<◌, ◌≤◌, Bool, List, [], ◌∷◌, ◌++◌, map, length, take, get_or, set, slice_range, refl, sym, ◌∙◌, ap, arith, rules, mul_comm}
use Rattle.std.proofs.lemmas.List.{same_lists, places, length_push, map-append, take_at, set-append_left, get_or_append_left}
use Rattle.bit_addressing.specs.declared.store.BitStore as store
use Rattle.bit_addressing.specs.declared.order.BitOrder as order
use Rattle.bit_addressing.specs.Bits.{has_bit}
use Rattle.bit_addressing.specs.Row.{put, row_bit, row_of}
use Rattle.bit_addressing.specs.Typed.{row}
use Rattle.bit_addressing.proofs.Rows.{row_append}
use Rattle.bit_addressing.proofs.Runs.{mul_mono, slices_joined}
use Rattle.bit_addressing.proofs.lists.Sized.{one_more_word}
use Rattle.bit_addressing.proofs.Shifts.{pair_row}
use Rattle.bit_addressing.proofs.lists.Shown.{length-run, shown_part}
use Rattle.bit_addressing.proofs.Typed.{length_row, row_replaced, row_whole}
use Rattle.bit_rows.proofs.Combinations.{put_later}
use Rattle.bit_slice.proofs.Halves.{row_halves}
use Rattle.bit_slice.proofs.Parts.{row_size}

-- one part more of a run is written
more_written : (xs zs : List Bool) (from d n : ℕ) → d + n ≤ length xs → from + d + n ≤ length zs
    → put (put xs 0 (slice_range zs from (from + d))) d (slice_range zs (from + d) (from + d + n)) ≡ put xs 0 (slice_range zs from (from + (d + n)))
unfolding put
more_written xs zs from d n inside there = same_lists _ _ (search (rules, places)) (λ i e below. grind (arith, places))

nothing_written : (xs zs : List Bool) (from n : ℕ) → n ≡ 0 → xs ≡ put xs 0 (slice_range zs from (from + n))
unfolding put
nothing_written xs zs from n none = same_lists _ _ (search (rules, places, none)) (λ i e below. grind (arith, places))

-- all is written over
all_written : (xs zs : List Bool) (from n : ℕ) → n ≡ length xs → from + n ≤ length zs → put xs 0 (slice_range zs from (from + n)) ≡ slice_range zs from (from + n)
unfolding put
all_written xs zs from n all there = same_lists _ _ (search (rules, places)) (λ i e below. grind (arith, places))

front_written : (xs zs : List Bool) (n : ℕ) → n ≡ length zs → n ≤ length xs → take n (put xs 0 (slice_range zs 0 (0 + n))) ≡ zs
unfolding put
front_written xs zs n all there = same_lists _ _ (search (rules, places)) (λ i e below. grind (arith, places))

module _ {X : Type 0} (value : X → ℕ) (place : ℕ → ℕ → ℕ) (w : ℕ) where
  abbrev bits : List X → List Bool
  bits ws = row_of place w (map value ws)

  -- of the words xs and ys, the first n are exchanged: xs has those of ys from index `at` on, where `next` follows ys
  pub record IsExchangedWith (xs ys : List X) (next : X) (at : ℕ) (xs' ys' : List X) (n : ℕ) : Type 0 where
    pub shifted : bits xs' ≡ put (bits xs) 0 (slice_range (bits (ys ++ next ∷ [])) at (at + n * w))
    pub plain : bits (ys' ++ next ∷ []) ≡ put (bits (ys ++ next ∷ [])) 0 (slice_range (bits xs) 0 (0 + n * w))
    pub shifted_size : length xs' ≡ length xs
    pub plain_size : length ys' ≡ length ys

  module _ (xs ys : List X) (next : X) (at : ℕ) (positive : 0 < w) (within : at < w) (same : length xs ≡ length ys) where
    size_x : length (bits xs) ≡ w * length ys
    size_x = length_row value place w xs ∙ ap (λ n. w * n) same

    size_y : length (bits (ys ++ next ∷ [])) ≡ w * length ys + w
    size_y = omega (arith, length_row value place w (ys ++ next ∷ []), ap (λ n. w * n) (length_push ys next), one_more_word (length ys) w)

    -- one word more is exchanged
    pub exchanged_more : (cx cy : List X) (old low high made : X) (i : ℕ) → i < length ys → IsExchangedWith xs ys next at cx cy i
        → old ≡ get_or cx i old → low ≡ get_or cy i low → high ≡ get_or (cy ++ next ∷ []) (i + 1) high
        → ((b : ℕ) → b < w → has_bit (value made) (place w b) ≡ row_bit place w (value low ∷ value high ∷ []) (at + b))
        → IsExchangedWith xs ys next at (set cx i made) (set cy i old) (i + 1)
    exchanged_more cx cy old low high made i below so_far read_old read_low read_high window =
        let more : (i + 1) * w ≡ i * w + w = one_more_word i w in
        let most = mul_mono (i + 1) (length ys) w (omega arith) in
        let there_x : i < length cx = omega (arith, so_far.shifted_size) in
        let there_y : i < length cy = omega (arith, so_far.plain_size) in
        let long : i + 1 < length (cy ++ next ∷ []) = omega (arith, length_push cy next, so_far.plain_size) in
        let made_of : bits (made ∷ []) ≡ slice_range (bits (cy ++ next ∷ [])) (i * w + at) (i * w + at + w) =
        pair_row value place place w w (value made) i at (cy ++ next ∷ []) low high positive refl long within (read_low ∙ sym (get_or_append_left cy (next ∷ []) low i there_y)) read_high window in
        let later : bits (made ∷ []) ≡ slice_range (bits (ys ++ next ∷ [])) (at + i * w) (at + i * w + w) =
        made_of ∙ ap (λ l. slice_range l (i * w + at) (i * w + at + w)) so_far.plain
        ∙ put_later (bits (ys ++ next ∷ [])) (slice_range (bits xs) 0 (0 + i * w)) 0 (i * w + at) (i * w + at + w) (omega arith) (omega (arith, length-run (bits xs) 0 (i * w) (omega (arith, size_x)))) (omega arith) (omega (arith, size_y))
        ∙ ap (λ a. slice_range (bits (ys ++ next ∷ [])) a (a + w)) (omega arith) in
        let kept : bits (old ∷ []) ≡ slice_range (bits xs) (0 + i * w) (0 + i * w + w) =
        row_whole value place w cx i (i * w) (i * w + w) old positive there_x read_old refl refl ∙ ap (λ l. slice_range l (i * w) (i * w + w)) so_far.shifted
        ∙ put_later (bits xs) (slice_range (bits (ys ++ next ∷ [])) at (at + i * w)) 0 (i * w) (i * w + w) (omega arith) (omega (arith, length-run (bits (ys ++ next ∷ [])) at (i * w) (omega (arith, size_y)))) (omega arith) (omega (arith, size_x))
        ∙ ap (λ a. slice_range (bits xs) a (a + w)) (omega arith) in
        record {
          shifted = row_replaced value place w cx i made positive there_x
              ∙ (λ j. put (so_far.shifted j) (i * w) (later j))
              ∙ more_written (bits xs) (bits (ys ++ next ∷ [])) at (i * w) w (omega (arith, size_x)) (omega (arith, size_y))
              ∙ ap (λ n. put (bits xs) 0 (slice_range (bits (ys ++ next ∷ [])) at (at + n))) (sym more);
          plain = ap bits (sym (set-append_left cy (next ∷ []) i old there_y))
              ∙ row_replaced value place w (cy ++ next ∷ []) i old positive (omega (arith, long))
              ∙ (λ j. put (so_far.plain j) (i * w) (kept j))
              ∙ more_written (bits (ys ++ next ∷ [])) (bits xs) 0 (i * w) w (omega (arith, size_y)) (omega (arith, size_x))
              ∙ ap (λ n. put (bits (ys ++ next ∷ [])) 0 (slice_range (bits xs) 0 (0 + n))) (sym more);
          shifted_size = search (rules, so_far.shifted_size);
          plain_size = search (rules, so_far.plain_size);
        }

    -- all words are exchanged
    pub all_shifted : (cx cy : List X) (n : ℕ) → n ≡ length ys → IsExchangedWith xs ys next at cx cy n → bits cx ≡ slice_range (bits (ys ++ next ∷ [])) at (at + w * length ys)
    all_shifted cx cy n all done =
        let turned : n * w ≡ w * length ys = ap (λ k. k * w) all ∙ mul_comm (length ys) w in
        done.shifted ∙ all_written (bits xs) (bits (ys ++ next ∷ [])) at (n * w) (omega (arith, size_x)) (omega (arith, size_y))
        ∙ ap (λ k. slice_range (bits (ys ++ next ∷ [])) at (at + k)) turned

    -- once all words are exchanged the other list holds the first one's bits
    pub all_plain : (cx cy : List X) (n : ℕ) → n ≡ length ys → IsExchangedWith xs ys next at cx cy n → bits cy ≡ bits xs
    all_plain cx cy n all done =
        let turned : n * w ≡ w * length ys = ap (λ k. k * w) all ∙ mul_comm (length ys) w in
        let size : length (bits cy) ≡ n * w = omega (arith, length_row value place w cy, ap (λ k. w * k) done.plain_size) in
        let joined : bits (cy ++ next ∷ []) ≡ bits cy ++ bits (next ∷ []) = ap (row_of place w) (map-append value cy (next ∷ [])) ∙ row_append place w (map value cy) (map value (next ∷ [])) positive in
        sym (take_at (bits cy) (bits (next ∷ [])) (n * w) size) ∙ ap (take (n * w)) (sym joined ∙ done.plain)
        ∙ front_written (bits (ys ++ next ∷ [])) (bits xs) (n * w) (omega (arith, size_x)) (omega (arith, size_y))

    -- before the first word nothing is exchanged
    pub none_exchanged : IsExchangedWith xs ys next at xs ys 0
    none_exchanged = record {
      shifted = nothing_written (bits xs) (bits (ys ++ next ∷ [])) at (0 * w) (omega arith);
      plain = nothing_written (bits (ys ++ next ∷ [])) (bits xs) 0 (0 * w) (omega arith);
      shifted_size = refl;
      plain_size = refl;
    }

-- ---- two neighbours in a row, of one length, that are exchanged

-- the bits of a run from an index on, and of the word after it
pub run_then : (xs : List Bool) (at n w skip : ℕ) → skip ≤ w → at + n + w ≤ length xs
    → slice_range (slice_range xs at (at + n) ++ slice_range xs (at + n) (at + n + w)) skip (skip + n) ≡ slice_range xs (at + skip) (at + skip + n)
run_then xs at n w skip few room =
    ap (λ l. slice_range l skip (skip + n)) (slices_joined xs at (at + n) (at + n + w) (omega arith) (omega arith) room ∙ ap (slice_range xs at) (omega arith))
    ∙ sym (shown_part xs at (n + w) skip n (omega arith) (omega arith))

-- at index 0 the word after it does not count
pub first_alone : (xs one : List Bool) (n skip : ℕ) → n ≡ length xs → skip ≡ 0 → slice_range (xs ++ one) skip (skip + n) ≡ xs
first_alone xs one n skip all none = rw (none, all) (same_lists _ _ (grind (arith, places)) (λ i e below. grind (arith, places)))

-- a run with no bits skipped does not read the word after it
pub run_alone : (xs one : List Bool) (at n skip : ℕ) → skip ≡ 0 → at + n ≤ length xs → slice_range (slice_range xs at (at + n) ++ one) skip (skip + n) ≡ slice_range xs (at + skip) (at + skip + n)
run_alone xs one at n skip none room = rw none (same_lists _ _ (grind (arith, places)) (λ i e below. grind (arith, places)))

-- a row in four parts, the second and the third of one length
pub record AreNeighbours (xs before low high after : List Bool) (at size : ℕ) : Type 0 where
  pub whole : xs ≡ before ++ (low ++ (high ++ after))
  pub begins : length before ≡ at
  pub low_size : length low ≡ size
  pub high_size : length high ≡ size

module _ (xs before low high after : List Bool) (at size : ℕ) (n : AreNeighbours xs before low high after at size) where
  -- two parts written side by side are two parts put one after the other
  pub both_written : (first second : List Bool) → length first ≡ size → length second ≡ size → before ++ (first ++ (second ++ after)) ≡ put (put xs at first) (at + size) second
  unfolding put
  both_written first second fits also_fits =
      let b = n.begins in
      let l = n.low_size in
      let h = n.high_size in
      rw (n.whole) (same_lists _ _ (grind (arith, places)) (λ i e below. grind (arith, places)))

  -- the lower words hold the run from `at` on
  pub low_run : low ≡ slice_range xs at (at + size)
  low_run =
      let b = n.begins in
      let l = n.low_size in
      rw (n.whole) (same_lists _ _ (grind (arith, places)) (λ i e below. grind (arith, places)))

  -- the higher words hold the run after it
  pub high_run : high ≡ slice_range xs (at + size) (at + size + size)
  high_run =
      let b = n.begins in
      let l = n.low_size in
      let h = n.high_size in
      rw (n.whole) (same_lists _ _ (grind (arith, places)) (λ i e below. grind (arith, places)))

module _ {X Y : Type 0} (W : store.Ghosts X) (P : order.Ghosts Y) (positive : 0 < W.BITS) where
  -- the row of four lists of words is the four rows one after the other
  pub row_parts : (a b c d : List X) → row W P (a ++ (b ++ (c ++ d))) ≡ row W P a ++ (row W P b ++ (row W P c ++ row W P d))
  row_parts a b c d =
      row_halves W P positive a (b ++ (c ++ d))
      ∙ ap (λ l. row W P a ++ l) (row_halves W P positive b (c ++ d) ∙ ap (λ l. row W P b ++ l) (row_halves W P positive c d))

  -- the row of n words has n words of bits
  pub row_length : (xs : List X) (n : ℕ) → length xs ≡ n → length (row W P xs) ≡ n * W.BITS
  row_length xs n size = row_size W P xs ∙ ap (λ k. W.BITS * k) size ∙ mul_comm W.BITS n

  -- words split at the runs' ends have the rows of two neighbouring runs
  pub neighbours : (ws before low high after run others : List X) (first count : ℕ) → ws ≡ before ++ run → run ≡ low ++ others → others ≡ high ++ after
      → length before ≡ first → length low ≡ count → length high ≡ count
      → AreNeighbours (row W P ws) (row W P before) (row W P low) (row W P high) (row W P after) (first * W.BITS) (count * W.BITS)
  neighbours ws before low high after run others first count one two three begins lower upper = record {
    whole = ap (row W P) (one ∙ ap (λ l. before ++ l) (two ∙ ap (λ l. low ++ l) three)) ∙ row_parts before low high after;
    begins = row_length before first begins;
    low_size = row_length low count lower;
    high_size = row_length high count upper;
  }

  -- a run of words and the word after it, from an index on
  pub words_then : (ws ys : List X) (next : X) (at n k skip : ℕ) → skip < W.BITS → row W P ys ≡ slice_range (row W P ws) at (at + n) → at + n ≡ k * W.BITS → k < length ws → next ≡ get_or ws k next
      → slice_range (row W P (ys ++ next ∷ [])) skip (skip + n) ≡ slice_range (row W P ws) (at + skip) (at + skip + n)
  words_then ws ys next at n k skip within is ends there read =
      let w = W.BITS in
      let one : row W P (next ∷ []) ≡ slice_range (row W P ws) (at + n) (at + n + w) = row_whole W.value P.place w ws k (at + n) (at + n + w) next positive there read ends (ap (λ e. e + w) ends) in
      let room = mul_mono (k + 1) (length ws) w (omega (arith, there)) in
      let size : length (row W P ws) ≡ length ws * w = row_length ws (length ws) refl in
      ap (λ l. slice_range l skip (skip + n)) (row_halves W P positive ys (next ∷ []) ∙ (λ j. is j ++ one j))
      ∙ run_then (row W P ws) at n w skip (omega arith) (omega (arith, one_more_word k w))

  -- at index 0 the word after it does not count
  pub words_alone : (ws ys : List X) (next : X) (at n skip : ℕ) → skip ≡ 0 → row W P ys ≡ slice_range (row W P ws) at (at + n) → at + n ≤ length (row W P ws)
      → slice_range (row W P (ys ++ next ∷ [])) skip (skip + n) ≡ slice_range (row W P ws) (at + skip) (at + skip + n)
  words_alone ws ys next at n skip none is room =
      ap (λ l. slice_range l skip (skip + n)) (row_halves W P positive ys (next ∷ []) ∙ ap (λ l. l ++ row W P (next ∷ [])) is)
      ∙ run_alone (row W P ws) (row W P (next ∷ [])) at n skip none room
