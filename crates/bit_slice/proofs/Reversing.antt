-- Words and rows that are reversed from both ends, and a run of them that is moved to its head.
use Rattle.std.proofs.Common.{◌≡◌, ℕ, ◌+◌, ◌-◌, ◌*◌, ◌/◌, ◌%◌, ◌<◌, ◌≤◌, Bool, false, List, ◌++◌, map, set, length, get_or, reverse, slice_range, refl, sym, ◌∙◌, ap, subst, inl, inr, arith}
use Rattle.std.proofs.lemmas.Bool.{cases_lt}
use Rattle.std.proofs.lemmas.Bool.Decides.{eqb_tells}
use Rattle.std.proofs.lemmas.List.{ext_get_or, get_or-reverse, get_or-set_same, get_or-set_other, get_or-map, map-set, length-reverse, length-set, length-map, length-append, reverse-append, append_assoc}
use Rattle.std.proofs.lemmas.Nat.{div-add-mod', div-mul-add, mod-mul-add}
use Rattle.std.proofs.Math.Nat.{mod-lt}
use Rattle.bit_addressing.specs.Bits.{has_bit}
use Rattle.bit_addressing.specs.Order.{IsPermutation}
use Rattle.bit_addressing.specs.Row.{moved, number_bits, number_of, put, row_of}
use Rattle.bit_addressing.specs.Typed.{row}
use Rattle.bit_addressing.specs.declared.store.BitStore as store
use Rattle.bit_addressing.specs.declared.order.BitOrder as order
use Rattle.bit_addressing.proofs.Rows.{word_below, length-row_of, get_or-row_of, same_rows}
use Rattle.bit_addressing.proofs.Shifts.{put_moved}
use Rattle.bit_addressing.proofs.lists.Put.{length-put, put_before, put_inside, put_after}
use Rattle.bit_addressing.proofs.lists.Shown.{length-run, get_or-run}
use Rattle.bit_slice.specs.Mirrored.{IsMirrored}
use Rattle.bit_slice.proofs.Halves.{row_halves, run_of_front, run_of_back, put_front, put_back}
use Rattle.bit_slice.proofs.Turned.{reversed_item}
use Rattle.bit_slice.proofs.Writing.{run_of_number}

-- the index as far from the end of the row of n words as index j is from its beginning
across : (w n j : ℕ) → 0 < w → j < w * n → w * n - 1 - j ≡ (n - 1 - j / w) * w + (w - 1 - j % w)
across w n j positive below =
    let d = div-add-mod' j w in
    let l : j / w < n = word_below w j n positive below in
    let e : n ≡ n - 1 - j / w + j / w + 1 = omega (arith, l) in
    let f : w * (n - 1 - j / w + j / w + 1) ≡ (n - 1 - j / w) * w + j / w * w + w = grind arith in
    let g : w * n ≡ (n - 1 - j / w) * w + j / w * w + w = ap (λ k. w * k) e ∙ f in
    omega (arith, d, g, mod-lt j positive, below)

module _ (place : ℕ → ℕ → ℕ) (w : ℕ) (positive : 0 < w) (lawful : IsPermutation w (place w)) (mirrored : IsMirrored w (place w)) where
  -- words that are those of others from the end, each reversed
  pub reversed_row : (xs ys : List ℕ) → length xs ≡ length ys → ((k p : ℕ) → k < length ys → p < w → has_bit (get_or xs k 0) p ≡ has_bit (get_or ys (length ys - 1 - k) 0) (w - 1 - p)) → row_of place w xs ≡ reverse (row_of place w ys)
  reversed_row xs ys same turned =
      let size : length (row_of place w ys) ≡ w * length ys = length-row_of place w ys in
      let count : w * length xs ≡ w * length ys = ap (λ k. w * k) same in
      same_rows place w xs (reverse (row_of place w ys)) (length-reverse (row_of place w ys) ∙ size ∙ sym count)
      (λ j h.
      let below : j < w * length ys = omega (arith, h, count) in
      let word : j / w < length ys = word_below w j (length ys) positive below in
      let inside : j % w < w = mod-lt j positive in
      let at : w * length ys - 1 - j ≡ (length ys - 1 - j / w) * w + (w - 1 - j % w) = across w (length ys) j positive below in
      let quotient : (w * length ys - 1 - j) / w ≡ length ys - 1 - j / w = ap (λ k. k / w) at ∙ div-mul-add (length ys - 1 - j / w) w (w - 1 - j % w) (omega (arith, positive)) in
      let rest : (w * length ys - 1 - j) % w ≡ w - 1 - j % w = ap (λ k. k % w) at ∙ mod-mul-add (length ys - 1 - j / w) w (w - 1 - j % w) (omega (arith, positive)) in
      turned (j / w) (place w (j % w)) word (lawful.in_range (j % w) inside)
      ∙ ap (has_bit (get_or ys (length ys - 1 - j / w) 0)) (sym (mirrored (j % w) inside) ∙ ap (place w) (sym rest))
      ∙ ap (λ k. has_bit (get_or ys k 0) (place w ((w * length ys - 1 - j) % w))) (sym quotient)
      ∙ sym (get_or-row_of place w ys (w * length ys - 1 - j) (omega (arith, below)))
      ∙ ap (λ k. get_or (row_of place w ys) (k - 1 - j) false) (sym size)
      ∙ sym (get_or-reverse (row_of place w ys) j false (omega (arith, below, size))))

  module _ {X : Type 0} (value : X → ℕ) (words : List X) where
    -- no words are their own reverse
    pub no_word_reversed : length words ≡ 0 → row_of place w (map value words) ≡ reverse (row_of place w (map value words))
    no_word_reversed none = reversed_row (map value words) (map value words) refl (λ k p h q. absurd (omega (arith, h, none, length-map words value)))

    -- one word with its bits reversed is the reverse of its row
    pub one_word_reversed : (old new : X) → length words ≡ 1 → old ≡ get_or words 0 old → ((p : ℕ) → p < w → has_bit (value new) p ≡ has_bit (value old) (w - 1 - p)) → row_of place w (map value (set words 0 new)) ≡ reverse (row_of place w (map value words))
    one_word_reversed old new one read turned =
        let size : length (map value words) ≡ length words = length-map words value in
        let here : value old ≡ get_or (map value words) 0 0 = ap value read ∙ sym (get_or-map value words 0 old 0 (omega (arith, one))) in
        ap (row_of place w) (map-set value words 0 new)
        ∙ reversed_row (set (map value words) 0 (value new)) (map value words) (length-set (map value words) 0 (value new))
        (λ k p h q.
        let first : k ≡ 0 = omega (arith, h, size, one) in
        let last : length (map value words) - 1 - 0 ≡ 0 = omega (arith, size, one) in
        rw (first, last, get_or-set_same (map value words) 0 (value new) 0 (omega (arith, size, one))) (turned p q ∙ ap (λ x. has_bit x (w - 1 - p)) here))

-- the first n words of a front and the last n of a back have changed places, each reversed
pub record IsExchanged (w : ℕ) (low high new_low new_high : List ℕ) (n : ℕ) : Type 0 where
  pub low_size : length new_low ≡ length low
  pub high_size : length new_high ≡ length high
  pub low_done : (k p : ℕ) → k < n → p < w → has_bit (get_or new_low k 0) p ≡ has_bit (get_or high (length high - 1 - k) 0) (w - 1 - p)
  pub high_done : (k p : ℕ) → k < n → p < w → has_bit (get_or new_high (length high - 1 - k) 0) p ≡ has_bit (get_or low k 0) (w - 1 - p)
  pub low_rest : (k : ℕ) → n ≤ k → get_or new_low k 0 ≡ get_or low k 0
  pub high_rest : (k : ℕ) → n ≤ k → k < length high → get_or new_high (length high - 1 - k) 0 ≡ get_or high (length high - 1 - k) 0

exchange_step : (w : ℕ) (low high new_low new_high : List ℕ) (n u v : ℕ) → length low ≡ length high → n < length high → IsExchanged w low high new_low new_high n
    → ((p : ℕ) → p < w → has_bit u p ≡ has_bit (get_or new_high (length high - 1 - n) 0) (w - 1 - p))
    → ((p : ℕ) → p < w → has_bit v p ≡ has_bit (get_or new_low n 0) (w - 1 - p))
    → IsExchanged w low high (set new_low n u) (set new_high (length high - 1 - n) v) (n + 1)
exchange_step w low high new_low new_high n u v same below so_far from_high from_low =
    let size = so_far.low_size in
    let high_size = so_far.high_size in
    record {
      low_size = length-set new_low n u ∙ size;
      high_size = length-set new_high (length high - 1 - n) v ∙ high_size;
      low_done = λ k p h q. elim (eqb_tells k n) [
        | inl e ↦ rw (e.1, get_or-set_same new_low n u 0 (omega (arith, size, same, below))) (from_high p q ∙ ap (λ x. has_bit x (w - 1 - p)) (so_far.high_rest n (omega arith) below))
        | inr e ↦ ap (λ x. has_bit x p) (get_or-set_other new_low n k u 0 e.1) ∙ so_far.low_done k p (omega arith) q
      ];
      high_done = λ k p h q. elim (eqb_tells k n) [
        | inl e ↦ rw (e.1, get_or-set_same new_high (length high - 1 - n) v 0 (omega (arith, high_size, below))) (from_low p q ∙ ap (λ x. has_bit x (w - 1 - p)) (so_far.low_rest n (omega arith)))
        | inr e ↦ ap (λ x. has_bit x p) (get_or-set_other new_high (length high - 1 - n) (length high - 1 - k) v 0 (omega arith)) ∙ so_far.high_done k p (omega arith) q
      ];
      low_rest = λ k h. get_or-set_other new_low n k u 0 (omega arith) ∙ so_far.low_rest k (omega arith);
      high_rest = λ k h l. get_or-set_other new_high (length high - 1 - n) (length high - 1 - k) v 0 (omega arith) ∙ so_far.high_rest k (omega arith) l;
    }

module _ {X : Type 0} (value : X → ℕ) (w : ℕ) where
  -- one pair of words more
  pub exchange_word : (low high new_low new_high : List X) (n j : ℕ) (old_low old_high u v : X) → length low ≡ length high → n < length high → j ≡ length high - 1 - n
      → IsExchanged w (map value low) (map value high) (map value new_low) (map value new_high) n
      → old_low ≡ get_or new_low n old_low → old_high ≡ get_or new_high j old_high
      → ((p : ℕ) → p < w → has_bit (value u) p ≡ has_bit (value old_high) (w - 1 - p))
      → ((p : ℕ) → p < w → has_bit (value v) p ≡ has_bit (value old_low) (w - 1 - p))
      → IsExchanged w (map value low) (map value high) (map value (set new_low n u)) (map value (set new_high j v)) (n + 1)
  exchange_word low high new_low new_high n j old_low old_high u v same below at so_far read_low read_high from_high from_low =
      let size : length (map value high) ≡ length high = length-map high value in
      let size_low : length (map value low) ≡ length low = length-map low value in
      let size_new : length (map value new_low) ≡ length new_low = length-map new_low value in
      let size_new_high : length (map value new_high) ≡ length new_high = length-map new_high value in
      let kept = so_far.low_size in
      let kept_high = so_far.high_size in
      let e : j ≡ length (map value high) - 1 - n = omega (arith, at, size) in
      let low_is : value old_low ≡ get_or (map value new_low) n 0 = ap value read_low ∙ sym (get_or-map value new_low n old_low 0 (omega (arith, kept, size, size_low, size_new, same, below))) in
      let high_is : value old_high ≡ get_or (map value new_high) (length (map value high) - 1 - n) 0 = ap value read_high ∙ sym (get_or-map value new_high j old_high 0 (omega (arith, kept_high, size, size_new_high, at, below))) ∙ ap (λ k. get_or (map value new_high) k 0) e in
      rw (map-set, map-set, e) (exchange_step w (map value low) (map value high) (map value new_low) (map value new_high) n (value u) (value v) (omega (arith, size, size_low, same)) (omega (arith, size, below)) so_far
      (λ p h. from_high p h ∙ ap (λ x. has_bit x (w - 1 - p)) high_is) (λ p h. from_low p h ∙ ap (λ x. has_bit x (w - 1 - p)) low_is))

  -- the bits of a word are those of another in the opposite places
  abbrev pub IsReversed : X → X → Type 0
  IsReversed u old = (p : ℕ) → p < w → has_bit (value u) p ≡ has_bit (value old) (w - 1 - p)

  -- a pair of words more from each end
  exchange_pair : (low high new_low new_high : List X) (n m j k : ℕ) (low_0 low_1 high_0 high_1 u_0 u_1 v_0 v_1 : X) → length low ≡ length high → n + 2 ≤ length high → j ≡ length high - 2 - n → m ≡ n + 1 → k ≡ j + 1
      → IsExchanged w (map value low) (map value high) (map value new_low) (map value new_high) n
      → low_0 ≡ get_or new_low n low_0 → low_1 ≡ get_or new_low m low_1 → high_0 ≡ get_or new_high j high_0 → high_1 ≡ get_or new_high k high_1
      → IsReversed u_0 high_1 → IsReversed u_1 high_0 → IsReversed v_0 low_1 → IsReversed v_1 low_0
      → IsExchanged w (map value low) (map value high) (map value (set (set new_low n u_0) m u_1)) (map value (set (set new_high k v_1) j v_0)) (n + 2)
  exchange_pair low high new_low new_high n m j k low_0 low_1 high_0 high_1 u_0 u_1 v_0 v_1 same room at is_m is_k so_far read_low_0 read_low_1 read_high_0 read_high_1 from_high_1 from_high_0 from_low_1 from_low_0 =
      let first = exchange_word low high new_low new_high n k low_0 high_1 u_0 v_1 same (omega (arith, room)) (omega (arith, at, is_k, room)) so_far read_low_0 read_high_1 from_high_1 from_low_0 in
      let there : IsExchanged w (map value low) (map value high) (map value (set new_low n u_0)) (map value (set new_high k v_1)) m = subst (λ i. IsExchanged w (map value low) (map value high) (map value (set new_low n u_0)) (map value (set new_high k v_1)) i) (sym is_m) first in
      let second = exchange_word low high (set new_low n u_0) (set new_high k v_1) m j low_1 high_0 u_1 v_0 same (omega (arith, room, is_m)) (omega (arith, at, is_m, room)) there
      (read_low_1 ∙ sym (get_or-set_other new_low n m u_0 low_1 (omega (arith, is_m)))) (read_high_0 ∙ sym (get_or-set_other new_high k j v_1 high_0 (omega (arith, is_k)))) from_high_0 from_low_1 in
      let e : m + 1 ≡ n + 2 = omega (arith, is_m) in
      subst (λ i. IsExchanged w (map value low) (map value high) (map value (set (set new_low n u_0) m u_1)) (map value (set (set new_high k v_1) j v_0)) i) e second

  -- four words more from each end, which were read before any was written
  pub exchange_four : (low high new_low new_high : List X) (n m j : ℕ) (low_0 low_1 low_2 low_3 high_0 high_1 high_2 high_3 u_0 u_1 u_2 u_3 v_0 v_1 v_2 v_3 : X) → length low ≡ length high → n + 4 ≤ length high → m ≡ n + 4 → j ≡ length high - 4 - n
      → IsExchanged w (map value low) (map value high) (map value new_low) (map value new_high) n
      → low_0 ≡ get_or new_low n low_0 → low_1 ≡ get_or new_low (n + 1) low_1 → low_2 ≡ get_or new_low (n + 2) low_2 → low_3 ≡ get_or new_low (n + 3) low_3
      → high_0 ≡ get_or new_high j high_0 → high_1 ≡ get_or new_high (j + 1) high_1 → high_2 ≡ get_or new_high (j + 2) high_2 → high_3 ≡ get_or new_high (j + 3) high_3
      → IsReversed u_0 high_3 → IsReversed u_1 high_2 → IsReversed u_2 high_1 → IsReversed u_3 high_0
      → IsReversed v_0 low_3 → IsReversed v_1 low_2 → IsReversed v_2 low_1 → IsReversed v_3 low_0
      → IsExchanged w (map value low) (map value high) (map value (set (set (set (set new_low n u_0) (n + 1) u_1) (n + 2) u_2) (n + 3) u_3))
      (map value (set (set (set (set new_high (j + 3) v_3) (j + 2) v_2) (j + 1) v_1) j v_0)) m
  exchange_four low high new_low new_high n m j low_0 low_1 low_2 low_3 high_0 high_1 high_2 high_3 u_0 u_1 u_2 u_3 v_0 v_1 v_2 v_3 same room is_m at so_far
      read_low_0 read_low_1 read_low_2 read_low_3 read_high_0 read_high_1 read_high_2 read_high_3 u_0_is u_1_is u_2_is u_3_is v_0_is v_1_is v_2_is v_3_is =
      let lower : List X = set (set new_low n u_0) (n + 1) u_1 in
      let upper : List X = set (set new_high (j + 3) v_3) (j + 2) v_2 in
      let outer = exchange_pair low high new_low new_high n (n + 1) (j + 2) (j + 3) low_0 low_1 high_2 high_3 u_0 u_1 v_2 v_3 same (omega (arith, room)) (omega (arith, at, room)) refl (omega arith) so_far
      read_low_0 read_low_1 read_high_2 read_high_3 u_0_is u_1_is v_2_is v_3_is in
      let low_stays : (i : ℕ) (x : X) → n + 2 ≤ i → get_or lower i x ≡ get_or new_low i x =
      λ i x h. get_or-set_other (set new_low n u_0) (n + 1) i u_1 x (omega (arith, h)) ∙ get_or-set_other new_low n i u_0 x (omega (arith, h)) in
      let high_stays : (i : ℕ) (x : X) → i ≤ j + 1 → get_or upper i x ≡ get_or new_high i x =
      λ i x h. get_or-set_other (set new_high (j + 3) v_3) (j + 2) i v_2 x (omega (arith, h)) ∙ get_or-set_other new_high (j + 3) i v_3 x (omega (arith, h)) in
      let inner = exchange_pair low high lower upper (n + 2) (n + 3) j (j + 1) low_2 low_3 high_0 high_1 u_2 u_3 v_0 v_1 same (omega (arith, room)) (omega (arith, at, room)) (omega arith) refl outer
      (read_low_2 ∙ sym (low_stays (n + 2) low_2 (omega arith))) (read_low_3 ∙ sym (low_stays (n + 3) low_3 (omega arith)))
      (read_high_0 ∙ sym (high_stays j high_0 (omega arith))) (read_high_1 ∙ sym (high_stays (j + 1) high_1 (omega arith))) u_2_is u_3_is v_0_is v_1_is in
      let e : n + 2 + 2 ≡ m = omega (arith, is_m) in
      subst (λ i. IsExchanged w (map value low) (map value high) (map value (set (set lower (n + 2) u_2) (n + 3) u_3)) (map value (set (set upper (j + 1) v_1) j v_0)) i) e inner

module _ (place : ℕ → ℕ → ℕ) (w : ℕ) (positive : 0 < w) (lawful : IsPermutation w (place w)) (mirrored : IsMirrored w (place w)) (low high new_low new_high : List ℕ) (n : ℕ) (same : length low ≡ length high) (most : length high ≤ n) (all : IsExchanged w low high new_low new_high n) where
  -- the lower words now hold the higher ones in reverse
  pub low_reversed : row_of place w new_low ≡ reverse (row_of place w high)
  low_reversed = reversed_row place w positive lawful mirrored new_low high (all.low_size ∙ same) (λ k p h q. all.low_done k p (omega arith) q)

  -- the higher words now hold the lower ones in reverse
  pub high_reversed : row_of place w new_high ≡ reverse (row_of place w low)
  high_reversed = reversed_row place w positive lawful mirrored new_high low (all.high_size ∙ sym same)
      (λ k p h q.
      let at : length high - 1 - (length low - 1 - k) ≡ k = omega (arith, same, h) in
      ap (λ i. has_bit (get_or new_high i 0) p) (sym at) ∙ all.high_done (length low - 1 - k) p (omega (arith, same, most, h)) q)

-- a run of a list that is reversed
reversed_run : (xs : List Bool) (before len after : ℕ) → before + len + after ≡ length xs → slice_range (reverse xs) after (after + len) ≡ reverse (slice_range xs before (before + len))
reversed_run xs before len after whole =
    let size : length (reverse xs) ≡ length xs = length-reverse xs in
    let a : length (slice_range (reverse xs) after (after + len)) ≡ len = length-run (reverse xs) after len (omega (arith, size, whole)) in
    let b : length (reverse (slice_range xs before (before + len))) ≡ len = length-reverse (slice_range xs before (before + len)) ∙ length-run xs before len (omega (arith, whole)) in
    ext_get_or false (slice_range (reverse xs) after (after + len)) (reverse (slice_range xs before (before + len))) (a ∙ sym b)
    (λ i h.
    let at : length xs - 1 - (after + i) ≡ before + (len - 1 - i) = omega (arith, whole, a, h) in
    get_or-run (reverse xs) after len i (omega (arith, a, h)) ∙ get_or-reverse xs (after + i) false (omega (arith, whole, a, h)) ∙ ap (λ k. get_or xs k false) at
    ∙ sym (reversed_item xs before len i (omega (arith, whole)) (omega (arith, a, h))))

-- a list is reversed, a run is moved to its head, and the bits around it are put back
module _ (xs : List Bool) (before len after : ℕ) (whole : before + len + after ≡ length xs) where
  abbrev front : List Bool
  front = slice_range xs 0 (0 + before)

  abbrev back : List Bool
  back = slice_range xs (before + len) (before + len + after)

  abbrev turned : List Bool
  turned = reverse (slice_range xs before (before + len))

  put_around : put (put (moved (reverse xs) after before len) 0 front) (before + len) back ≡ put xs before turned
  put_around =
      let size : length (reverse xs) ≡ length xs = length-reverse xs in
      let f : length front ≡ before = length-run xs 0 before (omega (arith, whole)) in
      let b : length back ≡ after = length-run xs (before + len) after (omega (arith, whole)) in
      let t : length turned ≡ len = length-reverse (slice_range xs before (before + len)) ∙ length-run xs before len (omega (arith, whole)) in
      let l1 : length (put (reverse xs) before turned) ≡ length xs = length-put (reverse xs) turned before (omega (arith, size, t, whole)) ∙ size in
      let l2 : length (put (put (reverse xs) before turned) 0 front) ≡ length xs = length-put (put (reverse xs) before turned) front 0 (omega (arith, l1, f, whole)) ∙ l1 in
      let l3 : length (put (put (put (reverse xs) before turned) 0 front) (before + len) back) ≡ length xs = length-put (put (put (reverse xs) before turned) 0 front) back (before + len) (omega (arith, l2, b, whole)) ∙ l2 in
      let l4 : length (put xs before turned) ≡ length xs = length-put xs turned before (omega (arith, t, whole)) in
      ap (λ l. put (put l 0 front) (before + len) back)
      (sym (put_moved (reverse xs) after before len (omega (arith, size, whole)) (omega (arith, size, whole))) ∙ ap (put (reverse xs) before) (reversed_run xs before len after whole))
      ∙ ext_get_or false (put (put (put (reverse xs) before turned) 0 front) (before + len) back) (put xs before turned) (l3 ∙ sym l4)
      (λ j h. elim (cases_lt j (before + len)) [
        | inl k ↦ put_before (put (put (reverse xs) before turned) 0 front) back (before + len) j false (omega (arith, l2, whole)) k ∙ elim (cases_lt j before) [
          | inl l ↦
              let at : 0 + (j - 0) ≡ j = omega arith in
              put_inside (put (reverse xs) before turned) front 0 j false (omega arith) (omega arith) (omega (arith, f, l))
              ∙ get_or-run xs 0 before (j - 0) (omega (arith, l)) ∙ ap (λ i. get_or xs i false) at ∙ sym (put_before xs turned before j false (omega (arith, whole)) l)
          | inr l ↦
              put_after (put (reverse xs) before turned) front 0 j false (omega (arith, l1, f, whole)) (omega (arith, f, l))
              ∙ put_inside (reverse xs) turned before j false (omega (arith, size, whole)) l (omega (arith, t, k))
              ∙ sym (put_inside xs turned before j false (omega (arith, whole)) l (omega (arith, t, k)))
        ]
        | inr k ↦
            let at : before + len + (j - (before + len)) ≡ j = omega (arith, k) in
            put_inside (put (put (reverse xs) before turned) 0 front) back (before + len) j false (omega (arith, l2, whole)) k (omega (arith, l3, b, h, whole))
            ∙ get_or-run xs (before + len) after (j - (before + len)) (omega (arith, l3, h, k, whole)) ∙ ap (λ i. get_or xs i false) at
            ∙ sym (put_after xs turned before j false (omega (arith, t, whole)) (omega (arith, t, k)))
      ])

  -- the same in steps, where what stood around the run was kept as numbers
  pub put_back_around : (all shifted begun new : List Bool) (f b : ℕ) → all ≡ reverse xs → shifted ≡ moved all after before len → f ≡ number_of front → b ≡ number_of back
      → begun ≡ put shifted 0 (number_bits f before) → new ≡ put begun (before + len) (number_bits b after) → new ≡ put xs before turned
  put_back_around all shifted begun new f b is_all is_shifted is_f is_b is_begun is_new =
      let begins : number_bits f before ≡ front = run_of_number xs f 0 before (omega (arith, whole)) is_f in
      let ends : number_bits b after ≡ back = run_of_number xs b (before + len) after (omega (arith, whole)) is_b in
      let moves : shifted ≡ moved (reverse xs) after before len = is_shifted ∙ ap (λ l. moved l after before len) is_all in
      let fronts : begun ≡ put (moved (reverse xs) after before len) 0 front = is_begun ∙ ap (put shifted 0) begins ∙ ap (λ l. put l 0 front) moves in
      is_new ∙ ap (put begun (before + len)) ends ∙ ap (λ l. put l (before + len) back) fronts ∙ put_around

-- the parts of a list, each reversed, in the other order
thirds_reversed : (xs ys zs : List Bool) → (reverse zs ++ reverse ys) ++ reverse xs ≡ reverse ((xs ++ ys) ++ zs)
thirds_reversed xs ys zs = append_assoc (reverse zs) (reverse ys) (reverse xs) ∙ ap (λ l. reverse zs ++ l) (sym (reverse-append xs ys)) ∙ sym (reverse-append (xs ++ ys) zs)

module _ {X Y : Type 0} (W : store.Ghosts X) (P : order.Ghosts Y) (positive : 0 < W.BITS) where
  row_thirds : (xs ys zs : List X) → row W P ((xs ++ ys) ++ zs) ≡ (row W P xs ++ row W P ys) ++ row W P zs
  row_thirds xs ys zs = row_halves W P positive (xs ++ ys) zs ∙ ap (λ l. l ++ row W P zs) (row_halves W P positive xs ys)

  -- words whose front and back have changed places, each part reversed
  pub all_reversed : (ws begin low middle high new_low new_middle new_high : List X) → ws ≡ begin ++ high → begin ≡ low ++ middle
      → row W P new_low ≡ reverse (row W P high) → row W P new_middle ≡ reverse (row W P middle) → row W P new_high ≡ reverse (row W P low)
      → row W P ((new_low ++ new_middle) ++ new_high) ≡ reverse (row W P ws)
  all_reversed ws begin low middle high new_low new_middle new_high whole begins is_low is_middle is_high =
      row_thirds new_low new_middle new_high
      ∙ ap (λ l. (l ++ row W P new_middle) ++ row W P new_high) is_low ∙ ap (λ l. (reverse (row W P high) ++ l) ++ row W P new_high) is_middle ∙ ap (λ l. (reverse (row W P high) ++ reverse (row W P middle)) ++ l) is_high
      ∙ thirds_reversed (row W P low) (row W P middle) (row W P high)
      ∙ ap reverse (sym (row_thirds low middle high) ∙ ap (λ l. row W P (l ++ high)) (sym begins) ∙ ap (row W P) (sym whole))

-- a run that is reversed in a part of a list
pub reversed_within : (whole xs ys zs new : List Bool) (head d len : ℕ) → whole ≡ xs ++ (ys ++ zs) → head ≡ length xs + d → d + len ≤ length ys
    → new ≡ put ys d (reverse (slice_range ys d (d + len))) → xs ++ (new ++ zs) ≡ put whole head (reverse (slice_range whole head (head + len)))
reversed_within whole xs ys zs new head d len is begins inside made =
    let us : List Bool = reverse (slice_range ys d (d + len)) in
    let size : length us ≡ len = length-reverse (slice_range ys d (d + len)) ∙ length-run ys d len inside in
    let more : length (ys ++ zs) ≡ length ys + length zs = length-append ys zs in
    let run : slice_range whole head (head + len) ≡ slice_range ys d (d + len) =
    ap (λ l. slice_range l head (head + len)) is ∙ ap (λ k. slice_range (xs ++ (ys ++ zs)) k (k + len)) begins ∙ run_of_back xs (ys ++ zs) d len ∙ run_of_front ys zs d (d + len) inside in
    ap (λ l. xs ++ (l ++ zs)) made ∙ ap (λ l. xs ++ l) (put_front ys zs us d (omega (arith, size, inside)))
    ∙ put_back xs (ys ++ zs) us d (omega (arith, size, more, inside)) ∙ ap (λ k. put (xs ++ (ys ++ zs)) k us) (sym begins) ∙ ap (λ l. put l head us) (sym is) ∙ ap (λ l. put whole head (reverse l)) (sym run)
