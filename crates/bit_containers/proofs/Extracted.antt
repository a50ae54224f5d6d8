-- Bits that are appended where a mask has ones, again and again, and by runs.
use Rattle.std.proofs.Common.{◌≡◌, ℕ, zero, suc, ◌+◌, ◌-◌, ◌*◌, ◌/◌, ◌%◌, ◌<◌, ◌≤◌, Bool, true, false, cond, List, [], ◌∷◌, ◌++◌, length, take, drop, get_or, min, replicate, slice_range, refl, sym, ◌∙◌, ap, arith, append_assoc, append-nil, length-append}
use Rattle.std.specs.Prelude.{count_by}
use Rattle.std.specs.List.{flat_map, items_where_true}
use Rattle.std.proofs.Math.Seq.{take-add}
use Rattle.std.proofs.lemmas.List.{length-drop, length-replicate, take_more, length-take-le, places, same_lists, take-append-drop}
use Rattle.std.proofs.lemmas.Grind.{flat_map-append}
use Rattle.std.proofs.lemmas.List.Concat.{flat_map-cons}
use Rattle.std.proofs.lemmas.List.Sums.{sum_by-cons}
use Rattle.bit_addressing.proofs.Runs.{mul_mono}
use Rattle.bit_addressing.proofs.lists.Sized.{one_more_word}
use Rattle.bit_addressing.specs.Bits.{has_bit}
use Rattle.bit_addressing.specs.Row.{number_bits}
use Rattle.bit_rows.proofs.Binary.{length-number_bits}
use Rattle.bit_slice.proofs.Writing.{number_bits_more}
use Rattle.bit_slice.specs.BitRuns.{bits_of_run}
use Rattle.bit_slice.specs.declared.slice.runs.BitRun.{BitRun}
use Rattle.bit_containers.specs.Repeated.{repeated}

-- ---- the items that a mask has

-- a mask in two parts
pub extracted_append : (ms vs xs us : List Bool) → length ms ≡ length xs → items_where_true (ms ++ vs) (xs ++ us) ≡ items_where_true ms xs ++ items_where_true vs us
extracted_append [] vs [] us h = refl
extracted_append [] vs (x ∷ xs) us h = absurd (omega arith)
extracted_append (m ∷ ms) vs [] us h = absurd (omega arith)
extracted_append (true ∷ ms) vs (x ∷ xs) us h = ap (λ l. x ∷ l) (extracted_append ms vs xs us (omega arith))
extracted_append (false ∷ ms) vs (x ∷ xs) us h = extracted_append ms vs xs us (omega arith)

-- one item more
pub extracted_one : (m x : Bool) → items_where_true (m ∷ []) (x ∷ []) ≡ cond m (x ∷ []) []
extracted_one true x = refl
extracted_one false x = refl

-- as many items as the mask has ones
pub length-extracted : (ms xs : List Bool) → length ms ≡ length xs → length (items_where_true ms xs) ≡ count_by (λ b. b) ms
length-extracted [] [] h = refl
length-extracted [] (x ∷ xs) h = absurd (omega arith)
length-extracted (m ∷ ms) [] h = absurd (omega arith)
length-extracted (true ∷ ms) (x ∷ xs) h =
    let one : count_by (λ b. b) (true ∷ ms) ≡ 1 + count_by (λ b. b) ms = sum_by-cons (λ b. cond b 1 0) true ms in
    let rest = length-extracted ms xs (omega arith) in
    omega arith
length-extracted (false ∷ ms) (x ∷ xs) h =
    let none : count_by (λ b. b) (false ∷ ms) ≡ 0 + count_by (λ b. b) ms = sum_by-cons (λ b. cond b 1 0) false ms in
    let rest = length-extracted ms xs (omega arith) in
    omega arith

-- one bit of a number more, where the mask has a one, or not
module _ (mask number i gathered got : ℕ) where
  next : items_where_true (number_bits mask (i + 1)) (number_bits number (i + 1)) ≡ items_where_true (number_bits mask i) (number_bits number i) ++ cond (has_bit mask i) (has_bit number i ∷ []) []
  next =
      ap (λ l. items_where_true l (number_bits number (i + 1))) (number_bits_more mask i)
      ∙ ap (λ l. items_where_true (number_bits mask i ++ has_bit mask i ∷ []) l) (number_bits_more number i)
      ∙ extracted_append (number_bits mask i) (has_bit mask i ∷ []) (number_bits number i) (has_bit number i ∷ []) (length-number_bits mask i ∙ sym (length-number_bits number i))
      ∙ ap (λ l. items_where_true (number_bits mask i) (number_bits number i) ++ l) (extracted_one (has_bit mask i) (has_bit number i))

  -- where the mask has the bit, the gathered bits get one more
  pub bit_taken : (later : ℕ) → has_bit mask i ≡ true → number_bits gathered got ≡ items_where_true (number_bits mask i) (number_bits number i) → number_bits later (got + 1) ≡ number_bits gathered got ++ has_bit number i ∷ [] → number_bits later (got + 1) ≡ items_where_true (number_bits mask (i + 1)) (number_bits number (i + 1))
  bit_taken later one before wrote =
      wrote ∙ ap (λ l. l ++ has_bit number i ∷ []) before
      ∙ sym (next ∙ ap (λ b. items_where_true (number_bits mask i) (number_bits number i) ++ cond b (has_bit number i ∷ []) []) one)

  -- where the mask lacks the bit, the gathered bits stay
  pub bit_not_taken : has_bit mask i ≡ false → number_bits gathered got ≡ items_where_true (number_bits mask i) (number_bits number i) → number_bits gathered got ≡ items_where_true (number_bits mask (i + 1)) (number_bits number (i + 1))
  bit_not_taken none before =
      before
      ∙ sym (next ∙ ap (λ b. items_where_true (number_bits mask i) (number_bits number i) ++ cond b (has_bit number i ∷ []) []) none ∙ append-nil (items_where_true (number_bits mask i) (number_bits number i)))

-- where the mask or the list ends
extracted_none : (ms xs : List Bool) → min (length ms) (length xs) ≡ 0 → items_where_true ms xs ≡ []
extracted_none [] xs none = refl
extracted_none (m ∷ ms) [] none = refl
extracted_none (m ∷ ms) (x ∷ xs) none = absurd (omega arith)

taken_more : (zs : List Bool) (at n : ℕ) → take (at + n) zs ≡ take at zs ++ slice_range zs at (at + n)
taken_more zs at n =
    let k : n ≡ at + n - at = omega arith in
    take-add at n zs ∙ ap (λ j. take at zs ++ take j (drop at zs)) k

-- what is extracted up to an index
abbrev pub extracted_to : List Bool → List Bool → ℕ → List Bool
extracted_to ms xs n = items_where_true (take n ms) (take n xs)

module _ (ms xs : List Bool) where
  -- one part more
  pub extracted_more : (at n : ℕ) → at + n ≤ length ms → at + n ≤ length xs → extracted_to ms xs (at + n) ≡ extracted_to ms xs at ++ items_where_true (slice_range ms at (at + n)) (slice_range xs at (at + n))
  extracted_more at n fits inside =
      let a : length (take at ms) ≡ at = length-take-le at ms (omega arith) in
      let b : length (take at xs) ≡ at = length-take-le at xs (omega arith) in
      ap (λ l. items_where_true l (take (at + n) xs)) (taken_more ms at n)
      ∙ ap (λ l. items_where_true (take at ms ++ slice_range ms at (at + n)) l) (taken_more xs at n)
      ∙ extracted_append (take at ms) (slice_range ms at (at + n)) (take at xs) (slice_range xs at (at + n)) (a ∙ sym b)

  -- the rest from an index on
  parted : (at : ℕ) → at ≤ length ms → at ≤ length xs → items_where_true ms xs ≡ extracted_to ms xs at ++ items_where_true (drop at ms) (drop at xs)
  parted at fits inside =
      let a : length (take at ms) ≡ at = length-take-le at ms (omega arith) in
      let b : length (take at xs) ≡ at = length-take-le at xs (omega arith) in
      ap (λ l. items_where_true l xs) (sym (take-append-drop at ms))
      ∙ ap (λ l. items_where_true (take at ms ++ drop at ms) l) (sym (take-append-drop at xs))
      ∙ extracted_append (take at ms) (drop at ms) (take at xs) (drop at xs) (a ∙ sym b)

  -- no more than all of it
  pub extracted_few : (at : ℕ) → at ≤ length ms → at ≤ length xs → length (extracted_to ms xs at) ≤ length (items_where_true ms xs)
  extracted_few at fits inside =
      let whole = ap length (parted at fits inside) ∙ length-append (extracted_to ms xs at) (items_where_true (drop at ms) (drop at xs)) in
      omega arith

  -- all of it
  pub extracted_all : (upto : ℕ) → upto ≡ min (length xs) (length ms) → extracted_to ms xs upto ≡ items_where_true ms xs
  extracted_all upto is =
      let c = length-drop upto ms in
      let d = length-drop upto xs in
      sym (parted upto (omega arith) (omega arith) ∙ ap (λ l. extracted_to ms xs upto ++ l) (extracted_none (drop upto ms) (drop upto xs) (omega arith)) ∙ append-nil (extracted_to ms xs upto))

  -- as many as the mask has ones up to where one of the two ends
  pub extracted_count : (upto n : ℕ) → upto ≡ min (length xs) (length ms) → n ≡ count_by (λ b. b) (slice_range ms 0 upto) → n ≡ length (items_where_true ms xs)
  extracted_count upto n is counted =
      let a : length (take upto ms) ≡ upto = length-take-le upto ms (omega arith) in
      let b : length (take upto xs) ≡ upto = length-take-le upto xs (omega arith) in
      let k : upto - 0 ≡ upto = omega arith in
      counted ∙ ap (λ j. count_by (λ b. b) (take j ms)) k
      ∙ sym (length-extracted (take upto ms) (take upto xs) (a ∙ sym b)) ∙ ap length (extracted_all upto is)

-- ---- a list again and again

-- m + n repetitions are m repetitions and then n
pub repeated_sum : (m n : ℕ) (xs : List Bool) → repeated (m + n) xs ≡ repeated m xs ++ repeated n xs
repeated_sum zero n xs = let none : 0 + n ≡ n = omega arith in ap (λ k. repeated k xs) none
repeated_sum (suc m) n xs =
    let next : suc m + n ≡ suc (m + n) = omega arith in
    ap (λ k. repeated k xs) next ∙ ap (λ l. xs ++ l) (repeated_sum m n xs) ∙ sym (append_assoc xs (repeated m xs) (repeated n xs))

-- n repetitions have n times the length
pub length-repeated : (n : ℕ) (xs : List Bool) → length (repeated n xs) ≡ n * length xs
length-repeated zero xs = omega arith
length-repeated (suc n) xs =
    let next : suc n * length xs ≡ length xs + n * length xs = grind arith in
    length-append xs (repeated n xs) ∙ ap (λ k. length xs + k) (length-repeated n xs) ∙ sym next

-- a part of a list in three parts
part_after : (a b c : List Bool) (n : ℕ) → n ≡ length b → slice_range (a ++ (b ++ c)) (length a) (length a + n) ≡ b
part_after a b c n is = same_lists _ _ (grind (arith, places)) (λ i e below. grind (arith, places))

-- a part of what was appended is a list again and again
pub repeated_part : (old xs : List Bool) (m n : ℕ) → m ≤ n → slice_range (old ++ repeated n xs) (length old) (length old + m * length xs) ≡ repeated m xs
repeated_part old xs m n h =
    let parts : m + (n - m) ≡ n = omega arith in
    ap (λ k. slice_range (old ++ repeated k xs) (length old) (length old + m * length xs)) (sym parts)
    ∙ ap (λ l. slice_range (old ++ l) (length old) (length old + m * length xs)) (repeated_sum m (n - m) xs)
    ∙ part_after old (repeated m xs) (repeated (n - m) xs) (m * length xs) (sym (length-repeated m xs))

-- where there is nothing to repeat
no_item : (xs : List Bool) → length xs ≡ 0 → xs ≡ []
no_item [] none = refl
no_item (x ∷ xs) none = absurd (omega arith)

-- repetitions of no bits, or none of them, are empty
pub repeated_none : (n : ℕ) (xs : List Bool) → n * length xs ≡ 0 → repeated n xs ≡ []
repeated_none n xs none = no_item (repeated n xs) (length-repeated n xs ∙ none)

-- more copies than have room
pub past_room : (room len n : ℕ) → 0 < len → room / len < n → room < n * len
past_room room len n some past =
    let parts : room ≡ room / len * len + room % len = omega arith in
    let below : room % len < len = omega arith in
    let next : (room / len + 1) * len ≡ room / len * len + len = one_more_word (room / len) len in
    let most = mul_mono (room / len + 1) n len (omega arith) in
    omega arith

-- one copy more
module _ (now xs cur : List Bool) (done more start len : ℕ) (few : more ≤ done) (starts : start ≡ length now) (long : len ≡ length xs) (is : cur ≡ now ++ repeated done xs) where
  -- the first bits of repetitions are repetitions
  pub copy_is : slice_range cur start (start + more * len) ≡ repeated more xs
  copy_is =
      ap (λ l. slice_range l start (start + more * len)) is
      ∙ ap (λ k. slice_range (now ++ repeated done xs) k (k + more * len)) starts
      ∙ ap (λ k. slice_range (now ++ repeated done xs) (length now) (length now + more * k)) long
      ∙ repeated_part now xs more done few

  -- a copy of what was repeated appends that many repetitions
  pub copied_more : (later : List Bool) → later ≡ cur ++ slice_range cur start (start + more * len) → later ≡ now ++ repeated (done + more) xs
  copied_more later wrote =
      wrote ∙ ap (λ l. cur ++ l) copy_is ∙ ap (λ l. l ++ repeated more xs) is
      ∙ append_assoc now (repeated done xs) (repeated more xs) ∙ ap (λ l. now ++ l) (sym (repeated_sum done more xs))

  -- the length reached is that of the repetitions made so far
  pub reached : length cur ≡ length now + done * len
  reached = ap length is ∙ length-append now (repeated done xs) ∙ ap (λ k. length now + k) (length-repeated done xs ∙ ap (λ k. done * k) (sym long))

-- ---- runs

-- a run of no bits, which no list has
abbrev pub blank : BitRun
blank = record { start = 0; end = 0; bit = false }

-- the bits of a run
pub length-run_bits : (r : BitRun) → length (bits_of_run r) ≡ r.end - r.start
length-run_bits r = length-replicate (r.end - r.start) r.bit

-- the bits of one run more
pub runs_more : (runs : List BitRun) (i : ℕ) (d : BitRun) → i < length runs → flat_map bits_of_run (take (i + 1) runs) ≡ flat_map bits_of_run (take i runs) ++ bits_of_run (get_or runs i d)
runs_more runs i d inside =
    ap (flat_map bits_of_run) (take_more runs i d inside)
    ∙ flat_map-append bits_of_run (take i runs) (get_or runs i d ∷ [])
    ∙ ap (λ l. flat_map bits_of_run (take i runs) ++ l) (flat_map-cons bits_of_run (get_or runs i d) [] ∙ append-nil (bits_of_run (get_or runs i d)))

-- no more bits than those of all runs
pub runs_few : (runs : List BitRun) (i : ℕ) → length (flat_map bits_of_run (take i runs)) ≤ length (flat_map bits_of_run runs)
runs_few runs i =
    let whole = ap length (ap (flat_map bits_of_run) (sym (take-append-drop i runs)) ∙ flat_map-append bits_of_run (take i runs) (drop i runs))
    ∙ length-append (flat_map bits_of_run (take i runs)) (flat_map bits_of_run (drop i runs)) in
    omega arith

-- the bits of one run more are longer by that run
pub runs_next : (runs : List BitRun) (i : ℕ) (d : BitRun) → i < length runs → length (flat_map bits_of_run (take (i + 1) runs)) ≡ length (flat_map bits_of_run (take i runs)) + ((get_or runs i d).end - (get_or runs i d).start)
runs_next runs i d inside =
    ap length (runs_more runs i d inside) ∙ length-append (flat_map bits_of_run (take i runs)) (bits_of_run (get_or runs i d))
    ∙ ap (λ k. length (flat_map bits_of_run (take i runs)) + k) (length-run_bits (get_or runs i d))

-- a run of no bits adds none
pub empty_run : (runs : List BitRun) (i : ℕ) (d : BitRun) → i < length runs → (get_or runs i d).end - (get_or runs i d).start ≡ 0 → flat_map bits_of_run (take (i + 1) runs) ≡ flat_map bits_of_run (take i runs)
empty_run runs i d inside none =
    runs_more runs i d inside
    ∙ ap (λ k. flat_map bits_of_run (take i runs) ++ replicate k (get_or runs i d).bit) none
    ∙ append-nil (flat_map bits_of_run (take i runs))
