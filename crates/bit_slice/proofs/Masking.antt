-- Lists that are written where a mask is true.
use Rattle.std.proofs.Common.{◌≡◌, ℕ, zero, suc, ◌+◌, ◌-◌, ◌/◌, ◌^◌, ◌<◌, ◌≤◌, Bool, true, false, not, cond, ◌&&◌, List, [], ◌∷◌, ◌++◌, length, take, drop, get_or, min, slice_range, refl, sym, ◌∙◌, ap, inl, inr, arith}
use Rattle.std.specs.Prelude.{count_ones, if◌then◌else◌}
use Rattle.std.specs.Prelude.{slice_get, Some, ◌≢◌}
use Rattle.std.specs.List.{items_where_true}
use Rattle.std.proofs.Math.Seq.{take-add}
use Rattle.std.proofs.lemmas.Bool.{cases_lt}
use Rattle.std.proofs.lemmas.List.{get_or-drop, get_or_past, length-drop, length-take-le, map-id, take-append-drop}
use Rattle.std.proofs.lemmas.List.FromFn.{get_or-map-range_with_len}
use Rattle.std.proofs.lemmas.List.Recursion.{is_count_by}
use Rattle.bit_addressing.specs.Bits.{has_bit}
use Rattle.bit_addressing.specs.Row.{number_bits, number_of, put}
use Rattle.bit_addressing.proofs.Chunks.{has_number}
use Rattle.bit_addressing.proofs.lists.Put.{length-put, put_joined, put_none}
use Rattle.bit_addressing.proofs.Words.{has_shr_low}
use Rattle.bit_rows.proofs.Binary.{length-number_bits}
use Rattle.bit_addressing.proofs.lists.Shown.{get_or-run, length-run, shown_part}
use Rattle.bit_rows.proofs.Combinations.{put_later}
use Rattle.bit_slice.proofs.Combining.{length-combined, put_kept, rest_of_run}
use Rattle.bit_slice.proofs.Numbered.{ones_number}
use Rattle.bit_slice.proofs.Swapped.{put_again}
use Rattle.bit_slice.proofs.Writing.{number_bits_more}
use Rattle.bit_slice.specs.Masked.{deposited, masked}
use Rattle.bit_slice.specs.Operators.{and_not_of, xor_of}

-- ---- the bits of another list at the same indices

masked_none : (xs ys : List Bool) → masked xs [] ys ≡ xs
masked_none [] ys = refl
masked_none (x ∷ xs) ys = refl

bit_masked : (x m y : Bool) → (if (if x then not y else y) && not m then not y else y) ≡ (if m then y else x)
bit_masked true true true = refl
bit_masked true true false = refl
bit_masked true false true = refl
bit_masked true false false = refl
bit_masked false true true = refl
bit_masked false true false = refl
bit_masked false false true = refl
bit_masked false false false = refl

-- a list is written at a mask by three combinations
pub by_three : (xs mask ys : List Bool) → xor_of (and_not_of (xor_of xs ys) mask) ys ≡ masked xs mask ys
by_three [] mask ys = refl
by_three (x ∷ xs) [] [] = ap (λ b. b ∷ xor_of (and_not_of (xor_of xs []) []) []) (bit_masked x false false) ∙ ap (λ l. x ∷ l) (by_three xs [] [] ∙ masked_none xs [])
by_three (x ∷ xs) [] (y ∷ ys) = ap (λ b. b ∷ xor_of (and_not_of (xor_of xs ys) []) ys) (bit_masked x false y) ∙ ap (λ l. x ∷ l) (by_three xs [] ys ∙ masked_none xs ys)
by_three (x ∷ xs) (m ∷ mask) [] = ap (λ b. b ∷ xor_of (and_not_of (xor_of xs []) mask) []) (bit_masked x m false) ∙ ap (λ l. (if m then false else x) ∷ l) (by_three xs mask [])
by_three (x ∷ xs) (m ∷ mask) (y ∷ ys) = ap (λ b. b ∷ xor_of (and_not_of (xor_of xs ys) mask) ys) (bit_masked x m y) ∙ ap (λ l. (if m then y else x) ∷ l) (by_three xs mask ys)

-- a masked copy keeps the length
pub length-masked : (xs mask ys : List Bool) → length (masked xs mask ys) ≡ length xs
length-masked [] mask ys = refl
length-masked (x ∷ xs) [] ys = refl
length-masked (x ∷ xs) (m ∷ mask) [] = ap suc (length-masked xs mask [])
length-masked (x ∷ xs) (m ∷ mask) (y ∷ ys) = ap suc (length-masked xs mask ys)

-- ---- the bits of another list, one after another

-- how many items are true
abbrev pub ones : List Bool → ℕ
ones [] = 0
ones (true ∷ mask) = suc (ones mask)
ones (false ∷ mask) = ones mask

drop_none : (n : ℕ) → drop {A = Bool} n [] ≡ []
drop_none zero = refl
drop_none (suc n) = refl

-- a deposit keeps the length
pub length-deposited : (xs mask ys : List Bool) → length (deposited xs mask ys) ≡ length xs
length-deposited [] mask ys = refl
length-deposited (x ∷ xs) [] ys = refl
length-deposited (x ∷ xs) (false ∷ mask) ys = ap suc (length-deposited xs mask ys)
length-deposited (x ∷ xs) (true ∷ mask) [] = ap suc (length-deposited xs mask [])
length-deposited (x ∷ xs) (true ∷ mask) (y ∷ ys) = ap suc (length-deposited xs mask ys)

-- the ones of two lists add up
pub ones_append : (ms vs : List Bool) → ones (ms ++ vs) ≡ ones ms + ones vs
ones_append [] vs = omega arith
ones_append (true ∷ ms) vs = let rest = ones_append ms vs in omega arith
ones_append (false ∷ ms) vs = ones_append ms vs

-- a mask in two parts
pub deposited_append : (xs us ms vs ys : List Bool) → length xs ≡ length ms → deposited (xs ++ us) (ms ++ vs) ys ≡ deposited xs ms ys ++ deposited us vs (drop (ones ms) ys)
deposited_append [] us [] vs ys h = refl
deposited_append [] us (m ∷ ms) vs ys h = absurd (omega arith)
deposited_append (x ∷ xs) us [] vs ys h = absurd (omega arith)
deposited_append (x ∷ xs) us (false ∷ ms) vs ys h = ap (λ l. x ∷ l) (deposited_append xs us ms vs ys (omega arith))
deposited_append (x ∷ xs) us (true ∷ ms) vs [] h = ap (λ l. false ∷ l) (deposited_append xs us ms vs [] (omega arith) ∙ ap (λ l. deposited xs ms [] ++ deposited us vs l) (drop_none (ones ms)))
deposited_append (x ∷ xs) us (true ∷ ms) vs (y ∷ ys) h = ap (λ l. y ∷ l) (deposited_append xs us ms vs ys (omega arith))

-- where a list or the mask ends
beyond : (us vs zs : List Bool) → min (length us) (length vs) ≡ 0 → deposited us vs zs ≡ us
beyond [] vs zs none = refl
beyond (u ∷ us) [] zs none = refl
beyond (u ∷ us) (v ∷ vs) zs none = absurd (omega arith)

-- only as many bits count as the mask has ones
pub deposited_same : (xs ms ys zs : List Bool) → ((j : ℕ) → j < ones ms → get_or ys j false ≡ get_or zs j false) → deposited xs ms ys ≡ deposited xs ms zs
deposited_same [] ms ys zs same = refl
deposited_same (x ∷ xs) [] ys zs same = refl
deposited_same (x ∷ xs) (false ∷ ms) ys zs same = ap (λ l. x ∷ l) (deposited_same xs ms ys zs same)
deposited_same (x ∷ xs) (true ∷ ms) [] [] same = refl
deposited_same (x ∷ xs) (true ∷ ms) [] (z ∷ zs) same = ap (λ b. b ∷ deposited xs ms []) (same 0 (omega arith)) ∙ ap (λ l. z ∷ l) (deposited_same xs ms [] zs (λ j h. same (suc j) (omega arith)))
deposited_same (x ∷ xs) (true ∷ ms) (y ∷ ys) [] same = ap (λ b. b ∷ deposited xs ms ys) (same 0 (omega arith)) ∙ ap (λ l. false ∷ l) (deposited_same xs ms ys [] (λ j h. same (suc j) (omega arith)))
deposited_same (x ∷ xs) (true ∷ ms) (y ∷ ys) (z ∷ zs) same = ap (λ b. b ∷ deposited xs ms ys) (same 0 (omega arith)) ∙ ap (λ l. z ∷ l) (deposited_same xs ms ys zs (λ j h. same (suc j) (omega arith)))

ones_few : (mask : List Bool) → ones mask ≤ length mask
ones_few [] = omega arith
ones_few (true ∷ mask) = let few = ones_few mask in omega arith
ones_few (false ∷ mask) = let few = ones_few mask in omega arith

ones_cons : (m : Bool) (mask : List Bool) → ones (m ∷ mask) ≡ cond m (1 + ones mask) (ones mask)
ones_cons true mask = omega arith
ones_cons false mask = refl

-- the ones of a number
pub ones_of_number : (mask : List Bool) (x : ℕ) → x ≡ number_of mask → count_ones x ≡ ones mask
ones_of_number mask x is =
    ap count_ones (is ∙ ap number_of (sym (map-id mask))) ∙ ones_number (λ b. b) mask ∙ sym (is_count_by ones (λ b. b) refl ones_cons mask)

-- the next bits of a list, as a number
next_bits : (ys : List Bool) (before count taken more bits : ℕ) → count ≤ 64 → taken ≡ min before (length ys) → more ≡ min count (length ys - taken) → bits ≡ number_of (slice_range ys taken (taken + more))
    → (j : ℕ) → j < count → get_or (number_bits bits 64) j false ≡ get_or (drop before ys) j false
unfolding number_bits
next_bits ys before count taken more bits few from most is j below =
    let inside : taken + more ≤ length ys = omega arith in
    let size : length (slice_range ys taken (taken + more)) ≡ more = length-run ys taken more inside in
    get_or-map-range_with_len (has_bit bits) 0 64 j j false (omega arith) (omega arith)
    ∙ ap (λ x. has_bit x j) is ∙ has_number (slice_range ys taken (taken + more)) j
    ∙ elim (cases_lt j more) [
      | inl l ↦
          let there : taken + j ≡ before + j = omega arith in
          get_or-run ys taken more j l ∙ ap (λ k. get_or ys k false) there ∙ sym (get_or-drop before ys j false)
      | inr l ↦
          get_or_past (slice_range ys taken (taken + more)) j false (omega arith)
          ∙ sym (get_or-drop before ys j false ∙ get_or_past ys (before + j) false (omega arith))
    ]

-- the list, written up to an index
abbrev pub written_to : List Bool → List Bool → List Bool → ℕ → List Bool
written_to xs mask ys n = deposited (take n xs) (take n mask) ys

-- a list that stands in a row, up to an index
module _ (old ms ys : List Bool) (head len : ℕ) (room : head + len ≤ length old) where
  abbrev list : List Bool
  list = slice_range old head (head + len)

  size : length list ≡ len
  size = length-run old head len room

  taken_more : (zs : List Bool) (at n : ℕ) → take (at + n) zs ≡ take at zs ++ slice_range zs at (at + n)
  taken_more zs at n =
      let k : n ≡ at + n - at = omega arith in
      take-add at n zs ∙ ap (λ j. take at zs ++ take j (drop at zs)) k

  -- before the first block nothing is written
  pub nothing_done : put old head (written_to list ms ys 0) ≡ old
  nothing_done = put_none old head

  -- one block more deposits its bits
  pub more_done : (at n made taken more bits : ℕ) → at + n ≤ len → at + n ≤ length ms → n ≤ 64 → taken ≡ min (ones (take at ms)) (length ys) → more ≡ min (ones (slice_range ms at (at + n))) (length ys - taken) → bits ≡ number_of (slice_range ys taken (taken + more))
      → number_bits made n ≡ deposited (slice_range list at (at + n)) (slice_range ms at (at + n)) (number_bits bits 64)
      → put (put old head (written_to list ms ys at)) (head + at) (number_bits made n) ≡ put old head (written_to list ms ys (at + n))
  more_done at n made taken more bits inside masked few from most is wrote =
      let a : length (take at list) ≡ at = length-take-le at list (omega (arith, size)) in
      let b : length (take at ms) ≡ at = length-take-le at ms (omega arith) in
      let front : length (written_to list ms ys at) ≡ at = length-deposited (take at list) (take at ms) ys ∙ a in
      let m : List Bool = slice_range ms at (at + n) in
      let x : List Bool = slice_range list at (at + n) in
      let shown : length x ≡ n = length-run list at n (omega (arith, size)) in
      let held : length m ≡ n = length-run ms at n masked in
      let fits = ones_few m in
      let last : number_bits made n ≡ deposited x m (drop (ones (take at ms)) ys) =
      wrote ∙ deposited_same x m (number_bits bits 64) (drop (ones (take at ms)) ys) (next_bits ys (ones (take at ms)) (ones m) taken more bits (omega arith) from most is) in
      let long : length (number_bits made n) ≡ n = ap length last ∙ length-deposited x m (drop (ones (take at ms)) ys) ∙ shown in
      put_joined old (written_to list ms ys at) (number_bits made n) head (head + at) (omega arith) (omega arith)
      ∙ ap (λ l. put old head (written_to list ms ys at ++ l)) last
      ∙ ap (put old head) (sym (deposited_append (take at list) x (take at ms) m ys (a ∙ sym b)))
      ∙ ap (λ l. put old head (deposited l (take at ms ++ m) ys)) (sym (taken_more list at n))
      ∙ ap (λ l. put old head (deposited (take (at + n) list) l ys)) (sym (taken_more ms at n))

  -- how many bits were taken after that
  pub more_taken : (at n taken more : ℕ) → taken ≡ min (ones (take at ms)) (length ys) → more ≡ min (ones (slice_range ms at (at + n))) (length ys - taken) → taken + more ≡ min (ones (take (at + n) ms)) (length ys)
  more_taken at n taken more from most =
      let sum : ones (take (at + n) ms) ≡ ones (take at ms) + ones (slice_range ms at (at + n)) = ap ones (taken_more ms at n) ∙ ones_append (take at ms) (slice_range ms at (at + n)) in
      omega arith

  -- the bits that stand there before
  pub still_there : (at n : ℕ) → at + n ≤ len → at ≤ length ms → slice_range (put old head (written_to list ms ys at)) (head + at) (head + at + n) ≡ slice_range list at (at + n)
  still_there at n inside masked =
      let a : length (take at list) ≡ at = length-take-le at list (omega (arith, size)) in
      let front : length (written_to list ms ys at) ≡ at = length-deposited (take at list) (take at ms) ys ∙ a in
      put_later old (written_to list ms ys at) head (head + at) (head + at + n) (omega arith) (omega arith) (omega arith) (omega arith)
      ∙ shown_part old head len at n inside room

  -- all of it
  pub all_done : (upto : ℕ) → upto ≡ min len (length ms) → put old head (written_to list ms ys upto) ≡ put old head (deposited list ms ys)
  all_done upto is =
      let a : length (take upto list) ≡ upto = length-take-le upto list (omega (arith, size)) in
      let b : length (take upto ms) ≡ upto = length-take-le upto ms (omega arith) in
      let front : length (written_to list ms ys upto) ≡ upto = length-deposited (take upto list) (take upto ms) ys ∙ a in
      let c = length-drop upto list in
      let d = length-drop upto ms in
      let rest : deposited (drop upto list) (drop upto ms) (drop (ones (take upto ms)) ys) ≡ drop upto list = beyond (drop upto list) (drop upto ms) (drop (ones (take upto ms)) ys) (omega (arith, size)) in
      sym (put_kept old (written_to list ms ys upto) head (head + upto) (head + len) (omega arith) (omega arith) room)
      ∙ ap (λ l. put old head (written_to list ms ys upto ++ l)) (sym (rest ∙ rest_of_run old head len upto (omega arith) room))
      ∙ ap (put old head) (sym (deposited_append (take upto list) (drop upto list) (take upto ms) (drop upto ms) ys (a ∙ sym b)))
      ∙ ap (λ l. put old head (deposited l (take upto ms ++ drop upto ms) ys)) (take-append-drop upto list)
      ∙ ap (λ l. put old head (deposited list l ys)) (take-append-drop upto ms)

-- ---- items

none_there : (j : ℕ) → slice_get {X = Bool} [] j ≡ Some true → ⊥
none_there j e = cc

-- where the mask has a one the bit is the other list's
pub masked_copied : (xs mask ys : List Bool) (j : ℕ) → slice_get mask j ≡ Some true → j < length xs → j < length ys → slice_get (masked xs mask ys) j ≡ slice_get ys j
masked_copied [] mask ys j one below there = absurd (omega arith)
masked_copied (x ∷ xs) [] ys j one below there = absurd (none_there j one)
masked_copied (x ∷ xs) (m ∷ mask) [] j one below there = absurd (omega arith)
masked_copied (x ∷ xs) (true ∷ mask) (y ∷ ys) zero one below there = refl
masked_copied (x ∷ xs) (false ∷ mask) (y ∷ ys) zero one below there = cc
masked_copied (x ∷ xs) (m ∷ mask) (y ∷ ys) (suc j) one below there = masked_copied xs mask ys j one (omega arith) (omega arith)

-- where the mask has no one the bit stays
pub masked_kept : (xs mask ys : List Bool) (j : ℕ) → (slice_get mask j ≢ Some true) → slice_get (masked xs mask ys) j ≡ slice_get xs j
masked_kept [] mask ys j zero_there = refl
masked_kept (x ∷ xs) [] ys j zero_there = refl
masked_kept (x ∷ xs) (true ∷ mask) ys zero zero_there = absurd (zero_there refl)
masked_kept (x ∷ xs) (false ∷ mask) [] zero zero_there = refl
masked_kept (x ∷ xs) (false ∷ mask) (y ∷ ys) zero zero_there = refl
masked_kept (x ∷ xs) (m ∷ mask) [] (suc j) zero_there = masked_kept xs mask [] j zero_there
masked_kept (x ∷ xs) (m ∷ mask) (y ∷ ys) (suc j) zero_there = masked_kept xs mask ys j zero_there

-- where the mask has no one a deposit leaves the bit
pub deposited_kept : (xs mask ys : List Bool) (j : ℕ) → (slice_get mask j ≢ Some true) → slice_get (deposited xs mask ys) j ≡ slice_get xs j
deposited_kept [] mask ys j zero_there = refl
deposited_kept (x ∷ xs) [] ys j zero_there = refl
deposited_kept (x ∷ xs) (true ∷ mask) ys zero zero_there = absurd (zero_there refl)
deposited_kept (x ∷ xs) (false ∷ mask) ys zero zero_there = refl
deposited_kept (x ∷ xs) (false ∷ mask) ys (suc j) zero_there = deposited_kept xs mask ys j zero_there
deposited_kept (x ∷ xs) (true ∷ mask) [] (suc j) zero_there = deposited_kept xs mask [] j zero_there
deposited_kept (x ∷ xs) (true ∷ mask) (y ∷ ys) (suc j) zero_there = deposited_kept xs mask ys j zero_there

-- what was written one after another is read back by the mask
pub extracted_back : (xs mask ys : List Bool) → length xs ≡ length mask → ones mask ≡ length ys → items_where_true mask (deposited xs mask ys) ≡ ys
extracted_back [] [] [] same all = refl
extracted_back [] [] (y ∷ ys) same all = absurd (omega arith)
extracted_back [] (m ∷ mask) ys same all = absurd (omega arith)
extracted_back (x ∷ xs) [] ys same all = absurd (omega arith)
extracted_back (x ∷ xs) (false ∷ mask) ys same all = extracted_back xs mask ys (omega arith) all
extracted_back (x ∷ xs) (true ∷ mask) [] same all = absurd (omega arith)
extracted_back (x ∷ xs) (true ∷ mask) (y ∷ ys) same all = ap (λ l. y ∷ l) (extracted_back xs mask ys (omega arith) (omega arith))

-- ---- numbers

deposited_one : (x m : Bool) (zs : List Bool) → deposited (x ∷ []) (m ∷ []) zs ≡ (if m then get_or zs 0 false else x) ∷ []
deposited_one x false zs = refl
deposited_one x true [] = refl
deposited_one x true (z ∷ zs) = refl

ones_one : (mask i : ℕ) → ones (number_bits mask (i + 1)) ≡ ones (number_bits mask i) + ones (has_bit mask i ∷ [])
ones_one mask i = ap ones (number_bits_more mask i) ∙ ones_append (number_bits mask i) (has_bit mask i ∷ [])

-- one bit more
module _ (old mask source number left i : ℕ) (below : i < 64)
    (left_is : (k : ℕ) → has_bit left k ≡ has_bit source (ones (number_bits mask i) + k)) where
  few : ones (number_bits mask i) ≤ i
  few = let a = ones_few (number_bits mask i) in let b = length-number_bits mask i in omega arith

  -- one bit more of a block is deposited, or stays
  pub bit_deposited : (next : ℕ) → number_bits number i ≡ deposited (number_bits old i) (number_bits mask i) (number_bits source 64)
      → number_bits next (i + 1) ≡ number_bits number i ++ (if has_bit mask i then has_bit left 0 else has_bit old i) ∷ []
      → number_bits next (i + 1) ≡ deposited (number_bits old (i + 1)) (number_bits mask (i + 1)) (number_bits source 64)
  unfolding number_bits
  bit_deposited next before wrote =
      let ys : List Bool = number_bits source 64 in
      let k : ℕ = ones (number_bits mask i) in
      let first : get_or (drop k ys) 0 false ≡ has_bit left 0 =
      get_or-drop k ys 0 false ∙ get_or-map-range_with_len (has_bit source) 0 64 (k + 0) (k + 0) false (omega (arith, few, below)) (omega arith) ∙ sym (left_is 0) in
      let size : length (number_bits old i) ≡ length (number_bits mask i) = length-number_bits old i ∙ sym (length-number_bits mask i) in
      wrote
      ∙ ap (λ l. l ++ (if has_bit mask i then has_bit left 0 else has_bit old i) ∷ []) before
      ∙ ap (λ b. deposited (number_bits old i) (number_bits mask i) ys ++ (if has_bit mask i then b else has_bit old i) ∷ []) (sym first)
      ∙ ap (λ l. deposited (number_bits old i) (number_bits mask i) ys ++ l) (sym (deposited_one (has_bit old i) (has_bit mask i) (drop k ys)))
      ∙ sym (deposited_append (number_bits old i) (has_bit old i ∷ []) (number_bits mask i) (has_bit mask i ∷ []) ys size)
      ∙ ap (λ l. deposited l (number_bits mask i ++ has_bit mask i ∷ []) ys) (sym (number_bits_more old i))
      ∙ ap (λ l. deposited (number_bits old (i + 1)) l ys) (sym (number_bits_more mask i))

  -- after a one of the mask the next source bit is the next to deposit
  pub left_after_one : has_bit mask i ≡ true → (k : ℕ) → has_bit (left / 2 ^ 1) k ≡ has_bit source (ones (number_bits mask (i + 1)) + k)
  left_after_one one k =
      let sum : ones (number_bits mask (i + 1)) ≡ ones (number_bits mask i) + 1 = ones_one mask i ∙ ap (λ b. ones (number_bits mask i) + ones (b ∷ [])) one in
      let there : ones (number_bits mask i) + (k + 1) ≡ ones (number_bits mask (i + 1)) + k = omega arith in
      has_shr_low left 1 k ∙ left_is (k + 1) ∙ ap (has_bit source) there

  -- after a zero of the mask the same source bit is the next
  pub left_after_zero : has_bit mask i ≡ false → (k : ℕ) → has_bit left k ≡ has_bit source (ones (number_bits mask (i + 1)) + k)
  left_after_zero none k =
      let sum : ones (number_bits mask (i + 1)) ≡ ones (number_bits mask i) + 0 = ones_one mask i ∙ ap (λ b. ones (number_bits mask i) + ones (b ∷ [])) none in
      let there : ones (number_bits mask i) + k ≡ ones (number_bits mask (i + 1)) + k = omega arith in
      left_is k ∙ ap (has_bit source) there

-- ---- three combinations

-- xor, and-not and xor with the other list write the masked copy
pub written_thrice : (row0 row1 row2 row3 xs first second ms ys : List Bool) (head : ℕ) → head + length xs ≤ length row0
    → row1 ≡ put row0 head (xor_of xs ys) → first ≡ xor_of xs ys
    → row2 ≡ put row1 head (and_not_of first ms) → second ≡ and_not_of first ms
    → row3 ≡ put row2 head (xor_of second ys) → row3 ≡ put row0 head (masked xs ms ys)
written_thrice row0 row1 row2 row3 xs first second ms ys head room one is two cleared three =
    let a : length (xor_of xs ys) ≡ length xs = length-combined (λ x y. if x then not y else y) xs ys in
    let b : length (and_not_of first ms) ≡ length xs = length-combined (λ x y. x && not y) first ms ∙ ap length is ∙ a in
    let made : xor_of second ys ≡ masked xs ms ys = ap (λ l. xor_of l ys) (cleared ∙ ap (λ l. and_not_of l ms) is) ∙ by_three xs ms ys in
    let d : length (masked xs ms ys) ≡ length xs = length-masked xs ms ys in
    let long : length row1 ≡ length row0 = ap length one ∙ length-put row0 (xor_of xs ys) head (omega arith) in
    three ∙ ap (put row2 head) made
    ∙ ap (λ l. put l head (masked xs ms ys)) two ∙ put_again row1 (and_not_of first ms) (masked xs ms ys) head (b ∙ sym d) (omega arith)
    ∙ ap (λ l. put l head (masked xs ms ys)) one ∙ put_again row0 (xor_of xs ys) (masked xs ms ys) head (a ∙ sym d) (omega arith)
