-- Runs of a row that are reversed and rotated.
use Rattle.std.proofs.Common.{◌≡◌, ℕ, ◌+◌, ◌-◌, ◌*◌, ◌<◌, ◌≤◌, Bool, false, List, ◌++◌, length, take, drop, reverse, replicate, get_or, slice_range, refl, sym, ◌∙◌, ap, subst, inl, inr, arith, rules}
use Rattle.std.proofs.lemmas.Bool.{cases_lt}
use Rattle.std.proofs.lemmas.List.{ext_get_or, get_or-reverse, length-reverse, same_lists, places, length-append, length-take, length-drop, length-replicate}
use Rattle.std.proofs.lemmas.List.FromFn.{get_or-map-range_with_len}
use Rattle.bit_addressing.specs.Bits.{has_bit}
use Rattle.bit_addressing.specs.Row.{put, moved, binary, number_bits, row_of}
use Rattle.bit_rows.proofs.Binary.{length-number_bits}
use Rattle.bit_addressing.proofs.Rows.{length-row_of}
use Rattle.bit_addressing.proofs.lists.Put.{length-put, put_before, put_inside, put_after, put_joined}
use Rattle.bit_addressing.proofs.lists.Shown.{length-run, get_or-run}
use Rattle.bit_addressing.proofs.Shifts.{put_moved}
use Rattle.bit_slice.proofs.Shown.{shown_filled}
use Rattle.bit_slice.proofs.Combining.{rest_of_run}
use Rattle.bit_addressing.proofs.lists.Shown.{shows_fewer}

-- ---- a number's bits, read as digits and written as places

-- a bit of a number read with its first digit highest, counted from the end
pub turned_bit : (x n at i : ℕ) (zs : List Bool) → binary n x ≡ slice_range zs at (at + n) → i < n → get_or (number_bits x n) i false ≡ get_or zs (at + (n - 1 - i)) false
unfolding binary number_bits
turned_bit x n at i zs is h =
    let e : n - 1 - (n - 1 - i) ≡ i = omega arith in
    get_or-map-range_with_len (has_bit x) 0 n i i false (omega arith) (omega arith)
    ∙ ap (has_bit x) (sym e)
    ∙ sym (get_or-map-range_with_len (λ k. has_bit x (n - 1 - k)) 0 n (n - 1 - i) (n - 1 - i) false (omega arith) (omega arith))
    ∙ ap (λ l. get_or l (n - 1 - i) false) is ∙ get_or-run zs at n (n - 1 - i) (omega arith)

-- an item of a run that is reversed
pub reversed_item : (zs : List Bool) (at n i : ℕ) → at + n ≤ length zs → i < n → get_or (reverse (slice_range zs at (at + n))) i false ≡ get_or zs (at + (n - 1 - i)) false
reversed_item zs at n i room h =
    let b : length (slice_range zs at (at + n)) ≡ n = length-run zs at n room in
    let e : length (slice_range zs at (at + n)) - 1 - i ≡ n - 1 - i = omega (arith, b) in
    get_or-reverse (slice_range zs at (at + n)) i false (omega (arith, b)) ∙ ap (λ k. get_or (slice_range zs at (at + n)) k false) e ∙ get_or-run zs at n (n - 1 - i) (omega arith)

-- the number's bits are those digits reversed
pub turned_number : (x n at : ℕ) (zs : List Bool) → at + n ≤ length zs → binary n x ≡ slice_range zs at (at + n) → number_bits x n ≡ reverse (slice_range zs at (at + n))
turned_number x n at zs room is =
    let a = length-number_bits x n in
    let b : length (slice_range zs at (at + n)) ≡ n = length-run zs at n room in
    let d : length (reverse (slice_range zs at (at + n))) ≡ n = length-reverse (slice_range zs at (at + n)) ∙ b in
    ext_get_or false (number_bits x n) (reverse (slice_range zs at (at + n))) (a ∙ sym d)
    (λ i h. turned_bit x n at i zs is (omega (arith, a)) ∙ sym (reversed_item zs at n i room (omega (arith, a))))

-- ---- a run that is reversed from both ends

-- zs is xs with the items of a run reversed that are before low or from high on
pub record IsTurned (xs zs : List Bool) (head len low high : ℕ) : Type 0 where
  pub begins : head ≤ low
  pub ordered : low ≤ high
  pub middle : low + high ≡ head + (head + len)
  pub size : length zs ≡ length xs
  pub front : (j : ℕ) → head ≤ j → j < low → get_or zs j false ≡ get_or xs (head + (head + len) - 1 - j) false
  pub back : (j : ℕ) → high ≤ j → j < head + len → get_or zs j false ≡ get_or xs (head + (head + len) - 1 - j) false
  pub inner : (j : ℕ) → low ≤ j → j < high → get_or zs j false ≡ get_or xs j false
  pub before : (j : ℕ) → j < head → get_or zs j false ≡ get_or xs j false
  pub after : (j : ℕ) → head + len ≤ j → get_or zs j false ≡ get_or xs j false

-- before the first exchange nothing is turned
pub turned_none : (xs : List Bool) (head len : ℕ) → IsTurned xs xs head len head (head + len)
turned_none xs head len = record {
  begins = omega arith;
  ordered = omega arith;
  middle = omega arith;
  size = refl;
  front = λ j a b. absurd (omega arith);
  back = λ j a b. absurd (omega arith);
  inner = λ j a b. refl;
  before = λ j a. refl;
  after = λ j a. refl;
}

module _ (xs zs : List Bool) (head len low high n : ℕ) (t : IsTurned xs zs head len low high) (few : n + n ≤ high - low) (room : head + len ≤ length xs) where
  abbrev upper_run : List Bool
  upper_run = reverse (slice_range zs (high - n) (high - n + n))

  abbrev lower_run : List Bool
  lower_run = reverse (slice_range zs low (low + n))

  abbrev one : List Bool
  one = put zs low upper_run

  abbrev both : List Bool
  both = put one (high - n) lower_run

  inside : high ≤ length zs
  inside = let s = t.size in let m = t.middle in let o = t.ordered in let g = t.begins in omega (arith, s, m, o, g, room)

  length-upper : length upper_run ≡ n
  length-upper = length-reverse (slice_range zs (high - n) (high - n + n)) ∙ length-run zs (high - n) n (omega (arith, inside, few))

  length-lower : length lower_run ≡ n
  length-lower = length-reverse (slice_range zs low (low + n)) ∙ length-run zs low n (omega (arith, inside, few))

  length-one : length one ≡ length zs
  length-one = let b = length-upper in let s = t.size in let m = t.middle in let o = t.ordered in length-put zs upper_run low (omega (arith, b, s, m, o, few, room))

  -- one exchange more turns its bits at both ends
  pub turned_more : IsTurned xs both head len (low + n) (high - n)
  turned_more =
      let b = length-upper in
      let d = length-lower in
      let s = t.size in
      let m = t.middle in
      let o = t.ordered in
      let g = t.begins in
      let e = length-one in
      let lower : (j : ℕ) → j < high - n → get_or both j false ≡ get_or one j false = λ j l. put_before one lower_run (high - n) j false (omega (arith, e, inside)) l in
      let upper : (j : ℕ) → high ≤ j → get_or both j false ≡ get_or zs j false = λ j l.
      put_after one lower_run (high - n) j false (omega (arith, d, e, inside, few, l)) (omega (arith, d, few, l))
      ∙ put_after zs upper_run low j false (omega (arith, b, inside, few, l)) (omega (arith, b, few, l)) in
      record {
        begins = omega arith;
        ordered = omega arith;
        middle = omega arith;
        size = length-put one lower_run (high - n) (omega (arith, d, e, inside, few)) ∙ e ∙ s;
        front = λ j a l. elim (cases_lt j low) [
          | inl k ↦ lower j (omega arith) ∙ put_before zs upper_run low j false (omega arith) k ∙ t.front j a k
          | inr k ↦
              let at : high - n + (n - 1 - (j - low)) ≡ head + (head + len) - 1 - j = omega arith in
              lower j (omega arith) ∙ put_inside zs upper_run low j false (omega arith) k (omega (arith, b))
              ∙ reversed_item zs (high - n) n (j - low) (omega (arith, inside, few)) (omega arith) ∙ t.inner (high - n + (n - 1 - (j - low))) (omega arith) (omega arith) ∙ ap (λ i. get_or xs i false) at
        ];
        back = λ j a l. elim (cases_lt j high) [
          | inl k ↦
              let at : low + (n - 1 - (j - (high - n))) ≡ head + (head + len) - 1 - j = omega arith in
              put_inside one lower_run (high - n) j false (omega (arith, e, inside)) a (omega (arith, d, k, few))
              ∙ reversed_item zs low n (j - (high - n)) (omega (arith, inside, few)) (omega (arith, a, k, few)) ∙ t.inner (low + (n - 1 - (j - (high - n)))) (omega arith) (omega (arith, few, a, k)) ∙ ap (λ i. get_or xs i false) at
          | inr k ↦ upper j k ∙ t.back j k l
        ];
        inner = λ j a l. lower j l ∙ put_after zs upper_run low j false (omega (arith, b, inside, few)) (omega (arith, b, a)) ∙ t.inner j (omega arith) (omega (arith, l));
        before = λ j a. lower j (omega arith) ∙ put_before zs upper_run low j false (omega arith) (omega arith) ∙ t.before j a;
        after = λ j a. upper j (omega arith) ∙ t.after j a;
      }

-- the same ends, written otherwise
pub turned_to : (xs zs : List Bool) (head len low high l h : ℕ) → low ≡ l → high ≡ h → IsTurned xs zs head len low high → IsTurned xs zs head len l h
turned_to xs zs head len low high l h el eh t = subst (λ n. IsTurned xs zs head len n h) el (subst (IsTurned xs zs head len low) eh t)

-- once the ends meet the whole run is reversed
pub turned_all : (xs zs : List Bool) (head len low high : ℕ) → IsTurned xs zs head len low high → high - low ≤ 1 → head + len ≤ length xs → zs ≡ put xs head (reverse (slice_range xs head (head + len)))
turned_all xs zs head len low high t few room =
    let ms : List Bool = slice_range xs head (head + len) in
    let a : length ms ≡ len = length-run xs head len room in
    let b : length (reverse ms) ≡ len = length-reverse ms ∙ a in
    let c : length (put xs head (reverse ms)) ≡ length xs = length-put xs (reverse ms) head (omega (arith, b, room)) in
    let s = t.size in
    let m = t.middle in
    let o = t.ordered in
    let g = t.begins in
    ext_get_or false zs (put xs head (reverse ms)) (s ∙ sym c)
    (λ j h. elim (cases_lt j head) [
      | inl k ↦ t.before j k ∙ sym (put_before xs (reverse ms) head j false (omega arith) k)
      | inr k ↦ elim (cases_lt j (head + len)) [
        | inl l ↦
            let at : head + (length ms - 1 - (j - head)) ≡ head + (head + len) - 1 - j = omega (arith, a, k, l) in
            let there : get_or (put xs head (reverse ms)) j false ≡ get_or xs (head + (head + len) - 1 - j) false =
            put_inside xs (reverse ms) head j false (omega arith) k (omega (arith, b, l)) ∙ get_or-reverse ms (j - head) false (omega (arith, a, k, l))
            ∙ get_or-run xs head len (length ms - 1 - (j - head)) (omega (arith, a, k, l)) ∙ ap (λ i. get_or xs i false) at in
            elim (cases_lt j low) [
              | inl p ↦ t.front j k p ∙ sym there
              | inr p ↦ elim (cases_lt j high) [
                | inl q ↦ let own : j ≡ head + (head + len) - 1 - j = omega (arith, p, q, few, m) in t.inner j p q ∙ ap (λ i. get_or xs i false) own ∙ sym there
                | inr q ↦ t.back j q l ∙ sym there
              ]
            ]
        | inr l ↦ t.after j l ∙ sym (put_after xs (reverse ms) head j false (omega (arith, b, room)) (omega (arith, b, l)))
      ]
    ])

-- a rotation keeps the length
pub rotated_length : (xs : List Bool) (by : ℕ) → by ≤ length xs → length (drop by xs ++ take by xs) ≡ length xs
rotated_length xs by h = omega (arith, length-append (drop by xs) (take by xs), length-drop by xs, length-take by xs)

-- ---- two runs, side by side, the second written first

-- two adjoining parts put in either order are one part put
pub put_front : (xs ys zs : List Bool) (d n : ℕ) → n ≡ d + length ys → n + length zs ≤ length xs → put (put xs n zs) d ys ≡ put xs d (ys ++ zs)
unfolding put
put_front xs ys zs d n is room = same_lists _ _ (search (rules, places)) (λ i e below. grind (arith, places))

-- ---- shifted runs

module _ (xs : List Bool) (head len by : ℕ) (inside : by ≤ len) (room : head + len ≤ length xs) where
  -- the run's rest moved to its front, and as many bits as left it written after that
  pub moved_front : (ys : List Bool) → length ys ≡ by → put (moved xs (head + by) head (len - by)) (head + (len - by)) ys ≡ put xs head (drop by (slice_range xs head (head + len)) ++ ys)
  moved_front ys count =
      let n : ℕ = len - by in
      let end : head + by + n ≡ head + len = omega arith in
      let size : length (slice_range xs (head + by) (head + by + n)) ≡ n = length-run xs (head + by) n (omega arith) in
      ap (λ l. put l (head + n) ys) (sym (put_moved xs (head + by) head n (omega arith) (omega arith)))
      ∙ put_joined xs (slice_range xs (head + by) (head + by + n)) ys head (head + n) (omega (arith, size)) (omega (arith, count))
      ∙ ap (λ l. put xs head (l ++ ys)) (ap (slice_range xs (head + by)) end ∙ sym (rest_of_run xs head len by inside room))

  -- the run's front moved to its end, and as many bits as left it written before that
  pub moved_back : (ys : List Bool) → length ys ≡ by → put (moved xs head (head + by) (len - by)) head ys ≡ put xs head (ys ++ take (len - by) (slice_range xs head (head + len)))
  moved_back ys count =
      let n : ℕ = len - by in
      let size : length (slice_range xs head (head + n)) ≡ n = length-run xs head n (omega arith) in
      ap (λ l. put l head ys) (sym (put_moved xs head (head + by) n (omega arith) (omega arith)))
      ∙ put_front xs ys (slice_range xs head (head + n)) head (head + by) (omega (arith, count)) (omega (arith, size))
      ∙ ap (λ l. put xs head (ys ++ l)) (shows_fewer xs head n len (omega arith) room)

  -- a move down and false bits at the end are the left shift
  pub shifted_left : put (moved xs (head + by) head (len - by)) (head + (len - by)) (replicate (head + len - (head + (len - by))) false) ≡ put xs head (drop by (slice_range xs head (head + len)) ++ replicate by false)
  shifted_left =
      let count : head + len - (head + (len - by)) ≡ by = omega arith in
      ap (λ k. put (moved xs (head + by) head (len - by)) (head + (len - by)) (replicate k false)) count ∙ moved_front (replicate by false) (length-replicate by false)

  -- a move up and false bits at the front are the right shift
  pub shifted_right : put (moved xs head (head + by) (len - by)) head (replicate (head + by - head) false) ≡ put xs head (replicate by false ++ take (len - by) (slice_range xs head (head + len)))
  shifted_right =
      let count : head + by - head ≡ by = omega arith in
      ap (λ k. put (moved xs head (head + by) (len - by)) head (replicate k false)) count ∙ moved_back (replicate by false) (length-replicate by false)

-- bits kept in words of 64 are read back
pub kept_back : (place : ℕ → ℕ → ℕ) (words : List ℕ) (ys : List Bool) (at n : ℕ) → length ys ≡ n → at + n ≤ 64 * length words → slice_range (put (row_of place 64 words) at ys) at (at + n) ≡ ys
kept_back place words ys at n size room =
    let all : length (row_of place 64 words) ≡ 64 * length words = length-row_of place 64 words in
    shown_filled (row_of place 64 words) ys at n (sym size) (omega arith)
