-- What stands in a list after it was reversed, rotated or shifted, read by index.
use Rattle.std.proofs.Common.{◌≡◌, ℕ, ◌+◌, ◌-◌, ◌<◌, ◌≤◌, Bool, false, List, ◌++◌, length, take, drop, reverse, replicate, get_or, Some, slice_get, refl, sym, ◌∙◌, ap, arith}
use Rattle.std.proofs.lemmas.List.{get_or-drop, get_or-take, get_or-reverse, get_or-replicate, get_or_append_left, get_or-append-add, length-append, length-drop, length-take, length-reverse, length-replicate}
use Rattle.std.proofs.lemmas.Option.{slice_get-get_or}

-- an item of the first of two lists, and one of the second
read_first : (xs ys : List Bool) (j : ℕ) → j < length xs → slice_get (xs ++ ys) j ≡ slice_get xs j
read_first xs ys j h =
    slice_get-get_or (xs ++ ys) j false (omega (arith, length-append xs ys, h)) ∙ ap Some (get_or_append_left xs ys false j h) ∙ sym (slice_get-get_or xs j false h)

read_second : (xs ys : List Bool) (n j : ℕ) → length xs ≡ n → j < length ys → slice_get (xs ++ ys) (n + j) ≡ slice_get ys j
read_second xs ys n j e h =
    slice_get-get_or (xs ++ ys) (n + j) false (omega (arith, length-append xs ys, e, h)) ∙ ap (λ k. Some (get_or (xs ++ ys) (k + j) false)) (sym e)
    ∙ ap Some (get_or-append-add xs ys j false) ∙ sym (slice_get-get_or ys j false h)

read_drop : (xs : List Bool) (by j : ℕ) → by + j < length xs → slice_get (drop by xs) j ≡ slice_get xs (by + j)
read_drop xs by j h =
    slice_get-get_or (drop by xs) j false (omega (arith, length-drop by xs, h)) ∙ ap Some (get_or-drop by xs j false) ∙ sym (slice_get-get_or xs (by + j) false h)

read_take : (xs : List Bool) (n j : ℕ) → n ≤ length xs → j < n → slice_get (take n xs) j ≡ slice_get xs j
read_take xs n j fits h =
    slice_get-get_or (take n xs) j false (omega (arith, length-take n xs, fits, h)) ∙ ap Some (get_or-take n xs j false h) ∙ sym (slice_get-get_or xs j false (omega (arith, fits, h)))

-- bit j of a reversed list is the one as far from its end
pub read_reversed : (xs : List Bool) (n j : ℕ) → length xs ≡ n → j < n → slice_get (reverse xs) j ≡ slice_get xs (n - 1 - j)
read_reversed xs n j e h =
    slice_get-get_or (reverse xs) j false (omega (arith, length-reverse xs, e, h)) ∙ ap Some (get_or-reverse xs j false (omega (arith, e, h)))
    ∙ ap (λ k. Some (get_or xs (k - 1 - j) false)) e ∙ sym (slice_get-get_or xs (n - 1 - j) false (omega (arith, e, h)))

-- what follows the first items of a list, and then another list
module _ (xs ys : List Bool) (n by : ℕ) (size : length xs ≡ n) (inside : by ≤ n) where
  -- a list without its first bits, read at j, is the list read later
  pub read_later : (j : ℕ) → j + by < n → slice_get (drop by xs ++ ys) j ≡ slice_get xs (j + by)
  read_later j h =
      let e : by + j ≡ j + by = omega arith in
      read_first (drop by xs) ys j (omega (arith, length-drop by xs, size, h)) ∙ read_drop xs by j (omega (arith, size, h)) ∙ ap (slice_get xs) e

  -- the bits appended to a shortened list are read after it
  pub read_joined : (j : ℕ) → j < length ys → slice_get (drop by xs ++ ys) (n - by + j) ≡ slice_get ys j
  read_joined j h = read_second (drop by xs) ys (n - by) j (omega (arith, length-drop by xs, size)) h

-- rotated: the first `by` items after the others
module _ (xs : List Bool) (n by : ℕ) (size : length xs ≡ n) (inside : by ≤ n) where
  -- a rotated list ends with its first bits
  pub read_turned : (j : ℕ) → j < by → slice_get (drop by xs ++ take by xs) (n - by + j) ≡ slice_get xs j
  read_turned j h = read_joined xs (take by xs) n by size inside j (omega (arith, length-take by xs, size, inside, h)) ∙ read_take xs by j (omega (arith, size, inside)) h

  -- shifted to the front, and to the end
  pub read_emptied : (j : ℕ) → n ≤ j + by → j < n → slice_get (drop by xs ++ replicate by false) j ≡ Some false
  read_emptied j a b =
      let e : j ≡ n - by + (j - (n - by)) = omega (arith, inside, a, b) in
      let below : j - (n - by) < by = omega (arith, inside, a, b) in
      let size_of : length (replicate by false) ≡ by = length-replicate by false in
      ap (slice_get (drop by xs ++ replicate by false)) e ∙ read_joined xs (replicate by false) n by size inside (j - (n - by)) (omega (arith, size_of, below))
      ∙ slice_get-get_or (replicate by false) (j - (n - by)) false (omega (arith, size_of, below)) ∙ ap Some (get_or-replicate by (j - (n - by)) false false below)

  -- a list moved up is read by as many places later
  pub read_shifted : (j : ℕ) → j + by < n → slice_get (replicate by false ++ take (n - by) xs) (j + by) ≡ slice_get xs j
  read_shifted j h =
      let e : j + by ≡ by + j = omega arith in
      ap (slice_get (replicate by false ++ take (n - by) xs)) e
      ∙ read_second (replicate by false) (take (n - by) xs) by j (length-replicate by false) (omega (arith, length-take (n - by) xs, size, h))
      ∙ read_take xs (n - by) j (omega (arith, size)) (omega (arith, h))

  -- the places that were vacated are false
  pub read_cleared : (ys : List Bool) (j : ℕ) → j < by → slice_get (replicate by false ++ ys) j ≡ Some false
  read_cleared ys j h =
      let size_of : length (replicate by false) ≡ by = length-replicate by false in
      read_first (replicate by false) ys j (omega (arith, size_of, h)) ∙ slice_get-get_or (replicate by false) j false (omega (arith, size_of, h)) ∙ ap Some (get_or-replicate by j false false h)

-- the same of a list that is said to be another, as the calls of containers say it
module _ (xs ys : List Bool) where
  -- each index of a reversed list
  pub reversed_at : (j : ℕ) → ys ≡ reverse xs → j < length xs → slice_get ys j ≡ slice_get xs (length xs - 1 - j)
  reversed_at j is h = rw is (read_reversed xs (length xs) j refl h)

  -- an index before the seam of a left rotation
  pub rotated_front : (by j : ℕ) → ys ≡ drop by xs ++ take by xs → by ≤ length xs → j + by < length xs → slice_get ys j ≡ slice_get xs (j + by)
  rotated_front by j is inside h = rw is (read_later xs (take by xs) (length xs) by refl inside j h)

  -- an index after the seam of a left rotation
  pub rotated_back : (by j : ℕ) → ys ≡ drop by xs ++ take by xs → by ≤ length xs → j < by → slice_get ys (length xs - by + j) ≡ slice_get xs j
  rotated_back by j is inside h = rw is (read_turned xs (length xs) by refl inside j h)

  -- an index before the seam of a right rotation
  pub rotated_right_front : (by j : ℕ) → ys ≡ drop (length xs - by) xs ++ take (length xs - by) xs → by ≤ length xs → j < by → slice_get ys j ≡ slice_get xs (length xs - by + j)
  rotated_right_front by j is inside h =
      let e : j + (length xs - by) ≡ length xs - by + j = omega arith in
      rotated_front (length xs - by) j is (omega arith) (omega (arith, inside, h)) ∙ ap (slice_get xs) e

  -- an index after the seam of a right rotation
  pub rotated_right_back : (by j : ℕ) → ys ≡ drop (length xs - by) xs ++ take (length xs - by) xs → by ≤ length xs → j + by < length xs → slice_get ys (j + by) ≡ slice_get xs j
  rotated_right_back by j is inside h =
      let e : j + by ≡ length xs - (length xs - by) + j = omega (arith, inside) in
      ap (slice_get ys) e ∙ rotated_back (length xs - by) j is (omega arith) (omega (arith, inside, h))

  -- an index that a left shift fills from later
  pub shifted_left_at : (by j : ℕ) → ys ≡ drop by xs ++ replicate by false → by ≤ length xs → j + by < length xs → slice_get ys j ≡ slice_get xs (j + by)
  shifted_left_at by j is inside h = rw is (read_later xs (replicate by false) (length xs) by refl inside j h)

  -- an index that a left shift vacates
  pub shifted_left_end : (by j : ℕ) → ys ≡ drop by xs ++ replicate by false → by ≤ length xs → length xs ≤ j + by → j < length xs → slice_get ys j ≡ Some false
  shifted_left_end by j is inside a b = rw is (read_emptied xs (length xs) by refl inside j a b)

  -- an index that a right shift fills from earlier
  pub shifted_right_at : (by j : ℕ) → ys ≡ replicate by false ++ take (length xs - by) xs → by ≤ length xs → j + by < length xs → slice_get ys (j + by) ≡ slice_get xs j
  shifted_right_at by j is inside h = rw is (read_shifted xs (length xs) by refl inside j h)

  -- an index that a right shift vacates
  pub shifted_right_front : (by j : ℕ) → ys ≡ replicate by false ++ take (length xs - by) xs → by ≤ length xs → j < by → slice_get ys j ≡ Some false
  shifted_right_front by j is inside h = rw is (read_cleared xs (length xs) by refl inside (take (length xs - by) xs) j h)
