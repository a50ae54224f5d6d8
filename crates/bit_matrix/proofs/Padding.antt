-- The bits of a matrix without the padding of its rows.
use Rattle.std.proofs.Common.{◌≡◌, ◌≢◌, ℕ, zero, suc, ◌+◌, ◌-◌, ◌*◌, ◌/◌, ◌%◌, ◌<◌, ◌≤◌, Bool, true, false, not, List, [], Some, length, replicate, set, get_or, slice_get, slice_range, refl, sym, ◌∙◌, ap, subst, inl, inr, arith}
use Rattle.std.specs.Prelude.{◌⊎◌, ◌↔◌}
use Rattle.std.proofs.lemmas.Bool.{cases_lt, cases_eq, true≢false}
use Rattle.std.proofs.lemmas.List.{get_or_append_left, get_or-append_right, get_or_default, get_or-replicate, get_or-set_other, get_or-set_same, length-append, length-replicate, length-set, nil_from_length, same_lists}
use Rattle.std.proofs.Math.Nat.{div-lt_iff_lt-mul, mul-le-mul_right}
use Rattle.std.proofs.lemmas.Nat.{div-add-mod'}
use Rattle.bit_addressing.specs.declared.length.TheConstants.{MAX_BITS}
use Rattle.bit_addressing.specs.Row.{moved, put}
use Rattle.bit_addressing.proofs.lists.Shown.{get_or-run, length-run}
use Rattle.bit_slice.specs.Comparisons.{bits_equal, equal_lists}
use Rattle.bit_slice.specs.Operators.{combined}
use Rattle.bit_slice.proofs.Combining.{length-combined}
use Rattle.bit_slice.proofs.Ranges.{item_combined}
use Rattle.bit_matrix.specs.Matrix.{IsGrid, padded, unpadded}
use Rattle.bit_matrix.proofs.Grids.{bit_left, other_place, part_kept, part_put, place_apart, place_inside, row_inside, row_some}

-- ---- rows and their padding

-- a row fits between its start and that of the next
pub wide : (rows columns stride start size : ℕ) → IsGrid rows columns stride start size → 0 < rows → columns ≤ stride
wide rows columns stride start size is some = let w = is.wide some in omega arith

-- the bit in row i and column j lies in the padded list
pub place_padded : (rows columns stride start size i j : ℕ) → IsGrid rows columns stride start size → i < rows → j < columns → i * stride + j < size
place_padded rows columns stride start size i j is row column =
    let w = wide rows columns stride start size is (omega arith) in
    let p = place_inside rows stride i j row (omega arith) in
    let c = is.count in
    omega arith

-- a row lies in the padded list
pub row_padded : (rows columns stride start size i : ℕ) → IsGrid rows columns stride start size → i < rows → i * stride + columns ≤ size
row_padded rows columns stride start size i is row =
    let w = wide rows columns stride start size is (omega arith) in
    let p = row_inside rows stride i row in
    let c = is.count in
    omega arith

-- a row begins with a word
pub row_aligned : (rows columns stride start size i : ℕ) → IsGrid rows columns stride start size → i < rows → (start + i * stride) % 64 ≡ 0
row_aligned rows columns stride start size i is row =
    let words : ℕ = (columns + 63) / 64 in
    let w : stride ≡ 64 * words = is.wide (omega arith) in
    let a = is.aligned in
    let line : i * stride ≡ i * (64 * words) = ap (λ k. i * k) w in
    omega arith

-- ---- the list without padding

module _ (xs : List Bool) (rows columns stride : ℕ) (size : length xs ≡ rows * stride) (room : 0 < rows → columns ≤ stride) where
  length_first : (n : ℕ) → n ≤ rows → length (unpadded n columns stride xs) ≡ n * columns
  unfolding unpadded
  length_first zero few = omega arith
  length_first (suc n) few =
      let r = room (omega arith) in
      let up = row_inside rows stride n (omega arith) in
      length-append (unpadded n columns stride xs) (slice_range xs (n * stride) (n * stride + columns))
      ∙ ap (λ k. k + length (slice_range xs (n * stride) (n * stride + columns))) (length_first n (omega arith))
      ∙ ap (λ k. n * columns + k) (length-run xs (n * stride) columns (omega arith))
      ∙ omega arith

  -- without padding the bits are rows times columns
  pub length_unpadded : length (unpadded rows columns stride xs) ≡ rows * columns
  length_unpadded = length_first rows (omega arith)

  item_first : (n i j : ℕ) → n ≤ rows → i < n → j < columns → get_or (unpadded n columns stride xs) (i * columns + j) false ≡ get_or xs (i * stride + j) false
  unfolding unpadded
  item_first zero i j few below inside = absurd (omega arith)
  item_first (suc n) i j few below inside =
      let long = length_first n (omega arith) in
      let last : List Bool = slice_range xs (n * stride) (n * stride + columns) in
      elim (cases_lt i n) [
        | inl less ↦
            let place = place_inside n columns i j less inside in
            get_or_append_left (unpadded n columns stride xs) last false (i * columns + j) (omega arith) ∙ item_first n i j (omega arith) less inside
        | inr up ↦
            let same : i ≡ n = omega arith in
            let line : i * columns ≡ n * columns = ap (λ k. k * columns) same in
            let back : i * columns + j - n * columns ≡ j = omega arith in
            get_or-append_right (unpadded n columns stride xs) last (n * columns) (i * columns + j) false long (omega arith)
            ∙ ap (λ k. get_or last k false) back ∙ get_or-run xs (n * stride) columns j inside
            ∙ ap (λ k. get_or xs (k * stride + j) false) (sym same)
      ]

  -- the bit in row i and column j
  pub item_unpadded : (i j : ℕ) → i < rows → j < columns → get_or (unpadded rows columns stride xs) (i * columns + j) false ≡ get_or xs (i * stride + j) false
  item_unpadded i j row inside = item_first rows i j (omega arith) row inside

  -- row i
  pub row_unpadded : (i : ℕ) → i < rows → slice_range (unpadded rows columns stride xs) (i * columns) (i * columns + columns) ≡ slice_range xs (i * stride) (i * stride + columns)
  row_unpadded i row =
      let r = room (omega arith) in
      let long = length_unpadded in
      let up = row_inside rows stride i row in
      let here = length-run (unpadded rows columns stride xs) (i * columns) columns (let u = row_inside rows columns i row in omega arith) in
      let there = length-run xs (i * stride) columns (omega arith) in
      same_lists _ _ (here ∙ sym there) (λ k d below.
      let inside : k < columns = omega arith in
      get_or_default (slice_range (unpadded rows columns stride xs) (i * columns) (i * columns + columns)) k d false below
      ∙ get_or-run (unpadded rows columns stride xs) (i * columns) columns k inside
      ∙ item_unpadded i k row inside
      ∙ sym (get_or-run xs (i * stride) columns k inside)
      ∙ get_or_default (slice_range xs (i * stride) (i * stride + columns)) k false d (omega arith))

-- the same for the bits that a grid holds
pub length_grid : (xs : List Bool) (rows columns stride start : ℕ) → IsGrid rows columns stride start (length xs) → length (unpadded rows columns stride xs) ≡ rows * columns
length_grid xs rows columns stride start is = length_unpadded xs rows columns stride is.count (wide rows columns stride start (length xs) is)

-- a bit of a row with its padding
pub item_padded : (xs : List Bool) (rows columns stride start i j : ℕ) → IsGrid rows columns stride start (length xs) → i < rows → j < columns → get_or (slice_range xs (i * stride) (i * stride + stride)) j false ≡ get_or (unpadded rows columns stride xs) (i * columns + j) false
item_padded xs rows columns stride start i j is row inside =
    let room = wide rows columns stride start (length xs) is in
    let r = room (omega arith) in
    get_or-run xs (i * stride) stride j (omega arith) ∙ sym (item_unpadded xs rows columns stride is.count room i j row inside)

-- what a row shows at a column
pub row_shows : (xs : List Bool) (rows columns stride start i j : ℕ) → IsGrid rows columns stride start (length xs) → i < rows → j < columns → slice_get (slice_range xs (i * stride) (i * stride + columns)) j ≡ Some (get_or (unpadded rows columns stride xs) (i * columns + j) false)
row_shows xs rows columns stride start i j is row inside =
    let room = wide rows columns stride start (length xs) is in
    let within = row_padded rows columns stride start (length xs) i is row in
    row_some xs (i * stride) columns (i * stride + columns) j refl within inside ∙ ap Some (sym (item_unpadded xs rows columns stride is.count room i j row inside))

-- two lists of rows whose bits are equal are equal
pub same_rows : (xs ys : List Bool) (rows columns : ℕ) → length xs ≡ rows * columns → length ys ≡ rows * columns → ((i j : ℕ) → i < rows → j < columns → get_or xs (i * columns + j) false ≡ get_or ys (i * columns + j) false) → xs ≡ ys
same_rows xs ys rows columns long as_long items =
    same_lists xs ys (long ∙ sym as_long) (λ k d below.
    let within : k < rows * columns = omega arith in
    let some : 0 < columns = elim (cases_lt 0 columns) [ inl s ↦ s | inr none ↦ (let e : columns ≡ 0 = omega arith in let z : rows * columns ≡ rows * 0 = ap (λ c. rows * c) e in absurd (omega arith)) ] in
    let row : k / columns < rows = (div-lt_iff_lt-mul some).1 within in
    let column : k % columns < columns = omega arith in
    let place : k / columns * columns + k % columns ≡ k = div-add-mod' k columns in
    get_or_default xs k d false below
    ∙ ap (λ p. get_or xs p false) (sym place)
    ∙ items (k / columns) (k % columns) row column
    ∙ ap (λ p. get_or ys p false) place
    ∙ get_or_default ys k false d (omega arith))

-- ---- what calls make of it

-- an index among rows of one width is one among rows of another width
same_place : (a b i j columns stride : ℕ) → b < columns → j < columns → a * columns + b ≡ i * columns + j → a * stride + b ≡ i * stride + j
same_place a b i j columns stride inside within same = elim (cases_eq a i) [
  | inl is ↦
      let line : a * columns ≡ i * columns = ap (λ k. k * columns) is in
      let wider : a * stride ≡ i * stride = ap (λ k. k * stride) is in
      omega arith
  | inr other ↦ absurd (other_place a b i j columns inside within (inl other) same)
]

-- one bit written
pub set_unpadded : (xs : List Bool) (rows columns stride start i j : ℕ) (bit : Bool) → IsGrid rows columns stride start (length xs) → i < rows → j < columns
    → unpadded rows columns stride (set xs (i * stride + j) bit) ≡ set (unpadded rows columns stride xs) (i * columns + j) bit
set_unpadded xs rows columns stride start i j bit is row column =
    let room = wide rows columns stride start (length xs) is in
    let long = length_unpadded xs rows columns stride is.count room in
    let as_many : length (set xs (i * stride + j) bit) ≡ rows * stride = length-set xs (i * stride + j) bit ∙ is.count in
    let r = room (omega arith) in
    let here = place_inside rows columns i j row column in
    let there = place_padded rows columns stride start (length xs) i j is row column in
    same_rows _ _ rows columns
    (length_unpadded (set xs (i * stride + j) bit) rows columns stride as_many room)
    (length-set (unpadded rows columns stride xs) (i * columns + j) bit ∙ long)
    (λ a b tall inside.
    item_unpadded (set xs (i * stride + j) bit) rows columns stride as_many room a b tall inside
    ∙ elim (cases_eq (a * columns + b) (i * columns + j)) [
      | inl same ↦
          let line : a * stride + b ≡ i * stride + j = same_place a b i j columns stride inside column same in
          ap (λ k. get_or (set xs (i * stride + j) bit) k false) line
          ∙ get_or-set_same xs (i * stride + j) bit false there
          ∙ sym (get_or-set_same (unpadded rows columns stride xs) (i * columns + j) bit false (omega arith))
          ∙ ap (λ k. get_or (set (unpadded rows columns stride xs) (i * columns + j) bit) k false) (sym same)
      | inr other ↦
          get_or-set_other xs (i * stride + j) (a * stride + b) bit false (λ e. other (same_place a b i j stride columns (omega arith) (omega arith) e))
          ∙ sym (item_unpadded xs rows columns stride is.count room a b tall inside)
          ∙ sym (get_or-set_other (unpadded rows columns stride xs) (i * columns + j) (a * columns + b) bit false other)
    ])

-- the bits of a matrix in which one was written
module _ (xs now : List Bool) (rows columns stride start i j : ℕ) (bit : Bool) (is : IsGrid rows columns stride start (length xs)) (row : i < rows) (column : j < columns) (made : now ≡ set xs (i * stride + j) bit) where
  -- setting a bit of the padded row sets it in the grid
  pub bits_set : unpadded rows columns stride now ≡ set (unpadded rows columns stride xs) (i * columns + j) bit
  bits_set = ap (unpadded rows columns stride) made ∙ set_unpadded xs rows columns stride start i j bit is row column

  -- the item that was set is the new bit
  pub item_set : get_or (unpadded rows columns stride now) (i * columns + j) false ≡ bit
  item_set =
      let long = length_unpadded xs rows columns stride is.count (wide rows columns stride start (length xs) is) in
      let here = place_inside rows columns i j row column in
      ap (λ l. get_or l (i * columns + j) false) bits_set ∙ get_or-set_same (unpadded rows columns stride xs) (i * columns + j) bit false (omega arith)

  -- another item stays
  pub item_not_set : (a b : ℕ) → b < columns → (a ≢ i) ⊎ (b ≢ j) → get_or (unpadded rows columns stride now) (a * columns + b) false ≡ get_or (unpadded rows columns stride xs) (a * columns + b) false
  item_not_set a b inside apart =
      ap (λ l. get_or l (a * columns + b) false) bits_set
      ∙ get_or-set_other (unpadded rows columns stride xs) (i * columns + j) (a * columns + b) bit false (other_place a b i j columns inside column apart)

-- no bit written
pub zeros_unpadded : (rows columns stride start : ℕ) → IsGrid rows columns stride start (rows * stride) → unpadded rows columns stride (replicate (rows * stride) false) ≡ replicate (rows * columns) false
zeros_unpadded rows columns stride start is =
    let room = wide rows columns stride start (rows * stride) is in
    let size = length-replicate (rows * stride) false in
    same_rows _ _ rows columns (length_unpadded (replicate (rows * stride) false) rows columns stride size room) (length-replicate (rows * columns) false)
    (λ i j row column.
    item_unpadded (replicate (rows * stride) false) rows columns stride size room i j row column
    ∙ get_or-replicate (rows * stride) (i * stride + j) false false (place_padded rows columns stride start (rows * stride) i j is row column)
    ∙ sym (get_or-replicate (rows * columns) (i * columns + j) false false (place_inside rows columns i j row column)))

-- a part of a row in whose place other bits were put
module _ (xs now ys : List Bool) (rows columns stride start row column count at : ℕ) (is : IsGrid rows columns stride start (length xs)) (kept : length now ≡ length xs) (inside : row < rows) (within : column + count ≤ stride) (many : length ys ≡ count) (begins : at ≡ row * stride + column)
    (made : now ≡ put xs at ys) where
  -- inside the written part of a padded row the bits are those written
  pub part_written : (j : ℕ) → j < count → column + j < columns → get_or (unpadded rows columns stride now) (row * columns + (column + j)) false ≡ get_or ys j false
  part_written j below short =
      item_unpadded now rows columns stride (kept ∙ is.count) (wide rows columns stride start (length xs) is) row (column + j) inside short
      ∙ ap (λ l. get_or l (row * stride + (column + j)) false) made
      ∙ part_put xs ys rows stride row column count at is.count inside within many begins j below

  -- outside the written part of a padded row the bits stay
  pub part_unwritten : (i j : ℕ) → i < rows → j < columns → (i ≢ row) ⊎ ((j < column) ⊎ (column + count ≤ j)) → get_or (unpadded rows columns stride now) (i * columns + j) false ≡ get_or (unpadded rows columns stride xs) (i * columns + j) false
  part_unwritten i j tall short apart =
      let room = wide rows columns stride start (length xs) is in
      let r = room (omega arith) in
      item_unpadded now rows columns stride (kept ∙ is.count) room i j tall short
      ∙ ap (λ l. get_or l (i * stride + j) false) made
      ∙ part_kept xs ys rows stride row column count at is.count inside within many begins i j (omega arith) apart
      ∙ sym (item_unpadded xs rows columns stride is.count room i j tall short)

-- a row that was combined with other bits, with its padding
module _ (f : Bool → Bool → Bool) (xs now ys : List Bool) (rows columns stride start into n : ℕ) (is : IsGrid rows columns stride start (length xs)) (kept : length now ≡ length xs) (row : into < rows) (all : n ≡ stride)
    (made : now ≡ put xs (into * stride) (combined f (slice_range xs (into * stride) (into * stride + n)) ys)) where
  run : List Bool
  run = slice_range xs (into * stride) (into * stride + n)

  run_long : length run ≡ n
  unfolding run
  run_long = let up = row_inside rows stride into row in let c = is.count in length-run xs (into * stride) n (omega arith)

  many : length (combined f run ys) ≡ n
  many = length-combined f run ys ∙ run_long

  run_item : (k : ℕ) → k < n → get_or run k false ≡ get_or xs (into * stride + k) false
  unfolding run
  run_item k below = get_or-run xs (into * stride) n k below

  put_run : now ≡ put xs (into * stride) (combined f run ys)
  unfolding run
  put_run = made

  -- each bit of the combined row is the function of both
  pub row_combined : (j : ℕ) → j < columns → get_or (unpadded rows columns stride now) (into * columns + j) false ≡ f (get_or (unpadded rows columns stride xs) (into * columns + j) false) (get_or ys j false)
  row_combined j inside =
      let room = wide rows columns stride start (length xs) is in
      let r = room (omega arith) in
      let long = run_long in
      let from : into * columns + j ≡ into * columns + (0 + j) = omega arith in
      ap (λ k. get_or (unpadded rows columns stride now) k false) from
      ∙ part_written xs now (combined f run ys) rows columns stride start into 0 n (into * stride) is kept row (omega arith) many (omega arith) put_run j (omega arith) (omega arith)
      ∙ item_combined f run ys j (omega arith)
      ∙ ap (λ b. f b (get_or ys j false)) (run_item j (omega arith) ∙ sym (item_unpadded xs rows columns stride is.count room into j row inside))

  -- the other rows stay as a row is combined
  pub row_uncombined : (i j : ℕ) → i < rows → j < columns → i ≢ into → get_or (unpadded rows columns stride now) (i * columns + j) false ≡ get_or (unpadded rows columns stride xs) (i * columns + j) false
  row_uncombined i j low inside apart = part_unwritten xs now (combined f run ys) rows columns stride start into 0 n (into * stride) is kept row (omega arith) many (omega arith) put_run i j low inside (inl apart)

-- all bits that were combined with those of another matrix, with the padding
pub all_combined : (f : Bool → Bool → Bool) (xs ys now : List Bool) (rows columns stride others wider apart start from : ℕ) → IsGrid rows columns stride start (length xs) → IsGrid others wider apart from (length ys) → (others ≡ rows) × (wider ≡ columns) → now ≡ combined f xs ys
    → (i j : ℕ) → i < rows → j < columns → get_or (unpadded rows columns stride now) (i * columns + j) false ≡ f (get_or (unpadded rows columns stride xs) (i * columns + j) false) (get_or (unpadded others wider apart ys) (i * wider + j) false)
all_combined f xs ys now rows columns stride others wider apart start from is there same made i j tall short =
    let tall_too = same.0 in
    let short_too = same.1 in
    let a = is.wide (omega arith) in
    let b = there.wide (omega arith) in
    let pads : padded wider ≡ padded columns = ap padded same.1 in
    let strides : apart ≡ stride = omega arith in
    let size = ap length made ∙ length-combined f xs ys in
    let kept : length now ≡ rows * stride = size ∙ is.count in
    let room = wide rows columns stride start (length xs) is in
    let inside = place_padded rows columns stride start (length xs) i j is tall short in
    item_unpadded now rows columns stride kept room i j tall short
    ∙ ap (λ l. get_or l (i * stride + j) false) made
    ∙ item_combined f xs ys (i * stride + j) inside
    ∙ ap (λ b. f b (get_or ys (i * stride + j) false)) (sym (item_unpadded xs rows columns stride is.count room i j tall short))
    ∙ ap (f (get_or (unpadded rows columns stride xs) (i * columns + j) false))
    (ap (λ k. get_or ys (i * k + j) false) (sym strides) ∙ sym (item_unpadded ys others wider apart there.count (wide others wider apart from (length ys) there) i j (omega arith) (omega arith)))

-- a row that was written over another, with its padding
module _ (xs now : List Bool) (rows columns stride start from to n : ℕ) (is : IsGrid rows columns stride start (length xs)) (kept : length now ≡ length xs) (there : from < rows) (here : to < rows) (all : n ≡ stride) (made : now ≡ moved xs (from * stride) (to * stride) n) where
  -- each bit of the copied row is that of its source
  pub row_copied : (j : ℕ) → j < columns → slice_range now (to * stride) (to * stride + n) ≡ slice_range xs (from * stride) (from * stride + n)
      → get_or (unpadded rows columns stride now) (to * columns + j) false ≡ get_or (unpadded rows columns stride xs) (from * columns + j) false
  row_copied j inside landed =
      let room = wide rows columns stride start (length xs) is in
      let r = room (omega arith) in
      item_unpadded now rows columns stride (kept ∙ is.count) room to j here inside
      ∙ sym (get_or-run now (to * stride) n j (omega arith)) ∙ ap (λ l. get_or l j false) landed ∙ get_or-run xs (from * stride) n j (omega arith)
      ∙ sym (item_unpadded xs rows columns stride is.count room from j there inside)

  -- the other rows stay as a row is copied
  pub row_uncopied : (i j : ℕ) → i < rows → j < columns → i ≢ to → get_or (unpadded rows columns stride now) (i * columns + j) false ≡ get_or (unpadded rows columns stride xs) (i * columns + j) false
  row_uncopied i j low inside apart =
      let room = wide rows columns stride start (length xs) is in
      let r = room (omega arith) in
      let c = is.count in
      let within = place_inside rows stride i j low (omega arith) in
      item_unpadded now rows columns stride (kept ∙ is.count) room i j low inside
      ∙ ap (λ l. get_or l (i * stride + j) false) made
      ∙ bit_left xs (from * stride) (to * stride) n (i * stride + j) (omega arith) (elim (place_apart i j to stride (omega arith) apart) [ inl below ↦ inl below | inr above ↦ inr (omega arith) ])
      ∙ sym (item_unpadded xs rows columns stride is.count room i j low inside)

-- two matrices of one size have the same bits where their rows are equal
pub same_bits : (xs ys : List Bool) (rows columns : ℕ) → length xs ≡ rows * columns → length ys ≡ rows * columns
    → ((i : ℕ) → i < rows → slice_range xs (i * columns) (i * columns + columns) ≡ slice_range ys (i * columns) (i * columns + columns)) → xs ≡ ys
same_bits xs ys rows columns long as_long rows_same =
    same_rows xs ys rows columns long as_long (λ i j row inside. sym (get_or-run xs (i * columns) columns j inside) ∙ ap (λ l. get_or l j false) (rows_same i row) ∙ get_or-run ys (i * columns) columns j inside)

-- ---- how many bits there are

-- a length is too long exactly with the padding
pub too_long : (rows columns stride : ℕ) → (columns ≤ MAX_BITS → stride ≡ padded columns) → (MAX_BITS < columns → MAX_BITS < stride) → (MAX_BITS < rows * stride) ↔ (MAX_BITS < rows * padded columns)
too_long rows columns stride exact past = elim (cases_lt MAX_BITS columns) [
  | inl far ↦
      let s = past far in
      elim (cases_lt 0 rows) [
        | inl some ↦
            let a = mul-le-mul_right stride (let h : 1 ≤ rows = omega arith in h) in
            let b = mul-le-mul_right (padded columns) (let h : 1 ≤ rows = omega arith in h) in
            (λ h. omega arith, λ h. omega arith)
        | inr none ↦
            let z : rows ≡ 0 = omega arith in
            let a : rows * stride ≡ 0 * stride = ap (λ k. k * stride) z in
            let b : rows * padded columns ≡ 0 * padded columns = ap (λ k. k * padded columns) z in
            (λ h. absurd (omega arith), λ h. absurd (omega arith))
      ]
  | inr near ↦
      let e : rows * stride ≡ rows * padded columns = ap (λ k. rows * k) (exact near) in
      (λ h. subst (λ k. MAX_BITS < k) e h, λ h. subst (λ k. MAX_BITS < k) (sym e) h)
]

-- rows that are not too long begin where their columns say
pub grid_made : (rows columns stride start size : ℕ) → (columns ≤ MAX_BITS → stride ≡ padded columns) → (MAX_BITS < columns → MAX_BITS < stride) → size ≡ rows * stride → size ≤ MAX_BITS → start ≡ 0 → IsGrid rows columns stride start size
grid_made rows columns stride start size exact past count few aligned =
    record {
      count = count;
      few = few;
      wide = λ some. elim (cases_lt MAX_BITS columns) [
        | inl far ↦
            let s = past far in
            let a = mul-le-mul_right stride (let h : 1 ≤ rows = omega arith in h) in
            absurd (omega arith)
        | inr near ↦ exact near
      ];
      aligned = aligned;
    }

-- where there is no bit, there is none with the padding
pub none_padded : (rows columns stride start size : ℕ) → IsGrid rows columns stride start size → rows * columns ≡ 0 → size ≡ 0
none_padded rows columns stride start size is none =
    let c = is.count in
    elim (cases_lt 0 rows) [
      | inl some ↦ elim (cases_lt 0 columns) [
        | inl wider ↦ (let a = place_inside rows columns 0 0 some wider in absurd (omega arith))
        | inr narrow ↦
            let w = is.wide some in
            let z : stride ≡ 0 = omega arith in
            let e : rows * stride ≡ rows * 0 = ap (λ k. rows * k) z in
            omega arith
      ]
      | inr empty ↦
          let z : rows ≡ 0 = omega arith in
          let e : rows * stride ≡ 0 * stride = ap (λ k. k * stride) z in
          omega arith
    ]

-- a grid without items has no bits
pub nothing_padded : (xs : List Bool) (rows columns stride start : ℕ) → IsGrid rows columns stride start (length xs) → rows * columns ≡ 0 → xs ≡ []
nothing_padded xs rows columns stride start is none = nil_from_length xs (none_padded rows columns stride start (length xs) is none)

-- rows that differ make the bits differ, and rows that are found equal are
pub row_differs : (xs ys left right : List Bool) (a b : ℕ) → left ≡ slice_range xs a b → right ≡ slice_range ys a b → true ≡ not (bits_equal left right) → false ≡ bits_equal xs ys
row_differs xs ys left right a b here there differ =
    sym (not_true (bits_equal xs ys) (λ same. let e : left ≡ right = here ∙ ap (λ l. slice_range l a b) ((equal_lists xs ys).0 same) ∙ sym there in true≢false (differ ∙ ap not ((equal_lists left right).1 e))))
  where
    not_true : (b : Bool) → (b ≡ true → ⊥) → b ≡ false
    not_true true never = absurd (never refl)
    not_true false never = refl

-- rows that the comparison finds equal are equal parts
pub row_agrees : (xs ys left right : List Bool) (a b : ℕ) → left ≡ slice_range xs a b → right ≡ slice_range ys a b → false ≡ not (bits_equal left right) → slice_range xs a b ≡ slice_range ys a b
row_agrees xs ys left right a b here there same = sym here ∙ (equal_lists left right).0 (is_true (bits_equal left right) same) ∙ there
  where
    is_true : (b : Bool) → false ≡ not b → b ≡ true
    is_true true is = refl
    is_true false is = is
