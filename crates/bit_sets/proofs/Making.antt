-- The two lists of ascending numbers, made one number at a time.
use Rattle.std.proofs.Common.{◌≡◌, ℕ, zero, suc, ◌+◌, ◌-◌, ◌*◌, ◌/◌, ◌%◌, ◌^◌, ◌<◌, ◌≤◌, Bool, true, false, List, [], ◌∷◌, ◌++◌, length, take, set, replicate, get_or, slice_range, refl, sym, ◌∙◌, ap, subst, inl, inr, arith}
use Rattle.std.proofs.Common.{rules}
use Rattle.std.specs.Prelude.{Result, Ok, Err, IfOk}
use Rattle.std.specs.List.{All}
use Rattle.std.specs.List.Sorted.{IsNonDecreasing}
use Rattle.std.proofs.lemmas.Bool.{cases_lt}
use Rattle.std.proofs.lemmas.List.{get_or_default, get_or-take, get_or-set_other, length-take-le, places, same_lists, take_at, take_more, length_push, get_or_push, get_or_append_left}
use Rattle.std.proofs.lemmas.List.Sorted.{IsNonDecreasingBy-push}
use Rattle.std.proofs.lemmas.Nat.{mod_below, pow_pos}
use Rattle.std.proofs.Math.Nat.{le-div_iff_mul-le, div-mul-le_self}
use Rattle.bit_addressing.specs.Binary.{value}
use Rattle.bit_addressing.specs.Row.{binary}
use Rattle.bit_rows.proofs.Binary.{binary_low, value_of_binary}
use Rattle.bit_addressing.specs.declared.length.TheConstants.{MAX_BITS}
use Rattle.bit_slice.specs.Places.{ones_of}
use Rattle.bit_slice.proofs.Places.{places_none, places_whole}
use Rattle.bit_sets.specs.Sorted.{IsFirstDescent, IsPacked, high_len, high_places, last_of, low_part, low_width, numbers_of}
use Rattle.bit_sets.proofs.Packed.{length_places, low_inside, no_places, packed_is, places_more}
use Rattle.bit_sets.proofs.Places.{one_set}

-- ---- whether they ascend

-- a number not below the one before it keeps the list ascending
pub ascends_more : (xs : List ℕ) (i : ℕ) → i < length xs → IsNonDecreasing (take i xs) → (0 < i → get_or xs (i - 1) 0 ≤ get_or xs i 0) → IsNonDecreasing (take (i + 1) xs)
ascends_more xs i h up next =
    let size : length (take i xs) ≡ i = length-take-le i xs (omega arith) in
    subst IsNonDecreasing (sym (take_more xs i 0 h))
    (IsNonDecreasingBy-push (λ x. x) (take i xs) (get_or xs i 0) up
    (λ d some. let before : length (take i xs) - 1 ≡ i - 1 = omega arith in omega (arith, ap (λ k. get_or (take i xs) k d) before, get_or-take i xs (i - 1) d (omega arith), get_or_default xs (i - 1) d 0 (omega arith), next (omega arith))))

module _ (xs : List ℕ) (x last : ℕ) (up : IsNonDecreasing xs) (is : 0 < length xs → last ≡ get_or xs (length xs - 1) 0) (none : length xs ≡ 0 → last ≡ 0) where
  -- a number that is not below the last
  pub ascends_pushed : last ≤ x → IsNonDecreasing (xs ++ x ∷ [])
  ascends_pushed h = IsNonDecreasingBy-push (λ n. n) xs x up (λ d some. omega (arith, get_or_default xs (length xs - 1) d 0 (omega arith), is some))

  -- a number that is
  pub descends_pushed : (i : ℕ) → length xs ≡ i → x < last → IsFirstDescent (xs ++ x ∷ []) i × (length (xs ++ x ∷ []) ≡ i + 1)
  descends_pushed i size h =
      let long = length_push xs x in
      let some : 0 < length xs = elim (cases_lt 0 (length xs)) [
        | inl l ↦ l
        | inr l ↦ absurd (omega (arith, none (omega arith)))
      ] in
      let here : get_or (xs ++ x ∷ []) i 0 ≡ x = get_or_push xs x 0 i size in
      let previous : get_or (xs ++ x ∷ []) (i - 1) 0 ≡ get_or xs (i - 1) 0 = get_or_append_left xs (x ∷ []) 0 (i - 1) (omega arith) in
      let at : get_or xs (length xs - 1) 0 ≡ get_or xs (i - 1) 0 = ap (λ n. get_or xs (n - 1) 0) size in (
        record {
          after_one = omega arith;
          inside = omega arith;
          below = omega (arith, is some);
          before = subst IsNonDecreasing (sym (take_at xs (x ∷ []) i size)) up;
        },
        omega arith,
      )

-- ---- the ones

div_up : (a b p : ℕ) → 0 < p → a ≤ b → a / p ≤ b / p
div_up a b p some h = (le-div_iff_mul-le {k = p} {x = a / p} {y = b} some).1 (let m = div-mul-le_self a p in omega arith)

-- the ones of the first k numbers are set, and no other
pub record AreMarked (w : ℕ) (xs : List ℕ) (k : ℕ) (list : List Bool) : Type 0 where
  pub ones : ones_of list ≡ high_places w xs k
  pub clear : (j : ℕ) → ((i : ℕ) → i < k → get_or xs i 0 / 2 ^ w + i < j) → get_or list j false ≡ false

item_clear : (n j : ℕ) → get_or (replicate n false) j false ≡ false
item_clear zero j = refl
item_clear (suc n) zero = refl
item_clear (suc n) (suc j) = item_clear n j

-- before the first number no bit is marked
pub none_marked : (w : ℕ) (xs : List ℕ) (n : ℕ) → AreMarked w xs 0 (replicate n false)
none_marked w xs n =
    record {
      ones = sym (places_whole (λ b. b) (replicate n false) (length (replicate n false)) refl) ∙ places_none (λ b. b) true refl refl (replicate n false) 0 (length (replicate n false)) (record { each = λ j a b. item_clear n j }) ∙ sym (no_places w xs);
      clear = λ j h. item_clear n j;
    }

-- the place of each number's bit lies inside the list
pub place_inside : (w : ℕ) (xs : List ℕ) (k len : ℕ) → IsNonDecreasing xs → len ≡ length xs + last_of xs / 2 ^ w → k < length xs → get_or xs k 0 / 2 ^ w + k < len
place_inside w xs k len up size h = omega (arith, div_up (get_or xs k 0) (last_of xs) (2 ^ w) (pow_pos w) (up k (length xs - 1) 0 (omega arith) (omega arith)))

-- one number more marks its bit
pub marked_more : (w : ℕ) (xs : List ℕ) (k : ℕ) (list : List Bool) → IsNonDecreasing xs → k < length xs → get_or xs k 0 / 2 ^ w + k < length list → AreMarked w xs k list → AreMarked w xs (k + 1) (set list (get_or xs k 0 / 2 ^ w + k) true)
marked_more w xs k list up h inside marked =
    let p = get_or xs k 0 / 2 ^ w + k in
    let sooner : (i : ℕ) → i < k → get_or xs i 0 / 2 ^ w + i < p =
    λ i l. omega (arith, div_up (get_or xs i 0) (get_or xs k 0) (2 ^ w) (pow_pos w) (up i k 0 (omega arith) h)) in
    record {
      ones = one_set list p inside (λ j a. marked.clear j (λ i l. omega (arith, sooner i l))) ∙ ap (λ l. l ++ p ∷ []) marked.ones ∙ sym (places_more w xs k);
      clear = λ j past.
          let after : p < j = past k (omega arith) in
          get_or-set_other list p j true false (λ e. absurd (omega arith)) ∙ marked.clear j (λ i l. past i (omega arith));
    }

-- ---- the digits

-- what is before an index
part_before : (xs : List Bool) (at a b : ℕ) → b ≤ at → slice_range (take at xs) a b ≡ slice_range xs a b
part_before xs at a b h = same_lists _ _ (search (rules, places)) (λ i d below. grind (arith, places))

low_value : (w x : ℕ) → value (binary w x) ≡ x % 2 ^ w
low_value w x = ap (λ l. value l) (sym (binary_low w x)) ∙ value_of_binary w (x % 2 ^ w) (mod_below x (2 ^ w) (pow_pos w))

-- one number more stores its low part
pub lows_more : (w x k : ℕ) (xs : List ℕ) (old new : List Bool) → x ≡ get_or xs k 0 → ((j : ℕ) → j < k → low_part w old j ≡ get_or xs j 0 % 2 ^ w) → slice_range new (k * w) (k * w + w) ≡ binary w x → take (k * w) new ≡ take (k * w) old → (j : ℕ) → j < k + 1 → low_part w new j ≡ get_or xs j 0 % 2 ^ w
lows_more w x k xs old new is each written before j h = elim (cases_lt j k) [
  | inl l ↦
      let inside = low_inside j k w l in
      ap value (sym (part_before new (k * w) (j * w) (j * w + w) inside) ∙ ap (λ ms. slice_range ms (j * w) (j * w + w)) before ∙ part_before old (k * w) (j * w) (j * w + w) inside) ∙ each j l
  | inr l ↦
      let same : j ≡ k = omega arith in
      ap (λ m. low_part w new m) same ∙ ap value written ∙ low_value w x ∙ ap (λ y. y % 2 ^ w) (is ∙ ap (λ m. get_or xs m 0) (sym same))
]

-- ---- both

module _ (w : ℕ) (high low : List Bool) (xs : List ℕ) (ones : ones_of high ≡ high_places w xs (length xs)) (lows : (k : ℕ) → k < length xs → low_part w low k ≡ get_or xs k 0 % 2 ^ w) where
  -- the numbers read back from the packed form are those that were packed
  pub made_view : numbers_of (length xs) w high low ≡ xs
  made_view = packed_is (length xs) w high low xs refl ones lows

  -- what was marked and stored is a packed form
  pub made_packed : IsNonDecreasing xs → last_of xs < 2 ^ 64 → w ≡ low_width xs → w < 64 → length high ≡ length xs + last_of xs / 2 ^ w → length low ≡ length xs * w → length xs * w ≤ MAX_BITS → length high ≤ MAX_BITS → IsPacked (length xs) w high low
  made_packed up fits width narrow size lens few held =
      record {
        ones = ap length ones ∙ length_places w xs (length xs);
        lows = lens;
        few = few;
        held = held;
        narrow = narrow;
        ascends = subst IsNonDecreasing (sym made_view) up;
        fits = subst (All (λ number. number < 2 ^ 64)) (sym made_view) (λ k d h. omega (arith, up k (length xs - 1) 0 (omega arith) (omega arith), get_or_default xs k d 0 h));
        width = width ∙ ap low_width (sym made_view);
        size = size ∙ ap (λ v. length xs + last_of xs / 2 ^ v) width ∙ ap high_len (sym made_view);
      }

-- what follows where a call succeeds
pub ok_then : {X E : Type 0} (r : Result X E) {P Q : X → Type 0} → IfOk r P → ((x : X) → P x → Q x) → IfOk r Q
ok_then (Ok x) h more = more x h
ok_then (Err e) h more = tt
