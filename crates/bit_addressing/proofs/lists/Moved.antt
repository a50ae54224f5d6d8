-- Lists in which a run was moved.
use Rattle.std.proofs.Common.{◌≡◌, ◌≢◌, ℕ, ◌+◌, ◌-◌, ◌<◌, ◌≤◌, Bool, false, List, [], ◌∷◌, ◌++◌, length, take, set, get_or, slice_range, sym, ◌∙◌, ap, subst, inl, inr, arith}
use Rattle.std.specs.List.{insert, remove, swap_remove}
use Rattle.std.proofs.lemmas.List.{ext_get_or, length-take, length-set, length_push, get_or-take, get_or-set_same, get_or-set_other, get_or_append_left}
use Rattle.std.proofs.lemmas.List.FromFn.{length-map-range_with_len, get_or-map-range_with_len}
use Rattle.std.proofs.lemmas.List.Edits.{length-insert, get_or-insert_below, get_or-insert_at, get_or-insert_above, length-remove, get_or-remove_below, get_or-remove_above}
use Rattle.std.proofs.lemmas.Bool.{cases_lt, cases_order}
use Rattle.std.proofs.lemmas.Bool.Decides.{nat_tests}
use Rattle.bit_addressing.specs.Row.{source_of, moved, sized}
use Rattle.bit_addressing.proofs.lists.Shown.{get_or-run, length-run, shows_sized, shows_set, shrunk_shows}
use Rattle.bit_addressing.proofs.Moves.{source_below}

-- a move keeps the length
pub length-moved : (xs : List Bool) (s d n : ℕ) → length (moved xs s d n) ≡ length xs
unfolding moved
length-moved xs s d n = length-map-range_with_len (λ j. get_or xs (source_of s d n j) false) 0 (length xs)

-- a bit after a move is that of its source before it
pub get_or-moved : (xs : List Bool) (s d n j : ℕ) → j < length xs → get_or (moved xs s d n) j false ≡ get_or xs (source_of s d n j) false
unfolding moved
get_or-moved xs s d n j h = get_or-map-range_with_len (λ j. get_or xs (source_of s d n j) false) 0 (length xs) j j false h (omega arith)

source_shift : (head s d n i : ℕ) → source_of (head + s) (head + d) n (head + i) ≡ head + source_of s d n i
source_shift head s d n i = grind (arith, nat_tests)

-- a move inside what is shown
pub shows_moved : (xs : List Bool) (head len s d n : ℕ) → s + n ≤ len → d + n ≤ len → head + len ≤ length xs → slice_range (moved xs (head + s) (head + d) n) head (head + len) ≡ moved (slice_range xs head (head + len)) s d n
shows_moved xs head len s d n from to fits =
    let all : List Bool = moved xs (head + s) (head + d) n in
    let size : length all ≡ length xs = length-moved xs (head + s) (head + d) n in
    let shown : length (slice_range xs head (head + len)) ≡ len = length-run xs head len fits in
    let left : length (slice_range all head (head + len)) ≡ len = length-run all head len (omega arith) in
    let right : length (moved (slice_range xs head (head + len)) s d n) ≡ len = length-moved (slice_range xs head (head + len)) s d n ∙ shown in
    ext_get_or false (slice_range all head (head + len)) (moved (slice_range xs head (head + len)) s d n) (left ∙ sym right)
    (λ i h.
    let below : i < len = subst (λ m. i < m) left h in
    get_or-run all head len i below ∙ get_or-moved xs (head + s) (head + d) n (head + i) (omega arith) ∙ ap (λ k. get_or xs k false) (source_shift head s d n i)
    ∙ sym (get_or-moved (slice_range xs head (head + len)) s d n i (omega arith) ∙ get_or-run xs head len (source_of s d n i) (source_below s d n i len from below)))

source_before : (s d n j : ℕ) → j < d → source_of s d n j ≡ j
source_before s d n j h = grind (arith, nat_tests)

-- inside the target of a move
pub source_inside : (s d n j : ℕ) → d ≤ j → j < d + n → source_of s d n j ≡ (s + j) - d
source_inside s d n j h k = grind (arith, nat_tests)

-- one item is appended, those from an index on move up by one, and the item is written
pub inserted : (xs : List Bool) (i : ℕ) (b : Bool) → i ≤ length xs → set (moved (xs ++ b ∷ []) i (i + 1) (length xs - i)) i b ≡ insert xs i b
inserted xs i b h =
    let longer : List Bool = xs ++ b ∷ [] in
    let n : ℕ = length xs - i in
    let size : length longer ≡ length xs + 1 = length_push xs b in
    let moved_size : length (moved longer i (i + 1) n) ≡ length longer = length-moved longer i (i + 1) n in
    let left : length (set (moved longer i (i + 1) n) i b) ≡ length xs + 1 = length-set (moved longer i (i + 1) n) i b ∙ moved_size ∙ size in
    let right : length (insert xs i b) ≡ length xs + 1 = length-insert xs i b h in
    ext_get_or false (set (moved longer i (i + 1) n) i b) (insert xs i b) (left ∙ sym right)
    (λ j k.
    let below : j < length xs + 1 = subst (λ m. j < m) left k in
    elim (cases_order j i) [
      | inl e ↦ rw e (get_or-set_same (moved longer i (i + 1) n) i b false (omega arith) ∙ sym (get_or-insert_at xs i b false h))
      | inr o ↦ elim o [
        | inl less ↦
            let apart : j ≢ i = omega arith in
            get_or-set_other (moved longer i (i + 1) n) i j b false apart ∙ get_or-moved longer i (i + 1) n j (omega arith) ∙ ap (λ m. get_or longer m false) (source_before i (i + 1) n j (omega arith))
            ∙ get_or_append_left xs (b ∷ []) false j (omega arith) ∙ sym (get_or-insert_below xs i b false j less h)
        | inr more ↦
            let apart : j ≢ i = omega arith in
            let at : (i + j) - (i + 1) ≡ j - 1 = omega arith in
            let back : j - 1 + 1 ≡ j = omega arith in
            get_or-set_other (moved longer i (i + 1) n) i j b false apart ∙ get_or-moved longer i (i + 1) n j (omega arith) ∙ ap (λ m. get_or longer m false) (source_inside i (i + 1) n j (omega arith) (omega arith) ∙ at)
            ∙ get_or_append_left xs (b ∷ []) false (j - 1) (omega arith) ∙ sym (ap (λ m. get_or (insert xs i b) m false) (sym back) ∙ get_or-insert_above xs i b false (j - 1) (omega arith) h)
      ]
    ])

-- the rest moves down over one item, and the list is one shorter
pub removed : (xs : List Bool) (i : ℕ) → i < length xs → take (length xs - 1) (moved xs (i + 1) i (length xs - 1 - i)) ≡ remove xs i
removed xs i h =
    let n : ℕ = length xs - 1 - i in
    let size : length (moved xs (i + 1) i n) ≡ length xs = length-moved xs (i + 1) i n in
    let left : length (take (length xs - 1) (moved xs (i + 1) i n)) ≡ length xs - 1 = simp length-take (omega arith) in
    let right : length (remove xs i) ≡ length xs - 1 = let r = length-remove xs i h in omega arith in
    ext_get_or false (take (length xs - 1) (moved xs (i + 1) i n)) (remove xs i) (left ∙ sym right)
    (λ j k.
    let below : j < length xs - 1 = subst (λ m. j < m) left k in
    get_or-take (length xs - 1) (moved xs (i + 1) i n) j false below ∙ get_or-moved xs (i + 1) i n j (omega arith) ∙ elim (cases_lt j i) [
      | inl less ↦ ap (λ m. get_or xs m false) (source_before (i + 1) i n j less) ∙ sym (get_or-remove_below xs i false j less h)
      | inr more ↦ let at : (i + 1 + j) - i ≡ j + 1 = omega arith in ap (λ m. get_or xs m false) (source_inside (i + 1) i n j more (omega arith) ∙ at) ∙ sym (get_or-remove_above xs i false j more h)
    ])

-- what is shown moves to the front
pub aligned_shows : (w : ℕ) (xs : List Bool) (head len : ℕ) → 0 < w → head + len ≤ length xs → slice_range (sized w (moved xs head 0 len) (0 + len)) 0 (0 + len) ≡ slice_range xs head (head + len)
aligned_shows w xs head len positive fits =
    let all : List Bool = moved xs head 0 len in
    let size : length all ≡ length xs = length-moved xs head 0 len in
    let shown : length (slice_range xs head (head + len)) ≡ len = length-run xs head len fits in
    let left : length (slice_range all 0 (0 + len)) ≡ len = length-run all 0 len (omega arith) in
    shows_sized w all (0 + len) 0 (0 + len) positive (omega arith) (omega arith) (omega arith)
    ∙ ext_get_or false (slice_range all 0 (0 + len)) (slice_range xs head (head + len)) (left ∙ sym shown)
    (λ j h.
    let below : j < len = subst (λ m. j < m) left h in
    let at : (head + j) - 0 ≡ head + j = omega arith in
    get_or-run all 0 len j below ∙ ap (λ m. get_or all m false) (omega arith) ∙ get_or-moved xs head 0 len j (omega arith) ∙ ap (λ m. get_or xs m false) (source_inside head 0 len j (omega arith) (omega arith) ∙ at)
    ∙ sym (get_or-run xs head len j below))

-- ---- whole calls

-- the rest moved up by one and the bit set is the list with the bit inserted
pub inserted_shows : (xs list : List Bool) (head len i : ℕ) (b : Bool) → slice_range xs head (head + len) ≡ list ++ b ∷ [] → len ≡ length list + 1 → i ≤ length list → head + len ≤ length xs → slice_range (set (moved xs (head + i) (head + i + 1) (len - 1 - i)) (head + i) b) head (head + len) ≡ insert list i b
inserted_shows xs list head len i b pushed size h fits =
    let n : ℕ = len - 1 - i in
    let next : head + i + 1 ≡ head + (i + 1) = omega arith in
    let beyond : n ≡ length list - i = omega arith in
    let long : length (moved xs (head + i) (head + i + 1) n) ≡ length xs = length-moved xs (head + i) (head + i + 1) n in
    shows_set (moved xs (head + i) (head + i + 1) n) head len i b (omega arith) (omega arith)
    ∙ ap (λ l. set l i b) (ap (λ d. slice_range (moved xs (head + i) d n) head (head + len)) next ∙ shows_moved xs head len i (i + 1) n (omega arith) (omega arith) fits ∙ ap (λ l. moved l i (i + 1) n) pushed ∙ ap (moved (list ++ b ∷ []) i (i + 1)) beyond)
    ∙ inserted list i b h

-- the rest moved down by one and the last bit cut is the list without the bit
pub removed_shows : (w : ℕ) (xs : List Bool) (head len i : ℕ) → 0 < w → i < len → head + len ≤ length xs → slice_range (sized w (moved xs (head + i + 1) (head + i) (len - 1 - i)) (head + (len - 1))) head (head + (len - 1)) ≡ remove (slice_range xs head (head + len)) i
removed_shows w xs head len i positive h fits =
    let n : ℕ = len - 1 - i in
    let list : List Bool = slice_range xs head (head + len) in
    let next : head + i + 1 ≡ head + (i + 1) = omega arith in
    let size : length list ≡ len = length-run xs head len fits in
    let long : length (moved xs (head + i + 1) (head + i) n) ≡ length xs = length-moved xs (head + i + 1) (head + i) n in
    let less : len - 1 ≡ length list - 1 = omega arith in
    shrunk_shows w (moved xs (head + i + 1) (head + i) n) head len (len - 1) positive (omega arith) (omega arith)
    ∙ ap (take (len - 1)) (ap (λ s. slice_range (moved xs s (head + i) n) head (head + len)) next ∙ shows_moved xs head len (i + 1) i n (omega arith) (omega arith) fits)
    ∙ ap (λ m. take m (moved list (i + 1) i (m - i))) less
    ∙ removed list i (omega arith)

-- the last bit set in the place of another and cut is `swap_remove`
pub swap_removed_shows : (w : ℕ) (xs : List Bool) (head len i : ℕ) (last : Bool) → 0 < w → i < len → head + len ≤ length xs → last ≡ get_or xs (head + (len - 1)) false → slice_range (sized w (set xs (head + i) last) (head + (len - 1))) head (head + (len - 1)) ≡ swap_remove (slice_range xs head (head + len)) i false
swap_removed_shows w xs head len i last positive h fits is =
    let list : List Bool = slice_range xs head (head + len) in
    let size : length list ≡ len = length-run xs head len fits in
    let long : length (set xs (head + i) last) ≡ length xs = length-set xs (head + i) last in
    let less : len - 1 ≡ length list - 1 = omega arith in
    let read : last ≡ get_or list (length list - 1) false = is ∙ sym (ap (λ m. get_or list m false) (sym less) ∙ get_or-run xs head len (len - 1) (omega arith)) in
    shrunk_shows w (set xs (head + i) last) head len (len - 1) positive (omega arith) (omega arith)
    ∙ ap (take (len - 1)) (shows_set xs head len i last h fits ∙ ap (set list i) read)
    ∙ ap (λ m. take m (set list i (get_or list (length list - 1) false))) less
