-- Which writes leave a clean row clean: it is the list and then false.
use Rattle.std.proofs.Common.{[], ◌∷◌, true, false, leb, ltb, ◌&&◌, if◌then◌else◌, subst, get_or, set, swap, slice_range, ◌≡◌, ℕ, ◌+◌, ◌-◌, ◌*◌, ◌<◌, ◌≤◌, List, Bool, length, sym, ◌∙◌, ap, refl, arith, rules}
use Rattle.std.proofs.lemmas.List.{same_lists, places, length-set, ext_get_or}
use Rattle.std.proofs.lemmas.List.Edits.{swap_is}
use Rattle.bit_addressing.specs.Bits.{IsWidth}
use Rattle.bit_addressing.specs.declared.store.BitStore as store
use Rattle.bit_addressing.specs.declared.order.BitOrder as order
use Rattle.bit_addressing.specs.Row.{put, sized, moved, source_of, words_for}
use Rattle.bit_addressing.specs.Typed.{row}
use Rattle.bit_addressing.proofs.Rows.{width_positive}
use Rattle.bit_addressing.proofs.lists.Sized.{room, length-sized, sized_same, words_for_all}
use Rattle.bit_addressing.proofs.lists.Shown.{length-run, shows_sized}
use Rattle.bit_addressing.proofs.lists.Put.{put_one, length-put}
use Rattle.bit_addressing.proofs.lists.Moved.{length-moved, get_or-moved}
use Rattle.bit_addressing.proofs.Shifts.{put_moved}
use Rattle.bit_slice.specs.Clean.{IsCleanRow}
use Rattle.bit_slice.proofs.Parts.{all_shown, row_size}
use Rattle.bit_slice.proofs.Shown.{put_all}

-- what is told of a container by whether it is clean
pub record Seen : Type 0 where
  pub head : ℕ
  pub row : List Bool
  pub list : List Bool

-- its row is clean
abbrev pub IsCleanSeen : ℕ → Seen → Type 0
IsCleanSeen w v = IsCleanRow w v.head v.row v.list

-- what is put into a list is put into its row
put_sized : (w : ℕ) (xs ys : List Bool) (d : ℕ) → 0 < w → d + length ys ≤ length xs → put (sized w xs (length xs)) d ys ≡ sized w (put xs d ys) (length xs)
unfolding put sized
put_sized w xs ys d positive h =
    let r = (room w (length xs) positive).0 in
    same_lists _ _ (search (rules, places)) (λ i d below. grind (arith, places))

-- the row has the list in it
in_clean_row : (w : ℕ) (v : Seen) → 0 < w → IsCleanSeen w v → v.head + length v.list ≤ length v.row
in_clean_row w v positive clean =
    let r = (room w (length v.list) positive).0 in
    let e : length v.row ≡ w * words_for w (length v.list) = ap length clean.row ∙ length-sized w v.list (length v.list) in
    let none = clean.head in
    omega arith

-- a run of a list stands in its row
seen : (w : ℕ) (xs : List Bool) (s n : ℕ) → 0 < w → s + n ≤ length xs → slice_range (sized w xs (length xs)) (0 + s) (0 + s + n) ≡ slice_range xs s (s + n)
seen w xs s n positive h =
    let none : 0 + s ≡ s = omega arith in
    ap (λ k. slice_range (sized w xs (length xs)) k (k + n)) none ∙ shows_sized w xs (length xs) s (s + n) positive (omega arith) h h

-- bits written over bits of the list leave it clean
pub clean_put : (w : ℕ) (old new : Seen) (d : ℕ) (ys : List Bool) → 0 < w → d + length ys ≤ length old.list → new.head ≡ old.head → new.list ≡ put old.list d ys → new.row ≡ put old.row (old.head + d) ys → IsCleanSeen w old → IsCleanSeen w new
clean_put w old new d ys positive h head list row clean =
    let none : 0 + d ≡ d = omega arith in
    let size : length old.list ≡ length new.list = sym (length-put old.list ys d h) ∙ ap length (sym list) in
    record {
      head = head ∙ clean.head;
      row = row ∙ ap (λ n. put old.row (n + d) ys) clean.head ∙ ap (λ n. put old.row n ys) none ∙ ap (λ r. put r d ys) clean.row
          ∙ put_sized w old.list ys d positive h
          ∙ ap (λ l. sized w l (length old.list)) (sym list) ∙ ap (sized w new.list) size;
    }

-- one bit of the list written
pub clean_set : (w : ℕ) (old new : Seen) (i : ℕ) (b : Bool) → 0 < w → i < length old.list → new.head ≡ old.head → new.list ≡ set old.list i b → new.row ≡ set old.row (old.head + i) b → IsCleanSeen w old → IsCleanSeen w new
clean_set w old new i b positive h head list row clean =
    let inside = in_clean_row w old positive clean in
    clean_put w old new i (b ∷ []) positive (omega arith) head (list ∙ put_one old.list i b h) (row ∙ put_one old.row (old.head + i) b (omega arith)) clean

-- a run of the list moved inside it
pub clean_moved : (w : ℕ) (old new : Seen) (s d n : ℕ) → 0 < w → s + n ≤ length old.list → d + n ≤ length old.list → new.head ≡ old.head → new.list ≡ moved old.list s d n → new.row ≡ moved old.row (old.head + s) (old.head + d) n → IsCleanSeen w old → IsCleanSeen w new
clean_moved w old new s d n positive from to head list row clean =
    let inside = in_clean_row w old positive clean in
    let none = clean.head in
    let ys : List Bool = slice_range old.list s (s + n) in
    let size : length ys ≡ n = length-run old.list s n from in
    let run : slice_range old.row (old.head + s) (old.head + s + n) ≡ ys = ap (λ h. slice_range old.row (h + s) (h + s + n)) clean.head ∙ ap (λ r. slice_range r (0 + s) (0 + s + n)) clean.row ∙ seen w old.list s n positive from in
    clean_put w old new d ys positive (omega arith) head
    (list ∙ sym (put_moved old.list s d n from to))
    (row ∙ sym (put_moved old.row (old.head + s) (old.head + d) n (omega arith) (omega arith)) ∙ ap (put old.row (old.head + d)) run)
    clean

-- the whole list written over
pub clean_whole : (w : ℕ) (old new : Seen) (ys : List Bool) → 0 < w → length ys ≡ length old.list → new.head ≡ old.head → new.list ≡ ys → new.row ≡ put old.row old.head ys → IsCleanSeen w old → IsCleanSeen w new
clean_whole w old new ys positive size head list row clean =
    let none : old.head ≡ old.head + 0 = omega arith in
    clean_put w old new 0 ys positive (omega arith) head (list ∙ sym (put_all old.list ys 0 refl size)) (row ∙ ap (λ n. put old.row n ys) none) clean

-- an item of the list stands in its row
item_seen : (w : ℕ) (xs : List Bool) (i : ℕ) → 0 < w → i < length xs → get_or (sized w xs (length xs)) i false ≡ get_or xs i false
unfolding sized
item_seen w xs i positive h =
    let r = (room w (length xs) positive).0 in
    grind (arith, places)

-- two bits of the list swapped
pub clean_swapped : (w : ℕ) (old new : Seen) (i j : ℕ) → 0 < w → i < length old.list → j < length old.list → new.head ≡ old.head → new.list ≡ swap old.list i j → new.row ≡ swap old.row (old.head + i) (old.head + j) → IsCleanSeen w old → IsCleanSeen w new
clean_swapped w old new i j positive h k head list row clean =
    let inside = in_clean_row w old positive clean in
    let first : Bool = get_or old.list i false in
    let second : Bool = get_or old.list j false in
    let stands : (n : ℕ) → n < length old.list → get_or old.row (old.head + n) false ≡ get_or old.list n false = λ n below. ap (λ m. get_or old.row (m + n) false) clean.head ∙ ap (λ r. get_or r (0 + n) false) clean.row ∙ item_seen w old.list (0 + n) positive (omega arith) ∙ ap (λ m. get_or old.list m false) (omega arith) in
    let mid : Seen = record { head = old.head; row = set old.row (old.head + i) second; list = set old.list i second } in
    let still : IsCleanSeen w mid = clean_set w old mid i second positive h refl refl refl clean in
    clean_set w mid new j first positive (omega (arith, length-set old.list i second, k)) head
    (list ∙ sym (swap_is old.list i j false h k))
    (row ∙ sym (swap_is old.row (old.head + i) (old.head + j) false (omega arith) (omega arith)) ∙ ap (λ b. set (set old.row (old.head + i) b) (old.head + j) (get_or old.row (old.head + i) false)) (stands j k) ∙ ap (set mid.row (old.head + j)) (stands i h))
    still

-- all bits of words
pub clean_all : (w n : ℕ) (bits list : List Bool) → 0 < w → length bits ≡ w * n → list ≡ bits → bits ≡ sized w list (length list)
clean_all w n bits list positive size is =
    sym (sized_same w bits (length bits) (size ∙ ap (λ m. w * m) (words_for_all w n positive ∙ ap (words_for w) (sym size)))) ∙ ap (λ l. sized w l (length l)) (sym is)

-- all bits of some words are clean
pub clean_words : {X Y : Type 0} (W : store.Ghosts X) (P : order.Ghosts Y) (ws : List X) (n : ℕ) → IsWidth W.BITS → n ≡ W.BITS * length ws → IsCleanRow W.BITS 0 (row W P ws) (slice_range (row W P ws) 0 (0 + n))
clean_words W P ws n width all = record {
  head = refl;
  row = clean_all W.BITS (length ws) (row W P ws) _ (width_positive W.BITS width) (row_size W P ws) (all_shown W P ws n all);
}

-- ---- a list that is moved to where it stands

source_same : (s n j : ℕ) → source_of s s n j ≡ j
source_same s n j = elim (leb s j && ltb j (s + n)) as (λ b. (if b then (s + j) - s else j) ≡ j) [ true ↦ omega arith | false ↦ refl ]

-- a move onto itself changes nothing
pub moved_nowhere : (xs : List Bool) (s n : ℕ) → moved xs s s n ≡ xs
moved_nowhere xs s n = ext_get_or false (moved xs s s n) xs (length-moved xs s s n) (λ j h. get_or-moved xs s s n j (subst (λ l. j < l) (length-moved xs s s n) h) ∙ ap (λ k. get_or xs k false) (source_same s n j))
