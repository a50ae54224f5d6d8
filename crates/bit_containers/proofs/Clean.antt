-- Which calls leave a clean vector clean: its head is 0, and its row is the list and then false.
use Rattle.std.proofs.Common.{true, false, Some, [], ◌∷◌, ◌++◌, map, insert, ◌≢◌, set, ◌≡◌, ℕ, ◌+◌, ◌-◌, ◌*◌, ◌<◌, ◌≤◌, List, Bool, length, sym, ◌∙◌, ap, refl, arith, rules}
use Rattle.std.proofs.lemmas.List.{length-append, same_lists, places}
use Rattle.bit_addressing.specs.Bits.{IsWidth}
use Rattle.bit_addressing.specs.declared.store.BitStore as store
use Rattle.bit_addressing.specs.declared.order.BitOrder as order
use Rattle.bit_addressing.specs.Row.{packed, put, sized, moved, words_for}
use Rattle.bit_addressing.specs.Typed.{words_from, words_for_list}
use Rattle.bit_rows.proofs.Canon.{packed_sized}
use Rattle.std.proofs.Math.Nat.{mul-le-mul_left}
use Rattle.bit_addressing.proofs.lists.Sized.{words_for_mono, room, sized_same, length-sized}
use Rattle.bit_addressing.proofs.lists.Shown.{sized_joined}
use Rattle.bit_addressing.proofs.lists.Moved.{length-moved, inserted}
use Rattle.bit_addressing.proofs.Rows.{width_positive}
use Rattle.bit_containers.specs.BitVec.{Held}
use Rattle.bit_containers.specs.BitVec.{IsClean}
use Rattle.bit_slice.specs.Clean.{IsCleanRow}
use Rattle.bit_slice.proofs.Clean.{Seen, IsCleanSeen, clean_set, clean_moved, moved_nowhere}

-- a bit appended to a clean vector leaves it clean
pub clean_joined : {X : Type 0} (w : ℕ) (old : Held X) (new : Seen) (b : Bool) → 0 < w → new.head ≡ old.head → new.list ≡ old.list ++ b ∷ [] → new.row ≡ put (sized w old.row (old.head + length old.list + 1)) (old.head + length old.list) (b ∷ []) → IsClean w old → IsCleanRow w new.head new.row new.list
clean_joined w old new b positive head list row clean =
    let n = length old.list in
    let more : length new.list ≡ n + 1 = ap length list ∙ length-append old.list (b ∷ []) in
    record {
      head = head ∙ clean.head;
      row = row ∙ ap (λ h. put (sized w old.row (h + n + 1)) (h + n) (b ∷ [])) clean.head ∙ ap (λ r. put (sized w r (0 + n + 1)) (0 + n) (b ∷ [])) clean.row
          ∙ sized_joined w old.list n b positive refl
          ∙ ap (λ l. sized w l (n + 1)) (sym list) ∙ ap (sized w new.list) (sym more);
    }

-- a list appended to a list and then false
joined_sized : (w : ℕ) (xs ys : List Bool) (len n : ℕ) → 0 < w → length xs ≡ len → length ys ≡ n → put (sized w (sized w xs len) (0 + len + n)) (0 + len) ys ≡ sized w (xs ++ ys) (len + n)
unfolding put sized
joined_sized w xs ys len n positive size more =
    let r = (room w len positive).0 in
    let s = (room w (len + n) positive).0 in
    let fewer : w * words_for w len ≤ w * words_for w (len + n) = mul-le-mul_left w (words_for_mono w len (len + n) positive (omega arith)) in
    let next : 0 + len + n ≡ len + n = omega arith in
    rw next (same_lists _ _ (search (rules, places)) (λ i d below. grind (arith, places)))

-- bits appended to a clean vector leave it clean
pub clean_grown : {X : Type 0} (w : ℕ) (old : Held X) (new : Seen) (ys : List Bool) → 0 < w → new.head ≡ old.head → new.list ≡ old.list ++ ys → new.row ≡ put (sized w old.row (old.head + length old.list + length ys)) (old.head + length old.list) ys → IsClean w old → IsCleanRow w new.head new.row new.list
clean_grown w old new ys positive head list row clean =
    let n = length old.list in
    let more : length new.list ≡ n + length ys = ap length list ∙ length-append old.list ys in
    record {
      head = head ∙ clean.head;
      row = row ∙ ap (λ h. put (sized w old.row (h + n + length ys)) (h + n) ys) clean.head ∙ ap (λ r. put (sized w r (0 + n + length ys)) (0 + n) ys) clean.row
          ∙ joined_sized w old.list ys n (length ys) positive refl refl
          ∙ ap (λ l. sized w l (n + length ys)) (sym list) ∙ ap (sized w new.list) (sym more);
    }

-- a bit put before another: one appended, the rest moved up, and it written
pub clean_inserted : {X : Type 0} (w : ℕ) (old mid : Held X) (new : Seen) (i : ℕ) (b : Bool) → 0 < w → i ≤ length old.list → mid.list ≡ old.list ++ b ∷ [] → new.head ≡ mid.head → new.list ≡ insert old.list i b
    → new.row ≡ set (moved mid.row (mid.head + i) (mid.head + i + 1) (length old.list - i)) (mid.head + i) b → IsClean w mid → IsCleanRow w new.head new.row new.list
clean_inserted w old mid new i b positive h joined head list row clean =
    let n = length old.list - i in
    let size : length mid.list ≡ length old.list + 1 = ap length joined ∙ length-append old.list (b ∷ []) in
    let shifted : Seen = record { head = mid.head; row = moved mid.row (mid.head + i) (mid.head + (i + 1)) n; list = moved mid.list i (i + 1) n } in
    let still : IsCleanSeen w shifted = clean_moved w (record { head = mid.head; row = mid.row; list = mid.list }) shifted i (i + 1) n positive (omega arith) (omega arith) refl refl refl clean in
    let long : length shifted.list ≡ length mid.list = length-moved mid.list i (i + 1) n in
    let next : mid.head + i + 1 ≡ mid.head + (i + 1) = omega arith in
    clean_set w shifted new i b positive (omega arith) head
    (list ∙ sym (inserted old.list i b h) ∙ ap (λ l. set (moved l i (i + 1) n) i b) (sym joined))
    (row ∙ ap (λ d. set (moved mid.row (mid.head + i) d n) (mid.head + i) b) next)
    still

cut_false : (w : ℕ) (xs : List Bool) → 0 < w → sized w (sized w (xs ++ false ∷ []) (length xs + 1)) (0 + length xs) ≡ sized w xs (length xs)
unfolding sized
cut_false w xs positive =
    let r = (room w (length xs) positive).0 in
    let s = (room w (length xs + 1) positive).0 in
    let none : 0 + length xs ≡ length xs = omega arith in
    rw none (same_lists _ _ (search (rules, places)) (λ i d below. grind (arith, places)))

-- the last bit taken, where it is false
pub clean_popped : {X : Type 0} (w : ℕ) (old : Held X) (new : Seen) (b : Bool) → 0 < w → Some b ≢ Some true → new.head ≡ old.head → old.list ≡ new.list ++ b ∷ [] → new.row ≡ sized w old.row (old.head + (length old.list - 1)) → IsClean w old → IsCleanRow w new.head new.row new.list
clean_popped w old new true positive h head list row clean = absurd (h refl)
clean_popped w old new false positive h head list row clean =
    let n = length new.list in
    let size : length old.list ≡ n + 1 = ap length list ∙ length-append new.list (false ∷ []) in
    let less : length old.list - 1 ≡ n = omega arith in
    record {
      head = head ∙ clean.head;
      row = row ∙ ap (λ m. sized w old.row (old.head + m)) less ∙ ap (λ k. sized w old.row (k + n)) clean.head ∙ ap (λ r. sized w r (0 + n)) clean.row
          ∙ ap (λ l. sized w (sized w l (length old.list)) (0 + n)) list ∙ ap (λ m. sized w (sized w (new.list ++ false ∷ []) m) (0 + n)) size
          ∙ cut_false w new.list positive;
    }

-- a vector that is clean has its list at the beginning already
pub clean_aligned : {X : Type 0} (w : ℕ) (old : Held X) (new : Seen) → new.head ≡ 0 → new.list ≡ old.list → new.row ≡ sized w (moved old.row old.head 0 (length old.list)) (length old.list) → IsClean w old → IsCleanRow w new.head new.row new.list
clean_aligned w old new head list row clean =
    let n = length old.list in
    record {
      head = head;
      row = row ∙ ap (λ h. sized w (moved old.row h 0 n) n) clean.head ∙ ap (λ r. sized w r n) (moved_nowhere old.row 0 n) ∙ ap (λ r. sized w r n) clean.row
          ∙ sized_same w (sized w old.list n) n (length-sized w old.list n) ∙ ap (λ l. sized w l (length l)) (sym list);
    }

-- the words of a clean vector are those for its list
pub clean_words : {X Y : Type 0} (W : store.Ghosts X) (P : order.Ghosts Y) (v : Held X) (items : List X) → IsWidth W.BITS → items ≡ words_from W P v.row → IsClean W.BITS v → items ≡ words_for_list W P v.list
clean_words W P v items width from clean =
    from ∙ ap (λ r. map W.number (packed P.place W.BITS r)) clean.row ∙ ap (map W.number) (packed_sized P.place W.BITS v.list (length v.list) (width_positive W.BITS width) refl)
