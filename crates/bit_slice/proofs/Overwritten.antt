-- What was written in a list that stands in words from a head on, told by the row of the words.
use Rattle.std.proofs.Common.{◌≡◌, ℕ, ◌+◌, ◌*◌, ◌≤◌, Bool, List, length, slice_get, slice_range, refl, sym, ◌∙◌, ap, arith}
use Rattle.bit_addressing.specs.Bits.{IsWidth}
use Rattle.bit_addressing.specs.declared.store.BitStore as store
use Rattle.bit_addressing.specs.declared.order.BitOrder as order
use Rattle.bit_addressing.specs.Row.{moved, put}
use Rattle.bit_addressing.specs.Typed.{row}
use Rattle.bit_addressing.proofs.Rows.{width_positive}
use Rattle.bit_addressing.proofs.lists.Moved.{shows_moved}
use Rattle.bit_addressing.proofs.lists.Shown.{shown_written}
use Rattle.bit_slice.proofs.Clean.{Seen, clean_moved, clean_put, clean_whole}
use Rattle.bit_slice.proofs.Parts.{in_row, row_size, shown_length}
use Rattle.bit_slice.proofs.Ranges.{read_before, read_after}
use Rattle.bit_slice.proofs.Shown.{moved_lands, put_all, shown_filled}
use Rattle.bit_slice.specs.Overwritten.{list_in, IsMovedWithin, IsRewritten, IsWritten}

module _ {X Y : Type 0} (W : store.Ghosts X) (P : order.Ghosts Y) (old new : List X) (head len : ℕ) (width : IsWidth W.BITS) (room : head + len ≤ W.BITS * length old) (size : length new ≡ length old) where
  abbrev seen_in : List X → Seen
  seen_in ws = record { head = head; row = row W P ws; list = list_in W P ws head len }

  -- a part put into the row is written into the list
  pub written_in : (start end : ℕ) (bits : List Bool) → start + length bits ≡ end → end ≤ len → row W P new ≡ put (row W P old) (head + start) bits → IsWritten W P old new head len start end bits
  written_in start end bits ends inside is =
      let fits : start + length bits ≤ len = omega arith in
      let long : length (list_in W P old head len) ≡ len = shown_length W P old head len room in
      let list : list_in W P new head len ≡ put (list_in W P old head len) start bits =
      ap (λ r. slice_range r head (head + len)) is ∙ shown_written (row W P old) bits head len start fits (in_row W P old (head + len) room) in
      record {
        row = is;
        list = list;
        written = ap (λ l. slice_range l start end) list ∙ ap (slice_range (put (list_in W P old head len) start bits) start) (sym ends) ∙ shown_filled (list_in W P old head len) bits start (length bits) refl (omega arith);
        before = λ j below. ap (λ l. slice_get l j) list ∙ read_before (list_in W P old head len) bits start (length bits) refl (omega arith) j below;
        after = λ j past. ap (λ l. slice_get l j) list ∙ read_after (list_in W P old head len) bits start (length bits) refl (omega arith) j (omega arith);
        clean = clean_put W.BITS (seen_in old) (seen_in new) start bits (width_positive W.BITS width) (omega (arith, long, fits)) refl list is;
        size = size;
      }

  -- a whole list put into the row is the new list
  pub rewritten_in : (bits : List Bool) → length bits ≡ len → row W P new ≡ put (row W P old) head bits → IsRewritten W P old new head len bits
  rewritten_in bits full is =
      let long : length (list_in W P old head len) ≡ len = shown_length W P old head len room in
      let list : list_in W P new head len ≡ bits =
      ap (λ r. slice_range r head (head + len)) is ∙ shown_filled (row W P old) bits head len (sym full) (in_row W P old (head + len) room) in
      record {
        row = is;
        list = list;
        whole = λ begins all. is ∙ put_all (row W P old) bits head begins (full ∙ all ∙ sym (row_size W P old));
        clean = clean_whole W.BITS (seen_in old) (seen_in new) bits (width_positive W.BITS width) (full ∙ sym long) refl list is;
        size = size;
      }

  -- a move within the row is one within the list
  pub moved_within : (s d n : ℕ) → s + n ≤ len → d + n ≤ len → row W P new ≡ moved (row W P old) (head + s) (head + d) n → IsMovedWithin W P old new head len s d n
  moved_within s d n from to is =
      let shown : List Bool = list_in W P old head len in
      let long : length shown ≡ len = shown_length W P old head len room in
      let inside : s + n ≤ length shown = omega arith in
      let there : d + n ≤ length shown = omega arith in
      let list : list_in W P new head len ≡ moved shown s d n =
      ap (λ r. slice_range r head (head + len)) is ∙ shows_moved (row W P old) head len s d n from to (in_row W P old (head + len) room) in
      record {
        row = is;
        list = list;
        landed = ap (λ l. slice_range l d (d + n)) list ∙ moved_lands shown s d n inside there;
        clean = clean_moved W.BITS (record { head = head; row = row W P old; list = shown }) (record { head = head; row = row W P new; list = list_in W P new head len }) s d n (width_positive W.BITS width) inside there refl list is;
        size = size;
      }
