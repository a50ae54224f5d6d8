-- What holds of the words of each array.
use Rattle.std.proofs.Common.{◌≡◌, ℕ, ◌+◌, ◌*◌, Bool, false, List, length, map, replicate, slice_range, refl, sym, ◌∙◌, ap}
use Rattle.bit_addressing.specs.Bits.{IsWidth}
use Rattle.bit_addressing.specs.declared.store.BitStore as store
use Rattle.bit_addressing.specs.declared.order.BitOrder as order
use Rattle.bit_addressing.specs.Row.{row_of, put, packed, words_for}
use Rattle.bit_addressing.specs.Typed.{row, words_from, words_for_list}
use Rattle.bit_rows.proofs.Canon.{packed_sized}
use Rattle.bit_addressing.proofs.lists.Sized.{sized_same, words_for_all}
use Rattle.bit_addressing.proofs.Rows.{width_positive, row_zeros}
use Rattle.bit_addressing.proofs.Typed.{length_row, map_replicate}
use Rattle.bit_slice.specs.Operators.{combined}
use Rattle.bit_slice.proofs.Combining.{length-combined}
use Rattle.bit_slice.proofs.Shown.{put_all, shown_all}

module _ {X Y : Type 0} (W : store.Ghosts X) (P : order.Ghosts Y) where
  -- words of zero have false bits alone
  pub row_zero : (ws : List X) (n : ℕ) → IsWidth W.BITS → W.value W.ZERO ≡ 0 → ws ≡ replicate n W.ZERO → row W P ws ≡ replicate (W.BITS * n) false
  row_zero ws n width none is =
      ap (λ l. row_of P.place W.BITS (map W.value l)) is
      ∙ ap (row_of P.place W.BITS) (map_replicate W.value n W.ZERO ∙ ap (replicate n) none)
      ∙ row_zeros P.place W.BITS n (width_positive W.BITS width)

  -- bits that are written over all bits
  pub row_whole : (old new : List X) (bits : List Bool) (n : ℕ) → length old ≡ n → length bits ≡ W.BITS * n → row W P new ≡ put (row W P old) 0 bits → row W P new ≡ bits
  row_whole old new bits n count size is =
      is ∙ put_all (row W P old) bits 0 refl (size ∙ ap (λ m. W.BITS * m) (sym count) ∙ sym (length_row W.value P.place W.BITS old))

  -- bits that are combined with all bits
  pub row_combined : (old new : List X) (f : Bool → Bool → Bool) (ys zs : List Bool) (n len : ℕ) → length old ≡ n → len ≡ W.BITS * n → zs ≡ ys
      → row W P new ≡ put (row W P old) 0 (combined f (slice_range (row W P old) 0 (0 + len)) zs) → row W P new ≡ combined f (row W P old) ys
  row_combined old new f ys zs n len count size same is =
      let long : length (row W P old) ≡ W.BITS * n = length_row W.value P.place W.BITS old ∙ ap (λ m. W.BITS * m) count in
      let all : slice_range (row W P old) 0 (0 + len) ≡ row W P old = shown_all (row W P old) len (size ∙ sym long) in
      row_whole old new (combined f (row W P old) ys) n count (length-combined f (row W P old) ys ∙ long)
      (is ∙ ap (λ l. put (row W P old) 0 (combined f l zs)) all ∙ ap (λ l. put (row W P old) 0 (combined f (row W P old) l)) same)

  -- the words of an array are those for its list
  pub words_of_bits : (ws : List X) → IsWidth W.BITS → ws ≡ words_from W P (row W P ws) → ws ≡ words_for_list W P (row W P ws)
  words_of_bits ws width from =
      let w = W.BITS in
      let bits = row W P ws in
      let positive = width_positive w width in
      let size : length bits ≡ w * length ws = length_row W.value P.place w ws in
      from
      ∙ ap (λ l. map W.number (packed P.place w l)) (sym (sized_same w bits (length bits) (size ∙ ap (λ m. w * m) (words_for_all w (length ws) positive ∙ ap (words_for w) (sym size)))))
      ∙ ap (map W.number) (packed_sized P.place w bits (length bits) positive refl)
