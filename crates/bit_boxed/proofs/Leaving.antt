-- What is left of a box's list, where its words are written over.
use Rattle.std.proofs.Common.{◌≡◌, ℕ, ◌+◌, ◌-◌, ◌*◌, ◌≤◌, Bool, List, length, slice_range, refl, sym, ◌∙◌, ap, subst, arith}
use Rattle.std.specs.List.{refill, length_refill}
use Rattle.bit_addressing.specs.declared.store.BitStore as store
use Rattle.bit_addressing.specs.declared.order.BitOrder as order
use Rattle.bit_addressing.specs.Typed.{row}
use Rattle.bit_addressing.proofs.lists.Shown.{length-between}
use Rattle.bit_addressing.proofs.lists.Refilled.{refilled}
use Rattle.bit_slice.proofs.Parts.{in_row, shown_length, run_in_run}

module _ {X Y : Type 0} (W : store.Ghosts X) (P : order.Ghosts Y) where
  -- a part that is left and written back lands in the words that it came from
  pub left_lands : (xs ws : List X) (old : List Bool) (head from upto : ℕ) → head + length old ≤ W.BITS * length xs → from ≤ upto → upto ≤ length old
      → let now : List X = refill (length xs) xs ws in let left : List Bool = slice_range old from upto in
      slice_range (refill (length old) old (slice_range (row W P now) head (head + length old))) from upto ≡ refill (length left) left (slice_range (row W P now) (head + from) (head + from + length left))
  left_lands xs ws old head from upto room ordered inside =
      let now : List X = refill (length xs) xs ws in
      let left : List Bool = slice_range old from upto in
      let bits : List Bool = row W P now in
      let fits : head + length old ≤ W.BITS * length now = subst (λ k. head + length old ≤ W.BITS * k) (length_refill (length xs) xs ws refl) room in
      let all : List Bool = slice_range bits head (head + length old) in
      let size : length left ≡ upto - from = length-between old from upto inside in
      let end : head + from + length left ≡ head + upto = omega (arith, size, ordered) in
      let part : head + from + length left ≤ W.BITS * length now = omega (arith, end, fits, inside) in
      ap (λ l. slice_range l from upto) (refilled (length old) old all (shown_length W P now head (length old) fits))
      ∙ run_in_run bits head (head + length old) from upto (omega (arith, inside)) (in_row W P now (head + length old) fits) ordered
      ∙ ap (slice_range bits (head + from)) (sym end)
      ∙ sym (refilled (length left) left (slice_range bits (head + from) (head + from + length left)) (shown_length W P now (head + from) (length left) part))
