-- What becomes of a view whose words were lent on, and of words of which a part was lent on.
use Rattle.std.specs.Prelude.{ℕ, ◌+◌, ◌-◌, ◌/◌, ◌%◌, List, [], ◌++◌, length, take, drop, refl}
use Rattle.std.specs.List.{refill, length_refill}
use Rattle.std.specs.Borrow.{follows, Fml, RattleType, MutBor, Array, GName}
use Rattle.std.proofs.Common.{subst}
use mir.Syntax.{named}
use Rattle.bit_addressing.specs.declared.store.BitStore as store
use Rattle.bit_addressing.specs.declared.order.BitOrder as order
use Rattle.bit_addressing.specs.Row.{words_for}
use Rattle.bit_slice.specs.Fits.{IsView}
use Rattle.bit_slice.specs.declared.slice_mut.BitSliceMut.{BitSliceMut}
use Rattle.bit_slice.specs.contracts.slice_mut.BitSliceMut.{the_row}

module _ {X Y : Type 0} (W : store.Ghosts X) (P : order.Ghosts Y) where
  -- the view with other words, as many as before
  abbrev pub with_words : BitSliceMut X Y W P → List X → BitSliceMut X Y W P
  with_words v ws =
      let xs = v.words.now in
      let n = length xs in
      record v {
        words = record v.words { now = refill n xs ws };
        fits = subst (λ (k : ℕ). IsView W.BITS k v.head v.len) (length_refill n xs ws refl) v.fits;
      }

-- words with others written over those from word `first` up to word `end`
abbrev pub with_part : {X : Type 0} → List X → ℕ → ℕ → List X → List X
with_part xs first end ws = take first xs ++ (ws ++ drop (end - first) (drop first xs))

-- words of which this part is lent under a name: those around it stay
abbrev pub lends_part : (T : RattleType) → MutBor (List T.Denot) → ℕ → ℕ → GName → Fml
lends_part T v first end n = follows (Array T 0) (Array T 0) v.ghost_name n (with_part v.now first end)

module _ {X Y : Type 0} (W : store.Ghosts X) (P : order.Ghosts Y) where
  -- the view with other words at those that have its bits from one index up to another
  abbrev pub with_run : BitSliceMut X Y W P → ℕ → ℕ → List X → BitSliceMut X Y W P
  with_run v from upto ws =
      let first = (v.head + from) / W.BITS in
      with_words W P v (with_part v.words.now first (first + words_for W.BITS ((v.head + from) % W.BITS + (upto - from))) ws)

module _ (T O : RattleType) (W : store.Ghosts T.Denot) (P : order.Ghosts O.Denot) (v : MutBor (BitSliceMut T.Denot O.Denot W P)) where
  -- the view ends with the last words under a name
  abbrev pub lends_words : GName → Fml
  lends_words n = follows (the_row (record { mir = named 1; lft = [] }) T O W P) (Array T 0) v.ghost_name n (with_words W P v.now)

  -- the same for the words that have its bits from one index up to another: those around them stay
  abbrev pub lends_run : ℕ → ℕ → GName → Fml
  lends_run from upto n = follows (the_row (record { mir = named 1; lft = [] }) T O W P) (Array T 0) v.ghost_name n (with_run W P v.now from upto)
