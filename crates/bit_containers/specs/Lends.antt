-- Where writes through lent words land.
use Rattle.std.specs.Prelude.{ℕ, List}
use Rattle.std.specs.Borrow.{Lends, follows, Fml, RattleType, MutBor, Array, GName}
use Rattle.bit_addressing.specs.declared.store.BitStore as store
use Rattle.bit_addressing.specs.declared.order.BitOrder as order
use Rattle.bit_boxed.specs.Lends.{written_over}
pub use Rattle.bit_slice.specs.Held.{with_words}
use Rattle.bit_slice.specs.Held.{Held}
use Rattle.bit_containers.specs.contracts.vec.BitVec.{the_row}

module _ (T O : RattleType) (W : store.Ghosts T.Denot) (P : order.Ghosts O.Denot) (v : MutBor (Held T.Denot)) where
  -- the vector ends with the words that this slice has at its end
  abbrev pub lends_words : MutBor (List T.Denot) → Fml
  lends_words r = Lends (the_row T O W P) (Array T 0) v r (with_words W P v.now)

  -- the same for words that are known by their ghost name alone, as those of a view
  abbrev pub lends_view : GName → Fml
  lends_view n = follows (the_row T O W P) (Array T 0) v.ghost_name n (with_words W P v.now)

  -- the same for words from word `first` on: those around them stay
  abbrev pub lends_run : ℕ → GName → Fml
  lends_run first n = follows (the_row T O W P) (Array T 0) v.ghost_name n (λ ws. with_words W P v.now (written_over v.now.words first ws))
