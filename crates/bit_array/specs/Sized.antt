-- Words that are lent as a slice, and what becomes of their lender.
use Rattle.std.specs.Prelude.{◌≡◌, List, [], ◌∷◌, length, slice_index_or, refl}
use Rattle.std.specs.Borrow.{follows, MutBor, Fml, RattleType, Array, GName}
use Rattle.std.proofs.Common.{arith}

-- the lender ends as F of the last words under a name, as those of a view
abbrev pub lends_view : (R T : RattleType) → MutBor R.Denot → (List T.Denot → R.Denot) → GName → Fml
lends_view R T s F n = follows R (Array T 0) s.ghost_name n F

-- a list of one word is the word that it begins with
pub one_kept : {X : Type 0} (w : X) (ws : List X) → length ws ≡ 1 → slice_index_or ws 0 w ∷ [] ≡ ws
one_kept w [] e = absurd (omega (arith, e))
one_kept w (x ∷ []) e = refl
one_kept w (x ∷ y ∷ ys) e = absurd (omega (arith, e))
