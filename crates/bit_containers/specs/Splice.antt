-- What a contract sees of a `Splice`.
use Rattle.std.specs.Prelude.{◌≡◌, ◌≤◌, Bool, List, length, slice_range, Option}
use Rattle.std.specs.Borrow.{GName}
use Rattle.std.specs.Iterator.{YieldsFirst, YieldsLast}
use Rattle.bit_containers.specs.BitVec.{Held}
use Rattle.bit_containers.specs.declared.vec.splice.Splice.{Splice}

module _ {X Y I : Type 0} where
  -- the replaced bits that are still to come
  abbrev pub splice_rest : Splice X Y I → List Bool
  splice_rest s = slice_range s.vec.now.list s.front s.back

  -- the vector that is lent, as it is
  abbrev pub splice_vector : Splice X Y I → Held X
  splice_vector s = s.vec.now

  -- the ghost name of the reference to it
  abbrev pub splice_lender : Splice X Y I → GName
  splice_lender s = s.vec.ghost_name

  -- the range lies in the vector, and the bits that are still to come lie in the range
  abbrev pub SpliceIsReady : Splice X Y I → Type 0
  SpliceIsReady s = (s.start ≤ s.front) × (s.front ≤ s.back) × (s.back ≤ s.end) × (s.end ≤ length s.vec.now.list)

  -- both replace the same bits of the same vector by the same replacement
  abbrev pub SpliceKeeps : Splice X Y I → Splice X Y I → Type 0
  SpliceKeeps old new = (splice_lender new ≡ splice_lender old) × (splice_vector new ≡ splice_vector old)
      × (new.start ≡ old.start) × (new.end ≡ old.end) × (new.replacement ≡ old.replacement)

  -- it replaces the same bits by the same replacement, and no replaced bit is left to come
  abbrev pub SpliceIsEmptied : Splice X Y I → Splice X Y I → Type 0
  SpliceIsEmptied old new = SpliceKeeps old new × (new.front ≡ new.back) × SpliceIsReady new

  -- a step at the front
  abbrev pub SpliceSteps : Splice X Y I → Option Bool → Splice X Y I → Type 0
  SpliceSteps old item new = YieldsFirst splice_rest old item new × SpliceKeeps old new

  -- a step at the back
  abbrev pub SpliceStepsBack : Splice X Y I → Option Bool → Splice X Y I → Type 0
  SpliceStepsBack old item new = YieldsLast splice_rest old item new × SpliceKeeps old new
