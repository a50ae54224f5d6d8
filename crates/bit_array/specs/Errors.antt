-- Why a view can't become an array.
use Rattle.std.specs.Prelude.{◌≡◌, ◌≢◌, ℕ, List, ◌++◌, codes}
use Rattle.std.specs.Fmt.{decimal}
use Rattle.std.specs.Ordering.{nat_cmp, ordering_then}
use Rattle.std.specs.declared.cmp.Ordering.{Ordering}
use Rattle.std.specs.declared.cmp.Ordering.TheVariants.{Less, Equal, Greater}
use Rattle.bit_array.specs.declared.errors.Reason.{Reason}
use Rattle.bit_array.specs.declared.errors.Reason.TheVariants as reasons
use Rattle.bit_array.specs.declared.errors.TryFromBitSliceError.{TryFromBitSliceError}

-- the number of bits of the view, and the number that the array has
abbrev pub UnequalLen : ℕ → ℕ → TryFromBitSliceError
UnequalLen actual expected = record { reason = reasons.UnequalLen actual expected }

-- the view's head isn't 0
abbrev pub Misaligned : TryFromBitSliceError
Misaligned = record { reason = reasons.Misaligned }

-- a view of n bits with this head is refused as an array of m bits: for its length where that is another, else for its head
abbrev pub Refuses : ℕ → ℕ → ℕ → TryFromBitSliceError → Type 0
Refuses n head m error = (n ≢ m → error ≡ UnequalLen n m) × (n ≡ m → (head ≢ 0) × (error ≡ Misaligned))

-- the words for it
abbrev pub reason_text : Reason → List ℕ
reason_text (reasons.UnequalLen actual expected) = codes "bit-slice with length " ++ (decimal actual ++ (codes " cannot be viewed as bit-array with length " ++ decimal expected))
reason_text reasons.Misaligned = codes "a bit-slice must begin at the front edge of a storage element in order to be viewed as a bit-array"

abbrev pub text_of : TryFromBitSliceError → List ℕ
text_of error = reason_text error.reason

-- which comes first: a fault of the length before one of the head, and of two of the length the one with the smaller actual length, then the one with the smaller expected length
abbrev pub reason_order : Reason → Reason → Ordering
reason_order (reasons.UnequalLen a n) (reasons.UnequalLen b m) = ordering_then (nat_cmp a b) (nat_cmp n m)
reason_order (reasons.UnequalLen a n) reasons.Misaligned = Less
reason_order reasons.Misaligned (reasons.UnequalLen b m) = Greater
reason_order reasons.Misaligned reasons.Misaligned = Equal

abbrev pub order_of : TryFromBitSliceError → TryFromBitSliceError → Ordering
order_of error other = reason_order error.reason other.reason
