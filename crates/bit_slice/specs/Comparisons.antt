-- Lists of bits compared, as std's traits ask: equality, order and what a hasher is fed, with their laws.
use Rattle.std.specs.Prelude.{◌≡◌, ◌↔◌, Bool, true, false, List, IsTrue, Some, refl}
use Rattle.std.specs.Ordering.{is_eq, bool_cmp}
use Rattle.std.specs.Cmp.{IsEquivalence, IsTotalOrder, IsPartialOrder, bool_eq_equiv, bool_cmp_total, booleans_Decides, partial_order_from_agreeing_total}
use Rattle.std.specs.Cmp.Lexicographic.{pointwise, lists_equiv, lists_total, lists_ties, pointwise_decides}
use Rattle.std.specs.Hash as fed
use Rattle.std.specs.Hash.{Alike, same_Alike}
use Rattle.std.specs.List.{flat_map}
use Rattle.std.proofs.Math.Bool.{beq}
use Rattle.bit_slice.specs.Operators.{bits_cmp}

-- whether two lists have the same items
abbrev pub bits_equal : List Bool → List Bool → Bool
bits_equal = pointwise beq

pub bits_equiv : IsEquivalence bits_equal
bits_equiv = lists_equiv bool_eq_equiv

pub bits_total : IsTotalOrder bits_cmp
bits_total = lists_total bool_cmp_total

bit_tie : (x y : Bool) → beq x y ≡ is_eq (bool_cmp x y)
bit_tie false false = refl
bit_tie false true = refl
bit_tie true false = refl
bit_tie true true = refl

-- the lists that are equal are those whose order is `Equal`
pub bits_tie : (xs ys : List Bool) → bits_equal xs ys ≡ is_eq (bits_cmp xs ys)
bits_tie = lists_ties bool_cmp bit_tie

pub bits_partial : IsPartialOrder bits_equal (λ xs ys. Some (bits_cmp xs ys))
bits_partial = partial_order_from_agreeing_total bits_cmp bits_total (λ x y. refl) bits_tie

-- what a hasher is fed of a list: the hash of each bit, in order, and nothing else
abbrev pub bits_fed : List Bool → fed.HashWrites
bits_fed = flat_map fed.bool

pub bits_alike : Alike bits_equal bits_fed
bits_alike = same_Alike bits_fed (pointwise_decides booleans_Decides)

pub equal_lists : (xs ys : List Bool) → IsTrue (bits_equal xs ys) ↔ (xs ≡ ys)
equal_lists = pointwise_decides booleans_Decides
