-- Records compared, as std's traits ask.
use Rattle.std.specs.Prelude.{◌&&◌, Bool, nat_eq}
use Rattle.std.specs.Cmp.{IsEquivalence, and_equiv, on_equiv, nat_eq_equiv}
use Rattle.std.specs.Cmp.Lexicographic.{pointwise, lists_equiv}
use Rattle.bit_records.specs.Records.{Filed}

-- whether records are equal: of one width, with the same numbers
abbrev pub are_equal : {X : Type 0} → Filed X → Filed X → Bool
are_equal a b = nat_eq a.width b.width && pointwise nat_eq a.list b.list

pub equal_equiv : {X : Type 0} → IsEquivalence (are_equal {X = X})
equal_equiv {X} = and_equiv (on_equiv (λ (r : Filed X). r.width) nat_eq_equiv) (on_equiv (λ (r : Filed X). r.list) (lists_equiv nat_eq_equiv))
