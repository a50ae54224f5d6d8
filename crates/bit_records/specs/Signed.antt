-- Records as signed numbers.
use Rattle.std.specs.Prelude.{ℤ, List, map}
use Rattle.bit_records.specs.Records.{Filed}
use Rattle.bit_slice.specs.Signed.{signed_of}

-- the numbers that the digits stand for in two's complement
abbrev pub signed_numbers : {X : Type 0} → Filed X → List ℤ
signed_numbers r = map (signed_of r.width) r.list
