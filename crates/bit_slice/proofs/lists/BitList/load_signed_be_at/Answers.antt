use Rattle.std.proofs.Common.{◌≡◌, ◌∙◌, ap, rules}
use Rattle.std.specs.Int.{w64, cast_signed, cast_unsigned}
use Rattle.std.specs.Prelude.{FitsSigned}
use Rattle.std.proofs.lemmas.Int.{to_z-of_z}
use Rattle.bit_addressing.specs.Row.{binary}
use Rattle.bit_slice.specs.Signed.{signed_of}
use Rattle.bit_slice.proofs.Signed.{signed_same}
use Rattle.bit_slice.proofs.lists.BitList.load_signed_be_at.Goals as goal

pub returns-clause-digits : goal.returns-clause-digits
returns-clause-digits g c =
    let fits : FitsSigned w64 c.extended.result = search rules in
    let is : cast_signed w64 (cast_unsigned w64 c.extended.result) ≡ signed_of c.args.n c.load_be_at.result = to_z-of_z w64 c.extended.result fits ∙ c.extended.ensures in
    ap (λ z. binary c.args.n (cast_unsigned w64 z)) is ∙ signed_same c.args.n c.load_be_at.result c.requires.some c.requires.few c.load_be_at.ensures.below ∙ c.load_be_at.ensures.digits
