use Rattle.std.proofs.Common.{ap, rules, ◌∙◌}
use Rattle.std.specs.Int.{w64, cast_unsigned}
use Rattle.std.specs.Prelude.{FitsSigned}
use Rattle.std.proofs.lemmas.Int.{to_z-of_z}
use Rattle.bit_addressing.specs.Row.{number_bits, number_of}
use Rattle.bit_slice.specs.Signed.{signed_of}
use Rattle.bit_slice.proofs.Signed.{signed_bits_written}
use Rattle.bit_slice.proofs.lists_mut.BitListMut.store_signed_le_at.Goals as goal

pub returns-clause-read_back : goal.returns-clause-read_back
returns-clause-read_back g c some is =
    let fits : FitsSigned w64 c.args.number = search rules in
    let same = c.cast_unsigned.ensures ∙ ap (cast_unsigned w64) (to_z-of_z w64 c.args.number fits) in
    ap (λ l. signed_of c.args.n (number_of l)) c.store_le_at.ensures.written ∙ ap (λ y. signed_of c.args.n (number_of (number_bits y c.args.n))) same ∙ signed_bits_written c.args.n c.args.number some c.requires.few is
