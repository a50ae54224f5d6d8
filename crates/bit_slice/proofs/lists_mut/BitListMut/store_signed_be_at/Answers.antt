use Rattle.std.proofs.Common.{ap, rules, ◌∙◌}
use Rattle.std.specs.Int.{w64, cast_unsigned}
use Rattle.std.specs.Prelude.{FitsSigned}
use Rattle.std.proofs.lemmas.Int.{to_z-of_z}
use Rattle.bit_addressing.specs.Binary.{value}
use Rattle.bit_addressing.specs.Row.{binary}
use Rattle.bit_slice.specs.Signed.{signed_of}
use Rattle.bit_slice.proofs.Signed.{signed_written}
use Rattle.bit_slice.proofs.lists_mut.BitListMut.store_signed_be_at.Goals as goal

pub returns-clause-read_back : goal.returns-clause-read_back
returns-clause-read_back g c some is =
    let fits : FitsSigned w64 c.args.number = search rules in
    let same = c.cast_unsigned.ensures ∙ ap (cast_unsigned w64) (to_z-of_z w64 c.args.number fits) in
    ap (λ l. signed_of c.args.n (value l)) c.store_be_at.ensures.written ∙ ap (λ y. signed_of c.args.n (value (binary c.args.n y))) same ∙ signed_written c.args.n c.args.number some c.requires.few is
