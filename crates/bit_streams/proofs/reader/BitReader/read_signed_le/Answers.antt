use Rattle.std.proofs.Common.{◌≡◌, ◌%◌, ◌^◌, ◌++◌, [], append-nil, Some, sym, ◌∙◌, ap, subst, rules}
use Rattle.std.specs.Int.{w64, cast_signed, cast_unsigned}
use Rattle.std.specs.Prelude.{FitsSigned}
use Rattle.std.proofs.lemmas.Int.{to_z-of_z}
use Rattle.std.proofs.Math.Pow.{pow_pos}
use Rattle.std.proofs.lemmas.Nat.{mod_below}
use Rattle.bit_addressing.specs.Row.{number_bits}
use Rattle.bit_slice.specs.Signed.{IsSigned, signed_bits, signed_of}
use Rattle.bit_slice.proofs.Signed.{signed_back, signed_digits, signed_same_bits}
use Rattle.bit_rows.proofs.Binary.{bits_low}
use Rattle.bit_streams.proofs.reader.BitReader.read_signed_le.Goals as goal

pub returns-in-Some-clause-digits : goal.returns-in-Some-clause-digits
returns-in-Some-clause-digits g c =
    let fits : FitsSigned w64 c.extended.result = search rules in
    let is_signed : cast_signed w64 (cast_unsigned w64 c.extended.result) ≡ signed_of c.args.n c.in-Some.x = to_z-of_z w64 c.extended.result fits ∙ c.extended.ensures in
    c.in-Some.ensures.digits
    ∙ ap (λ l. l ++ c.read_le.new.self.rest) (sym (signed_same_bits c.args.n c.in-Some.x c.requires.some c.requires.few c.in-Some.ensures.below) ∙ ap (λ z. number_bits (cast_unsigned w64 z) c.args.n) (sym is_signed))

pub returns-in-Some-clause-within : goal.returns-in-Some-clause-within
returns-in-Some-clause-within g c =
    let fits : FitsSigned w64 c.extended.result = search rules in
    let is_signed : cast_signed w64 (cast_unsigned w64 c.extended.result) ≡ signed_of c.args.n c.in-Some.x = to_z-of_z w64 c.extended.result fits ∙ c.extended.ensures in
    subst (IsSigned c.args.n) (sym is_signed) (signed_digits c.args.n c.in-Some.x c.requires.some c.requires.few c.in-Some.ensures.below).1

pub returns-in-Some-clause-back : goal.returns-in-Some-clause-back
returns-in-Some-clause-back g c x more e is =
    let fits : FitsSigned w64 c.extended.result = search rules in
    let is_signed : cast_signed w64 (cast_unsigned w64 c.extended.result) ≡ signed_of c.args.n c.in-Some.x = to_z-of_z w64 c.extended.result fits ∙ c.extended.ensures in
    let low = cast_unsigned w64 x % 2 ^ c.args.n in
    let b = c.in-Some.ensures.back low more (e ∙ ap (λ l. l ++ more) (sym (bits_low c.args.n (cast_unsigned w64 x)))) (mod_below (cast_unsigned w64 x) (2 ^ c.args.n) (pow_pos c.args.n)) in
    let read : c.in-Some.x ≡ low = cc in
    (ap Some (is_signed ∙ ap (signed_of c.args.n) read ∙ signed_back c.args.n x c.requires.some c.requires.few is), b.1)

pub returns-in-None-clause-back : goal.returns-in-None-clause-back
returns-in-None-clause-back g c x more e is =
    let low = cast_unsigned w64 x % 2 ^ c.args.n in
    let b = c.in-None.ensures.back low more (e ∙ ap (λ l. l ++ more) (sym (bits_low c.args.n (cast_unsigned w64 x)))) (mod_below (cast_unsigned w64 x) (2 ^ c.args.n) (pow_pos c.args.n)) in
    absurd cc

pub returns-in-Some-clause-whole : goal.returns-in-Some-clause-whole
returns-in-Some-clause-whole g c x e is = returns-in-Some-clause-back g c x [] (e ∙ sym (append-nil (signed_bits x c.args.n))) is

pub returns-in-None-clause-whole : goal.returns-in-None-clause-whole
returns-in-None-clause-whole g c x e is = returns-in-None-clause-back g c x [] (e ∙ sym (append-nil (signed_bits x c.args.n))) is
