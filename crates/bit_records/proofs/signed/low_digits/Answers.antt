use Rattle.std.proofs.Common.{◌≡◌, ◌%◌, ◌^◌, bit_and, ◌∙◌, ap, rules}
use Rattle.std.specs.Int.{w64, cast_unsigned}
use Rattle.std.proofs.lemmas.Nat.{and_mask}
use Rattle.bit_slice.proofs.Signed.{all_ones}
use Rattle.bit_records.proofs.signed.low_digits.Goals as goal

pub returns : goal.returns
returns c =
    let is : c.cast_unsigned.result ≡ cast_unsigned w64 c.args.number = search rules in
    ap (bit_and c.cast_unsigned.result) (all_ones c.args.n c.requires.few) ∙ and_mask c.cast_unsigned.result c.args.n ∙ ap (λ k. k % 2 ^ c.args.n) is
