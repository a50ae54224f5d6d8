use Rattle.std.proofs.Common.{◌<◌, ◌≤◌, ◌%◌, ◌^◌, ◌∙◌, ap, subst, rules}
use Rattle.std.specs.Prelude.{FitsSigned}
use Rattle.std.specs.Int.{w64, cast_unsigned}
use Rattle.std.proofs.lemmas.Int.{to_z-of_z}
use Rattle.bit_records.proofs.Complements.{signed_pushed}
use Rattle.bit_records.proofs.records.Records.push_signed.Goals as goal

pub returns-in-Ok-clause-list : goal.returns-in-Ok-clause-list
returns-in-Ok-clause-list g c =
    let now = c.args.self.now in
    let width = c.width-width.ensures.value in
    let fits : FitsSigned w64 c.args.number = search rules in
    let passed = to_z-of_z w64 c.args.number fits in
    let is = c.low_digits.ensures ∙ ap (λ z. cast_unsigned w64 z % 2 ^ c.width-width.result) passed ∙ ap (λ k. cast_unsigned w64 c.args.number % 2 ^ k) width in
    let some : 0 < now.width = subst (λ k. 0 < k) width c.width-width.ensures.some in
    let few : now.width ≤ 64 = subst (λ k. k ≤ 64) width c.width-width.ensures.few in
    signed_pushed now.width c.push.new.self.width c.low_digits.result c.args.number some few c.requires is c.in-Ok.ensures.width
    now.list c.push.new.self.list c.in-Ok.ensures.list
