use Rattle.std.proofs.Common.{◌≡◌, ℕ, ◌+◌, ◌-◌, ◌/◌, ◌<◌, take, subst, sym, ◌∙◌, ap, arith}
use Rattle.std.proofs.Output.{has_written_styled_of_eq}
use Rattle.std.specs.Str.{IsAscii}
use Rattle.bit_addressing.specs.Row.{words_for}
use Rattle.bit_slice.proofs.Digits.{groups_are, groups_most}
use Rattle.bit_slice.proofs.texts.write_groups.Goals as goal

pub put_groups-requires-clause-room : goal.put_groups-requires-clause-room
put_groups-requires-clause-room g c = omega (arith, c.requires.small, c.requires.few, groups_most c.args.size c.args.n c.requires.some)

groups : (s n : ℕ) → 0 < s → 0 + words_for s n ≡ (n + (s - 1)) / s
groups s n positive =
    let same : 0 + words_for s n ≡ words_for s n = omega arith in
    same ∙ groups_are s n positive

pub text_of-requires-clause-ascii : goal.text_of-requires-clause-ascii
text_of-requires-clause-ascii g c =
    subst (λ k. IsAscii (take k c.put_groups.new.piece)) (groups c.args.size c.args.n c.requires.some) (c.put_groups.ensures.ascii (λ _. omega arith))

pub returns : goal.returns
returns g c flush ok =
    has_written_styled_of_eq _ _ _ _ _ (c.text_of.ensures ∙ ap (λ k. take k c.put_groups.new.piece) (sym (groups c.args.size c.args.n c.requires.some)) ∙ c.put_groups.ensures.text) (c.write_str.ensures.styled flush ok)
