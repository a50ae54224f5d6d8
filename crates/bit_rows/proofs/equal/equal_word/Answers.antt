use Rattle.std.proofs.Common.{sym, ap, ◌∙◌, arith}
use Rattle.std.proofs.lemmas.Bool.Decides.{nat_tests}
use Rattle.bit_addressing.proofs.Rows.{width_small}
use Rattle.bit_addressing.proofs.Words.{same_in_64}
use Rattle.bit_rows.proofs.equal.equal_word.Goals as goal

pub returns : goal.returns
returns g c =
    let both = same_in_64 g.T.BitStore.BITS (g.T.BitStore.value c.args.left) (g.T.BitStore.value c.args.right) c.to_u64.result c.to_u64-2.result (width_small _ g.met.T.BitStore.width) c.requires.left c.requires.right c.to_u64.type_inv c.to_u64-2.type_inv c.to_u64.ensures.low c.to_u64.ensures.high c.to_u64-2.ensures.low c.to_u64-2.ensures.high in (
      λ same. sym (g.met.T.BitStore.number_is c.args.left) ∙ ap g.T.BitStore.number (both.0 (grind (arith, nat_tests, same))) ∙ g.met.T.BitStore.number_is c.args.right,
      λ same. let e = both.1 (ap g.T.BitStore.value same) in grind (arith, nat_tests, e),
    )
