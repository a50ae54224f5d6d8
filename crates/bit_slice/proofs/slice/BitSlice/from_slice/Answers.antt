use Rattle.std.proofs.Common.{◌≡◌, ◌*◌, length, sym, ◌∙◌, ap, arith}
use Rattle.bit_addressing.specs.Typed.{row}
use Rattle.bit_slice.proofs.Parts.{whole, row_size}
use Rattle.bit_slice.proofs.Shown.{shown_all}
use Rattle.std.proofs.Common.{mul_comm}
use Rattle.bit_slice.proofs.slice.BitSlice.from_slice.Goals as goal

pub invariant_of-result : goal.invariant_of-result
invariant_of-result g c =
    let is : length c.args.words.now * c.BITS.result ≡ g.T.BitStore.BITS * length c.args.words.now = mul_comm (length c.args.words.now) c.BITS.result ∙ ap (λ w. w * length c.args.words.now) c.BITS.ensures in
    record { fits = whole g.T.BitStore.BITS (length c.args.words.now) _ g.met.T.BitStore.width (omega (arith, is, c.requires)) is }

pub returns-clause-list : goal.returns-clause-list
returns-clause-list g c =
    let is : length c.args.words.now * c.BITS.result ≡ g.T.BitStore.BITS * length c.args.words.now = mul_comm (length c.args.words.now) c.BITS.result ∙ ap (λ w. w * length c.args.words.now) c.BITS.ensures in
    shown_all (row g.T.BitStore g.O.BitOrder c.args.words.now) (length c.args.words.now * c.BITS.result) (is ∙ sym (row_size g.T.BitStore g.O.BitOrder c.args.words.now))
