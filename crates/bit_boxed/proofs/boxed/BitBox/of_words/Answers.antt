use Rattle.std.proofs.Common.{◌≡◌, ◌*◌, length, ◌∙◌, ap, arith}
use Rattle.bit_addressing.proofs.Rows.{width_positive}
use Rattle.bit_slice.proofs.Clean.{clean_words}
use Rattle.bit_slice.proofs.Parts.{all_shown, row_size, shown_length}
use Rattle.bit_boxed.proofs.boxed.BitBox.of_words.Goals as goal

pub invariant_of-result : goal.invariant_of-result
invariant_of-result g c =
    let w = g.T.BitStore.BITS in
    let is : c.BITS.result * c.len.result ≡ w * length c.args.words.items = cc in
    rw is (record { head_below = width_positive w g.met.T.BitStore.width; len_small = c.requires; fits = omega arith; few = omega (arith, c.requires); shows = shown_length g.T.BitStore g.O.BitOrder c.args.words.items 0 (w * length c.args.words.items) (omega arith) })

pub returns-clause-list : goal.returns-clause-list
returns-clause-list g c = all_shown g.T.BitStore g.O.BitOrder c.args.words.items _ cc

pub returns-clause-len : goal.returns-clause-len
returns-clause-len g c = ap length (returns-clause-list g c) ∙ row_size g.T.BitStore g.O.BitOrder c.args.words.items

pub returns-clause-clean : goal.returns-clause-clean
returns-clause-clean g c = clean_words g.T.BitStore g.O.BitOrder c.args.words.items _ g.met.T.BitStore.width cc
