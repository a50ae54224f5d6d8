use Rattle.std.proofs.Common.{◌≡◌, ◌*◌, length, ◌∙◌, ap, arith}
use Rattle.bit_addressing.specs.Row.{words_for}
use Rattle.bit_addressing.proofs.lists.Sized.{words_for_all}
use Rattle.bit_addressing.proofs.Rows.{width_positive}
use Rattle.bit_slice.proofs.Clean.{clean_words}
use Rattle.bit_slice.proofs.Parts.{all_shown, row_size, shown_length}
use Rattle.bit_containers.proofs.vec.BitVec.from_vec.Goals as goal

pub invariant_of-result : goal.invariant_of-result
invariant_of-result g c =
    let w = g.T.BitStore.BITS in
    let positive = width_positive w g.met.T.BitStore.width in
    let is : c.BITS.result * c.len.result ≡ w * length c.args.words.items = cc in
    rw is (record { head_below = positive; len_small = c.requires; count = words_for_all w (length c.args.words.items) positive ∙ ap (words_for w) (omega arith); fits = omega arith; shows = shown_length g.T.BitStore g.O.BitOrder c.args.words.items 0 (w * length c.args.words.items) (omega arith) })

pub returns-clause-list : goal.returns-clause-list
returns-clause-list g c = all_shown g.T.BitStore g.O.BitOrder c.args.words.items _ cc

pub returns-clause-len : goal.returns-clause-len
returns-clause-len g c = ap length (returns-clause-list g c) ∙ row_size g.T.BitStore g.O.BitOrder c.args.words.items

pub returns-clause-clean : goal.returns-clause-clean
returns-clause-clean g c = clean_words g.T.BitStore g.O.BitOrder c.args.words.items _ g.met.T.BitStore.width cc
