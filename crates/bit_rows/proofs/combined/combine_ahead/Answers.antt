use Rattle.std.proofs.Common.{◌≡◌, ℕ, ◌+◌, ◌-◌, ◌*◌, [], ◌∷◌, length, refl, ◌∙◌, ap, arith}
use Rattle.bit_addressing.specs.Typed.{row}
use Rattle.bit_addressing.proofs.Chunks.{part_is}
use Rattle.bit_rows.proofs.Combinations.{combined_part}
use Rattle.bit_addressing.proofs.Runs.{mul_mono}
use Rattle.bit_addressing.proofs.Typed.{length_row}
use Rattle.bit_rows.proofs.Wholes.{split_sum}
use Rattle.bit_addressing.proofs.lists.Sized.{one_more_word}
use Rattle.bit_rows.proofs.combined.combine_ahead.Goals as goal

pub returns-clause-bits : goal.returns-clause-bits
returns-clause-bits g c =
    let w = g.T.BitStore.BITS in
    let first = c.args.first in
    let last = c.args.last in
    let end = c.args.end in
    let from = c.args.from in
    let f = g.F.BitOperator.made in
    let zs = row g.U.BitStore g.P.BitOrder c.args.source.now in
    let old = row g.T.BitStore g.O.BitOrder c.args.words.now in
    let new = row g.T.BitStore g.O.BitOrder (c.word_of_run-new.result ∷ []) in
    let long : length zs ≡ g.U.BitStore.BITS * length c.args.source.now = length_row g.U.BitStore.value g.P.BitOrder.place g.U.BitStore.BITS c.args.source.now in
    let size : length old ≡ w * length c.args.words.now = length_row g.T.BitStore.value g.O.BitOrder.place w c.args.words.now in
    let whole = split_sum w first last c.requires.ordered in
    let fit = mul_mono (last + 1) (length c.args.words.now) w (omega arith) in
    let more = one_more_word last w in
    let q : ℕ = last * w + end in
    let a : ℕ = from + (last - first) * w in
    let starts : from + (last - first) * c.BITS.result ≡ a = ap (λ n. from + (last - first) * n) c.BITS.ensures in
    c.combine_part.ensures.bits
    ∙ combined_part f old (row g.T.BitStore g.O.BitOrder c.combine_whole.new.words) zs _ (first * w) (last * w) q from a (a + end) (last * w + 0) q (omega arith) refl (omega arith) (omega arith) (omega arith) (omega arith) (omega arith) (omega arith)
    (part_is new zs 0 end end (from + (last - first) * c.BITS.result) a (a + end) (omega arith) (omega arith) (omega arith) c.word_of_run-new.ensures) c.combine_whole.ensures.bits
