use Rattle.std.proofs.Common.{◌≡◌, ℕ, ◌+◌, ◌*◌, ◌∷◌, [], ◌++◌, length, slice_range, sym, ◌∙◌, ap, arith, mul_comm}
use Rattle.bit_addressing.specs.Row.{put}
use Rattle.bit_addressing.specs.Typed.{row}
use Rattle.bit_addressing.proofs.Rows.{width_positive}
use Rattle.bit_addressing.proofs.lists.Sized.{right_sum}
use Rattle.bit_slice.proofs.Exchanged.{neighbours, row_parts, both_written, low_run, high_run, row_length, words_then}
use Rattle.bit_slice.proofs.edits.rotate.exchange_down.Goals as goal

pub returns-clause-bits : goal.returns-clause-bits
returns-clause-bits g c =
    let w = g.T.BitStore.BITS in
    let positive = width_positive w g.met.T.BitStore.width in
    let ws = c.args.words.now in
    let xs = row g.T.BitStore g.O.BitOrder ws in
    let before = c.split_at_mut-run.result.0.now in
    let low = c.split_at_mut-low.result.0.now in
    let high = c.split_at_mut-high.result.0.now in
    let after = c.split_at_mut-high.result.1.now in
    let count = c.args.count in
    let at : ℕ = c.args.first * w in
    let size : ℕ = count * w in
    let bits = row g.T.BitStore g.O.BitOrder in
    let n = neighbours g.T.BitStore g.O.BitOrder positive ws before low high after _ _ c.args.first count c.split_at_mut-run.ensures.value c.split_at_mut-low.ensures.value c.split_at_mut-high.ensures.value
    c.split_at_mut-run.ensures.front_len c.split_at_mut-low.ensures.front_len c.split_at_mut-high.ensures.front_len in
    let taken : bits c.exchange.new.shifted ≡ slice_range xs (at + c.args.at) (at + c.args.at + size) =
    c.exchange.ensures.shifted ∙ ap (λ k. slice_range (bits (low ++ c.index-words-first.result ∷ [])) c.args.at (c.args.at + k)) (ap (λ k. w * k) c.split_at_mut-low.ensures.front_len ∙ mul_comm w count)
    ∙ words_then g.T.BitStore g.O.BitOrder positive ws low c.index-words-first.result at size (c.args.first + count) c.args.at c.requires.within (low_run xs _ _ _ _ at size n) (sym (right_sum c.args.first count w)) (omega (arith, c.requires.some, c.requires.inside)) c.index-words-first.is in
    let kept : bits c.exchange.new.plain ≡ slice_range xs (at + size) (at + size + size) = c.exchange.ensures.plain ∙ high_run xs _ _ _ _ at size n in
    let one : length (bits c.exchange.new.plain) ≡ size = ap length c.exchange.ensures.plain ∙ n.high_size in
    let two : length (bits c.exchange.new.shifted) ≡ size = row_length g.T.BitStore g.O.BitOrder positive c.exchange.new.shifted count (c.exchange.ensures.shifted_size ∙ c.split_at_mut-high.ensures.front_len) in
    row_parts g.T.BitStore g.O.BitOrder positive before c.exchange.new.plain c.exchange.new.shifted after
    ∙ both_written xs _ _ _ _ at size n (bits c.exchange.new.plain) (bits c.exchange.new.shifted) one two
    ∙ (λ j. put (put xs at (kept j)) (at + size) (taken j))
