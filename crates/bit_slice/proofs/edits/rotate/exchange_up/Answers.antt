use Rattle.std.proofs.Common.{◌≡◌, ℕ, ◌+◌, ◌≤◌, ◌*◌, ◌∷◌, [], ◌++◌, length, get_or, slice_range, refl, sym, subst, ◌∙◌, ap, arith, mul_comm}
use Rattle.bit_addressing.specs.Row.{put}
use Rattle.bit_addressing.specs.Typed.{row}
use Rattle.bit_addressing.proofs.Rows.{width_positive}
use Rattle.bit_addressing.proofs.Runs.{mul_mono}
use Rattle.bit_addressing.proofs.lists.Sized.{right_sum}
use Rattle.bit_slice.proofs.Exchanged.{neighbours, row_parts, both_written, low_run, high_run, row_length, words_alone, words_then}
use Rattle.bit_slice.proofs.edits.rotate.exchange_up.Goals as goal
use Rattle.bit_slice.proofs.edits.rotate.exchange_up.Goals.{then-at-eq0, else-at-eq0}

pub returns-clause-bits : goal.returns-clause-bits
returns-clause-bits g c =
    let w = g.T.BitStore.BITS in
    let positive = width_positive w g.met.T.BitStore.width in
    let ws = c.args.words.now in
    let xs = row g.T.BitStore g.O.BitOrder ws in
    let before = c.split_at_mut-run.result.0.now in
    let low = c.split_at_mut-low.result.0.now in
    let high = c.split_at_mut-high.result.0.now in
    let after = c.split_at_mut-high.result.1.now in
    let count = c.args.count in
    let at : ℕ = c.args.first * w in
    let size : ℕ = count * w in
    let bits = row g.T.BitStore g.O.BitOrder in
    let n = neighbours g.T.BitStore g.O.BitOrder positive ws before low high after _ _ c.args.first count c.split_at_mut-run.ensures.value c.split_at_mut-low.ensures.value c.split_at_mut-high.ensures.value
    c.split_at_mut-run.ensures.front_len c.split_at_mut-low.ensures.front_len c.split_at_mut-high.ensures.front_len in
    let enough : c.args.first + count + count ≤ length ws = omega (arith, c.requires.inside) in
    let second : bits high ≡ slice_range xs (at + size) (at + size + size) = high_run xs _ _ _ _ at size n in
    let all : length xs ≡ length ws * w = row_length g.T.BitStore g.O.BitOrder positive ws (length ws) refl in
    let room = mul_mono (c.args.first + count + count) (length ws) w enough in
    let sum : (c.args.first + count + count) * w ≡ at + size + size = right_sum (c.args.first + count) count w ∙ ap (λ k. k + size) (right_sum c.args.first count w) in
    let then_next : slice_range (bits (high ++ c.if-at-eq0.next ∷ [])) c.args.at (c.args.at + size) ≡ slice_range xs (at + size + c.args.at) (at + size + c.args.at + size) =
    elim c.if-at-eq0.branch [
      | then-at-eq0 b ↦ words_alone g.T.BitStore g.O.BitOrder positive ws high c.if-at-eq0.next (at + size) size c.args.at b.if-at-eq0.true second (omega (arith, all, room, sum))
      | else-at-eq0 b ↦ words_then g.T.BitStore g.O.BitOrder positive ws high c.if-at-eq0.next (at + size) size (c.args.first + count + count) c.args.at c.requires.within second (sym sum)
          (omega (arith, c.requires.next, b.if-at-eq0.false)) (subst (λ x. x ≡ get_or ws (c.args.first + 2 * count) x) (sym b.next-is) b.index-words-first-else-at-eq0.is ∙ ap (λ k. get_or ws k c.if-at-eq0.next) (omega arith))
    ] in
    let taken : bits c.exchange.new.shifted ≡ slice_range xs (at + size + c.args.at) (at + size + c.args.at + size) =
    c.exchange.ensures.shifted ∙ ap (λ k. slice_range (bits (high ++ c.if-at-eq0.next ∷ [])) c.args.at (c.args.at + k)) (ap (λ k. w * k) c.split_at_mut-high.ensures.front_len ∙ mul_comm w count) ∙ then_next in
    let kept : bits c.exchange.new.plain ≡ slice_range xs at (at + size) = c.exchange.ensures.plain ∙ low_run xs _ _ _ _ at size n in
    let one : length (bits c.exchange.new.plain) ≡ size = ap length c.exchange.ensures.plain ∙ n.low_size in
    let two : length (bits c.exchange.new.shifted) ≡ size = row_length g.T.BitStore g.O.BitOrder positive c.exchange.new.shifted count (c.exchange.ensures.shifted_size ∙ c.split_at_mut-low.ensures.front_len) in
    row_parts g.T.BitStore g.O.BitOrder positive before c.exchange.new.shifted c.exchange.new.plain after
    ∙ both_written xs _ _ _ _ at size n (bits c.exchange.new.shifted) (bits c.exchange.new.plain) two one
    ∙ (λ j. put (put xs at (taken j)) (at + size) (kept j))
