use Rattle.std.proofs.Common.{◌≡◌, ◌+◌, ◌-◌, ◌*◌, ◌%◌, ◌++◌, length, slice_range, take, ◌∙◌, ap, subst, arith}
use Rattle.std.proofs.lemmas.List.{length-take-le}
use Rattle.bit_addressing.specs.Row.{binary, words_for}
use Rattle.bit_addressing.specs.Typed.{row}
use Rattle.bit_addressing.proofs.Typed.{length_row}
use Rattle.bit_streams.proofs.Windows.{blocks_fill, list_split}
use Rattle.bit_streams.proofs.blocks.Blocks.over.Goals as goal

pub invariant_of-result : goal.invariant_of-result
invariant_of-result g c =
    let w = g.T.BitStore.BITS in
    let list = c.force_align.new.self.list in
    let len = c.len-len.result in
    let at = len - len % 64 in
    let long = c.len-len.ensures.value in
    let bound = c.len-len.ensures.bound in
    let even : at % 64 ≡ 0 = omega arith in
    let head : c.truncate.new.self.head ≡ 0 = c.truncate.ensures.row.head ∙ c.force_align.ensures.head in
    let size : length c.truncate.new.self.list ≡ at = ap length c.truncate.ensures.list ∙ length-take-le at list (omega arith) in
    let all : c.truncate.new.self.head + length c.truncate.new.self.list ≡ at = omega arith in
    let whole : w * length c.into_vec.result.items ≡ at = ap (λ k. w * k) (c.into_vec.ensures.exact ∙ ap (words_for w) all) ∙ blocks_fill w at g.met.T.BitStore.width even in
    let bits : length c.of.result.list ≡ at = ap length c.of.ensures.list ∙ length_row g.T.BitStore.value g.O.BitOrder.place w c.into_vec.result.items ∙ whole in
    record {
      few = omega arith;
      small = c.load_be_at-pending.ensures.below;
      blocks = ap (λ k. k % 64) bits ∙ even;
      fits = omega arith;
    }

pub returns : goal.returns
returns g c =
    let w = g.T.BitStore.BITS in
    let list = c.force_align.new.self.list in
    let len = c.len-len.result in
    let at = len - len % 64 in
    let long = c.len-len.ensures.value in
    let even : at % 64 ≡ 0 = omega arith in
    let head : c.truncate.new.self.head ≡ 0 = c.truncate.ensures.row.head ∙ c.force_align.ensures.head in
    let size : length c.truncate.new.self.list ≡ at = ap length c.truncate.ensures.list ∙ length-take-le at list (omega arith) in
    let all : c.truncate.new.self.head + length c.truncate.new.self.list ≡ at = omega arith in
    let whole : w * length c.into_vec.result.items ≡ at = ap (λ k. w * k) (c.into_vec.ensures.exact ∙ ap (words_for w) all) ∙ blocks_fill w at g.met.T.BitStore.width even in
    let rows = row g.T.BitStore g.O.BitOrder c.into_vec.result.items in
    let shown = c.truncate.new.self.list in
    let s : slice_range rows 0 (0 + length shown) ≡ shown = subst (λ h. slice_range rows h (h + length shown) ≡ shown) head c.into_vec.ensures.shows in
    let t : slice_range rows 0 (0 + length (take at list)) ≡ take at list = subst (λ l. slice_range rows 0 (0 + length l) ≡ l) c.truncate.ensures.list s in
    ap (λ l. l ++ binary (len % 64) c.load_be_at-pending.result) c.of.ensures.list
    ∙ list_split list rows (binary (len % 64) c.load_be_at-pending.result) at (len % 64) (omega arith) t (length_row g.T.BitStore.value g.O.BitOrder.place w c.into_vec.result.items ∙ whole) c.load_be_at-pending.ensures.digits
    ∙ c.force_align.ensures.list
