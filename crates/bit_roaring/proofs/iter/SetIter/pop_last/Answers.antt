use Rattle.std.proofs.Common.{◌≡◌, suc, ◌+◌, ◌-◌, length, map, sym, ◌∙◌, arith}
use Rattle.bit_blocks.specs.BlockLeft.{block_left}
use Rattle.bit_roaring.proofs.SetLeft.{previous_block}
use Rattle.bit_roaring.proofs.iter.SetIter.pop_last.Goals as goal

pub returns-in-Some-next_back : goal.returns-in-Some-next_back
returns-in-Some-next_back c =
    let s = c.args.self.now in
    let bs = s.blocks.now in
    let size : length bs ≡ suc (length bs - 1) = omega (arith, c.if-self-gt0.true) in
    previous_block (map (λ k. s.base + k) (block_left s.begun)) bs (length bs - 1) s.back_base c.index-self-last.result (block_left s.ended) (block_left c.next_back-then-self-gt0.new.self) c.in-Some-next_back.low size c.in_default.ensures.steps.0 (sym c.iter-self.ensures.list ∙ c.in-Some-next_back.ensures.steps)
