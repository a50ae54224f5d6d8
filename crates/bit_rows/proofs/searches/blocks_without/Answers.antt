use Rattle.std.proofs.Common.{◌≡◌, ℕ, ◌+◌, ◌-◌, ◌*◌, not, replicate, length, slice_range, refl, ◌∙◌, ap, subst, inr, arith}
use Rattle.bit_addressing.specs.Typed.{row}
use Rattle.bit_rows.proofs.Differs.{AreAlike}
use Rattle.bit_rows.proofs.Finds.{block_more, others_up_to}
use Rattle.bit_addressing.proofs.Typed.{length_row}
use Rattle.bit_rows.proofs.searches.blocks_without.Goals as goal

pub block_after-requires-clause-words : goal.block_after-requires-clause-words
block_after-requires-clause-words g c = c.followed_blocks.ensures c.loop-t.t (omega arith)

pub loop-t-preserved : goal.loop-t-preserved
loop-t-preserved g c =
    let xs = row g.T.BitStore g.O.BitOrder c.args.words.now in
    let size : length xs ≡ g.T.BitStore.BITS * length c.args.words.now = length_row g.T.BitStore.value g.O.BitOrder.place g.T.BitStore.BITS c.args.words.now in
    let at : ℕ = c.loop-t.t * 64 in
    let next : at + 64 ≡ (c.loop-t.t + 1) * 64 = omega arith in
    record {
      others = c.loop-t.invariant.others;
      alike = subst (AreAlike xs (replicate (c.args.upto - c.args.from) (not c.args.bit)) c.args.from 0) next
          (block_more xs c.args.from c.args.upto c.args.bit (omega arith) (omega arith) g.O.BitOrder.place at (c.args.from + at) c.block_after.result (g.met.O.BitOrder.lawful 64 (inr (inr (inr refl)))) (omega arith) refl
          (c.block_after.ensures ∙ ap (λ n. slice_range xs (n + at) (n + at + 64)) c.of-run.ensures.begins) (c.if-block_after-others.false ∙ c.loop-t.invariant.others) c.loop-t.invariant.alike);
    }

pub returns-then-block_after-others-clause-others : goal.returns-then-block_after-others-clause-others
returns-then-block_after-others-clause-others g c =
    let xs = row g.T.BitStore g.O.BitOrder c.args.words.now in
    let size : length xs ≡ g.T.BitStore.BITS * length c.args.words.now = length_row g.T.BitStore.value g.O.BitOrder.place g.T.BitStore.BITS c.args.words.now in
    others_up_to xs c.args.from c.args.upto c.args.bit (omega arith) (omega arith) (c.loop-t.t * 64) (omega arith) c.loop-t.invariant.alike

pub returns-clause-others : goal.returns-clause-others
returns-clause-others g c =
    let xs = row g.T.BitStore g.O.BitOrder c.args.words.now in
    let size : length xs ≡ g.T.BitStore.BITS * length c.args.words.now = length_row g.T.BitStore.value g.O.BitOrder.place g.T.BitStore.BITS c.args.words.now in
    let all : c.loop-t.t ≡ c.min-blocks.result = omega arith in
    rw (← all) (others_up_to xs c.args.from c.args.upto c.args.bit (omega arith) (omega arith) (c.loop-t.t * 64) (omega arith) c.loop-t.invariant.alike)
