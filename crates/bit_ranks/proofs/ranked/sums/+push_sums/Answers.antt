use Rattle.std.proofs.Common.{◌≡◌, ℕ, suc, ◌+◌, ◌-◌, ◌/◌, ◌^◌, ◌<◌, Bool, List, [], ◌∷◌, count_by, ◌++◌, get_or, min, ◌∙◌, ap, arith, refl}
use Rattle.std.proofs.lemmas.List.{get_or_append_left}
use Rattle.std.proofs.lemmas.Nat.{pow_pos}
use Rattle.bit_slice.specs.BitSlice.{len_of, list_of}
use Rattle.bit_slice.proofs.Parts.{view_length}
use Rattle.bit_ranks.specs.Sums.{before_block}
use Rattle.bit_ranks.proofs.Sums.{appended_here, before_upto, joined, kept, past, twice}
use Rattle.bit_ranks.proofs.ranked.sums.+push_sums.Goals as goal

pub returns-then-level-eq0-clause-count : goal.returns-then-level-eq0-clause-count
returns-then-level-eq0-clause-count g t c =
    let xs : List Bool = list_of c.args.view in
    let one : 2 ^ c.args.level ≡ 1 = ap (λ k. 2 ^ k) c.if-level-eq0.true in
    let apart = c.if-first-blocks.false in
    let inside = c.requires.inside in
    let end : c.args.first + 1 ≡ min (c.args.first + 2 ^ c.args.level) (len_of c.args.view / 512) = omega arith in
    let shown = view_length c.args.view in
    let count = c.count_ones.ensures.value ∙ ap (count_by (λ b. b)) c.get_range.ensures.list in
    ap (λ k. before_block xs c.args.first + k) count ∙ before_upto xs c.args.first (omega arith) ∙ ap (before_block xs) end

pub returns-then-middle-blocks-clause-size : goal.returns-then-middle-blocks-clause-size
returns-then-middle-blocks-clause-size g t c =
    let up : c.args.level ≡ suc (c.args.level - 1) = (let some = c.if-level-eq0.false in omega arith) in
    let two : 2 ^ c.args.level ≡ 2 ^ (c.args.level - 1) + 2 ^ (c.args.level - 1) = ap (λ k. 2 ^ k) up ∙ twice (c.args.level - 1) in
    let w = c.width.ensures in
    let far = c.if-middle-blocks.true in
    let size = c.push_sums-ones.ensures.size in
    omega arith

pub returns-then-middle-blocks-clause-count : goal.returns-then-middle-blocks-clause-count
returns-then-middle-blocks-clause-count g t c =
    let xs : List Bool = list_of c.args.view in
    let up : c.args.level ≡ suc (c.args.level - 1) = (let some = c.if-level-eq0.false in omega arith) in
    let two : 2 ^ c.args.level ≡ 2 ^ (c.args.level - 1) + 2 ^ (c.args.level - 1) = ap (λ k. 2 ^ k) up ∙ twice (c.args.level - 1) in
    let w = c.width.ensures in
    let far = c.if-middle-blocks.true in
    let end : min (c.args.first + 2 ^ (c.args.level - 1)) (len_of c.args.view / 512) ≡ min (c.args.first + 2 ^ c.args.level) (len_of c.args.view / 512) = omega arith in
    c.push_sums-ones.ensures.count ∙ ap (before_block xs) end

pub returns-then-middle-blocks-clause-summed : goal.returns-then-middle-blocks-clause-summed
returns-then-middle-blocks-clause-summed g t c =
    let xs : List Bool = list_of c.args.view in
    let n = len_of c.args.view / 512 in
    let up : c.args.level ≡ suc (c.args.level - 1) = (let some = c.if-level-eq0.false in omega arith) in
    let far = c.if-middle-blocks.true in
    joined (before_block xs) n c.push_sums-ones.new.sums.items c.args.level c.args.first c.width.result up c.width.ensures (λ e. absurd (omega arith)) c.push_sums-ones.ensures.summed (past (before_block xs) n c.push_sums-ones.new.sums.items (c.args.level - 1) (c.args.first + c.width.result) (omega arith))

pub returns-clause-size : goal.returns-clause-size
returns-clause-size g t c =
    let up : c.args.level ≡ suc (c.args.level - 1) = (let some = c.if-level-eq0.false in omega arith) in
    let two : 2 ^ c.args.level ≡ 2 ^ (c.args.level - 1) + 2 ^ (c.args.level - 1) = ap (λ k. 2 ^ k) up ∙ twice (c.args.level - 1) in
    let w = c.width.ensures in
    let near = c.if-middle-blocks.false in
    let size = c.push_sums.ensures.size in
    omega arith

pub returns-clause-count : goal.returns-clause-count
returns-clause-count g t c =
    let xs : List Bool = list_of c.args.view in
    let n = len_of c.args.view / 512 in
    let up : c.args.level ≡ suc (c.args.level - 1) = (let some = c.if-level-eq0.false in omega arith) in
    let two : 2 ^ c.args.level ≡ 2 ^ (c.args.level - 1) + 2 ^ (c.args.level - 1) = ap (λ k. 2 ^ k) up ∙ twice (c.args.level - 1) in
    let w = c.width.ensures in
    let near = c.if-middle-blocks.false in
    let first = c.push_sums-ones.ensures.count in
    let second = c.push_sums.ensures.count in
    let middle : min (c.args.first + 2 ^ (c.args.level - 1)) n ≡ c.args.first + c.width.result = omega arith in
    let end : min (c.args.first + c.width.result + 2 ^ (c.args.level - 1)) n ≡ min (c.args.first + 2 ^ c.args.level) n = omega arith in
    omega (arith, first, second, ap (before_block xs) middle, ap (before_block xs) end)

pub returns-clause-summed : goal.returns-clause-summed
returns-clause-summed g t c =
    let xs : List Bool = list_of c.args.view in
    let n = len_of c.args.view / 512 in
    let l = c.args.level - 1 in
    let m = c.width.result in
    let before = c.push_sums-ones.new.sums.items in
    let after = c.push_sums.new.sums.items in
    let ones = c.push_sums-ones.result in
    let up : c.args.level ≡ suc l = (let some = c.if-level-eq0.false in omega arith) in
    let w = c.width.ensures in
    let near = c.if-middle-blocks.false in
    let size = c.push_sums-ones.ensures.size in
    let count = c.push_sums-ones.ensures.count in
    let middle : min (c.args.first + 2 ^ l) n ≡ c.args.first + m = omega arith in
    let positive : 0 < 2 ^ l = pow_pos l in
    let front = c.push_sums.ensures.front in
    let pushed : (k : ℕ) → get_or c.push_reserved.new.self.items k 0 ≡ get_or (before ++ ones ∷ []) k 0 = (λ k. ap (λ ns. get_or ns k 0) c.push_reserved.ensures.items) in
    joined (before_block xs) n after c.args.level c.args.first m up w
    (λ e. (let here = front (c.args.first + m - 1) (omega arith) ∙ pushed (c.args.first + m - 1) ∙ appended_here before ones (c.args.first + m - 1) (omega arith) in omega (arith, here, count, ap (before_block xs) middle)))
    (kept (before_block xs) (before_block xs) n 0 0 before after l c.args.first (λ k a b. front k (omega arith) ∙ pushed k ∙ get_or_append_left before (ones ∷ []) 0 k (omega arith)) (λ j a b. refl) c.push_sums-ones.ensures.summed)
    c.push_sums.ensures.summed
