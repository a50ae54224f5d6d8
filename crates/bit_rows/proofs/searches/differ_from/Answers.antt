use Rattle.std.proofs.Common.{◌≡◌, ℕ, ◌+◌, ◌*◌, ◌/◌, ◌%◌, [], ◌∷◌, bit_xor, length, slice_range, w64, refl, sym, ◌∙◌, ap, subst, arith}
use Rattle.std.specs.Int.{trailing_zeros}
use Rattle.std.proofs.lemmas.Nat.{xor_lt}
use Rattle.bit_addressing.specs.Row.{number_of, row_of, IsFirstDifference}
use Rattle.bit_addressing.specs.Typed.{row}
use Rattle.bit_rows.proofs.Differs.{AreAlike, alike_all, alike_front, alike_more, alike_run, differ_here}
use Rattle.bit_addressing.proofs.lists.Shown.{length-run}
use Rattle.bit_addressing.proofs.Typed.{length_row}
use Rattle.bit_rows.proofs.searches.differ_from.Given as given
use Rattle.bit_rows.proofs.searches.differ_from.Goals as goal
use Rattle.bit_rows.proofs.searches.differ_from.Goals.{then-left-right+else-apart-ne0, else-left-right}

pub equal_blocks-start-requires-clause-more : goal.equal_blocks-start-requires-clause-more
equal_blocks-start-requires-clause-more g c = λ t h. c.followed_blocks.ensures t (omega arith)

pub equal_blocks-start-requires-clause-other_more : goal.equal_blocks-start-requires-clause-other_more
equal_blocks-start-requires-clause-other_more g c = λ t h. c.followed_blocks-2.ensures t (omega arith)

pub loop-t-init : goal.loop-t-init
loop-t-init g c = record { alike = alike_front _ _ _ _ _ c.equal_blocks-start.ensures.alike }

pub block_after-left-requires-clause-words : goal.block_after-left-requires-clause-words
block_after-left-requires-clause-words g c = c.followed_blocks.ensures c.loop-t.t (omega arith)

pub block_after-right-requires-clause-words : goal.block_after-right-requires-clause-words
block_after-right-requires-clause-words g c = c.followed_blocks-2.ensures c.loop-t.t (omega arith)

pub returns-then-apart-ne0 : goal.returns-then-apart-ne0
returns-then-apart-ne0 g c =
    let xs = row g.T.BitStore g.O.BitOrder c.args.a.now in
    let i : ℕ = c.args.k * g.T.BitStore.BITS + c.args.skip in
    let j : ℕ = c.args.l * g.U.BitStore.BITS + c.args.over in
    let ys = row g.U.BitStore g.P.BitOrder c.args.b.now in
    let first : length xs ≡ g.T.BitStore.BITS * length c.args.a.now = length_row g.T.BitStore.value g.O.BitOrder.place g.T.BitStore.BITS c.args.a.now in
    let second : length ys ≡ g.U.BitStore.BITS * length c.args.b.now = length_row g.U.BitStore.value g.P.BitOrder.place g.U.BitStore.BITS c.args.b.now in
    let t = c.loop-t.t in
    let k : ℕ = t * 64 in
    let left = c.block_after-left.ensures in
    let right = c.block_after-right.ensures in
    differ_here xs ys i j k 64 c.word_number.result c.word_number-then-left-right.result (i + k) (j + k) refl refl (c.word_number.ensures ∙ ap number_of left) (c.word_number-then-left-right.ensures ∙ ap number_of right)
    c.args.n c.if-apart-ne0.true (xor_lt 64 c.word_number.result c.word_number-then-left-right.result c.word_number.type_inv c.word_number-then-left-right.type_inv) (omega arith) (omega arith) (omega arith) c.loop-t.invariant.alike

pub loop-t-preserved : goal.loop-t-preserved
loop-t-preserved g c =
    let xs = row g.T.BitStore g.O.BitOrder c.args.a.now in
    let i : ℕ = c.args.k * g.T.BitStore.BITS + c.args.skip in
    let j : ℕ = c.args.l * g.U.BitStore.BITS + c.args.over in
    let ys = row g.U.BitStore g.P.BitOrder c.args.b.now in
    let t = c.loop-t.t in
    let k : ℕ = t * 64 in
    let next : k + 64 ≡ (t + 1) * 64 = omega arith in
    let left = c.block_after-left.ensures in
    let right = c.block_after-right.ensures in
    let alike : AreAlike xs ys i j (k + 64) = elim c.if-left-right.branch [
      | then-left-right+else-apart-ne0 w ↦
          alike_more xs ys i j k 64 w.word_number.result w.word_number-then-left-right.result (i + k) (j + k) refl refl (w.word_number.ensures ∙ ap number_of left) (w.word_number-then-left-right.ensures ∙ ap number_of right) w.if-apart-ne0.false c.loop-t.invariant.alike
      | else-left-right w ↦
          alike_run xs ys i j k 64 (i + k) (j + k) refl refl (sym left ∙ ap (λ v. row_of g.O.BitOrder.place 64 (v ∷ [])) w.if-left-right.false ∙ right) c.loop-t.invariant.alike
    ] in
    record { alike = subst (AreAlike xs ys i j) next alike }

pub returns-then-apart-ne0-2 : goal.returns-then-apart-ne0-2
returns-then-apart-ne0-2 g c =
    let xs = row g.T.BitStore g.O.BitOrder c.args.a.now in
    let i : ℕ = c.args.k * g.T.BitStore.BITS + c.args.skip in
    let j : ℕ = c.args.l * g.U.BitStore.BITS + c.args.over in
    let ys = row g.U.BitStore g.P.BitOrder c.args.b.now in
    let first : length xs ≡ g.T.BitStore.BITS * length c.args.a.now = length_row g.T.BitStore.value g.O.BitOrder.place g.T.BitStore.BITS c.args.a.now in
    let second : length ys ≡ g.U.BitStore.BITS * length c.args.b.now = length_row g.U.BitStore.value g.P.BitOrder.place g.U.BitStore.BITS c.args.b.now in
    let k : ℕ = c.loop-t-2.t * 64 in
    differ_here xs ys i j k 64 c.read_chunk-left.result c.read_chunk-right.result (c.in_row-i.result + k) (c.in_row-j.result + k) (ap (λ n. n + k) c.in_row-i.ensures) (ap (λ n. n + k) c.in_row-j.ensures) c.read_chunk-left.ensures c.read_chunk-right.ensures
    c.args.n c.if-apart-ne0-2.true (xor_lt 64 c.read_chunk-left.result c.read_chunk-right.result c.read_chunk-left.type_inv c.read_chunk-right.type_inv) (omega arith) (omega arith) (omega arith) c.loop-t-2.invariant.alike

pub loop-t-2-preserved : goal.loop-t-2-preserved
loop-t-2-preserved g c =
    let xs = row g.T.BitStore g.O.BitOrder c.args.a.now in
    let i : ℕ = c.args.k * g.T.BitStore.BITS + c.args.skip in
    let j : ℕ = c.args.l * g.U.BitStore.BITS + c.args.over in
    let ys = row g.U.BitStore g.P.BitOrder c.args.b.now in
    let first : length xs ≡ g.T.BitStore.BITS * length c.args.a.now = length_row g.T.BitStore.value g.O.BitOrder.place g.T.BitStore.BITS c.args.a.now in
    let second : length ys ≡ g.U.BitStore.BITS * length c.args.b.now = length_row g.U.BitStore.value g.P.BitOrder.place g.U.BitStore.BITS c.args.b.now in
    let k : ℕ = c.loop-t-2.t * 64 in
    let next : k + 64 ≡ (c.loop-t-2.t + 1) * 64 = omega arith in
    record {
      alike = subst (AreAlike xs ys i j) next
          (alike_more xs ys i j k 64 c.read_chunk-left.result c.read_chunk-right.result (c.in_row-i.result + k) (c.in_row-j.result + k) (ap (λ n. n + k) c.in_row-i.ensures) (ap (λ n. n + k) c.in_row-j.ensures) c.read_chunk-left.ensures c.read_chunk-right.ensures (omega arith) c.loop-t-2.invariant.alike);
    }

pub returns-then-apart-eq0 : goal.returns-then-apart-eq0
returns-then-apart-eq0 g c =
    let xs = row g.T.BitStore g.O.BitOrder c.args.a.now in
    let i : ℕ = c.args.k * g.T.BitStore.BITS + c.args.skip in
    let j : ℕ = c.args.l * g.U.BitStore.BITS + c.args.over in
    let ys = row g.U.BitStore g.P.BitOrder c.args.b.now in
    let first : length xs ≡ g.T.BitStore.BITS * length c.args.a.now = length_row g.T.BitStore.value g.O.BitOrder.place g.T.BitStore.BITS c.args.a.now in
    let second : length ys ≡ g.U.BitStore.BITS * length c.args.b.now = length_row g.U.BitStore.value g.P.BitOrder.place g.U.BitStore.BITS c.args.b.now in
    let k : ℕ = c.args.n / 64 * 64 in
    let same : c.loop-t-2.t * 64 ≡ k = omega arith in
    alike_all xs ys i j c.args.n (k + c.args.n % 64) (omega arith) (omega arith) (omega arith)
    (alike_more xs ys i j k (c.args.n % 64) c.read_chunk-left-2.result c.read_chunk-right-2.result (c.in_row-i.result + k) (c.in_row-j.result + k) (ap (λ n. n + k) c.in_row-i.ensures) (ap (λ n. n + k) c.in_row-j.ensures) c.read_chunk-left-2.ensures c.read_chunk-right-2.ensures c.if-apart-eq0.true (subst (AreAlike xs ys i j) same c.loop-t-2.invariant.alike))

found : (g : given.Over) (c : goal.Else-apart-eq0 g) → IsFirstDifference (slice_range (row g.T.BitStore g.O.BitOrder c.args.a.now) (c.args.k * g.T.BitStore.BITS + c.args.skip) ((c.args.k * g.T.BitStore.BITS + c.args.skip) + c.args.n)) (slice_range (row g.U.BitStore g.P.BitOrder c.args.b.now) (c.args.l * g.U.BitStore.BITS + c.args.over) ((c.args.l * g.U.BitStore.BITS + c.args.over) + c.args.n)) (c.args.n / 64 * 64 + trailing_zeros w64 (bit_xor c.read_chunk-left-2.result c.read_chunk-right-2.result))
found g c =
    let xs = row g.T.BitStore g.O.BitOrder c.args.a.now in
    let i : ℕ = c.args.k * g.T.BitStore.BITS + c.args.skip in
    let j : ℕ = c.args.l * g.U.BitStore.BITS + c.args.over in
    let ys = row g.U.BitStore g.P.BitOrder c.args.b.now in
    let first : length xs ≡ g.T.BitStore.BITS * length c.args.a.now = length_row g.T.BitStore.value g.O.BitOrder.place g.T.BitStore.BITS c.args.a.now in
    let second : length ys ≡ g.U.BitStore.BITS * length c.args.b.now = length_row g.U.BitStore.value g.P.BitOrder.place g.U.BitStore.BITS c.args.b.now in
    let k : ℕ = c.args.n / 64 * 64 in
    let same : c.loop-t-2.t * 64 ≡ k = omega arith in
    differ_here xs ys i j k (c.args.n % 64) c.read_chunk-left-2.result c.read_chunk-right-2.result (c.in_row-i.result + k) (c.in_row-j.result + k) (ap (λ n. n + k) c.in_row-i.ensures) (ap (λ n. n + k) c.in_row-j.ensures) c.read_chunk-left-2.ensures c.read_chunk-right-2.ensures
    c.args.n c.if-apart-eq0.false (xor_lt 64 c.read_chunk-left-2.result c.read_chunk-right-2.result c.read_chunk-left-2.type_inv c.read_chunk-right-2.type_inv) (omega arith) (omega arith) (omega arith) (subst (AreAlike xs ys i j) same c.loop-t-2.invariant.alike)

pub overflow_add-result-2 : goal.overflow_add-result-2
overflow_add-result-2 g c =
    let xs = row g.T.BitStore g.O.BitOrder c.args.a.now in
    let i : ℕ = c.args.k * g.T.BitStore.BITS + c.args.skip in
    let j : ℕ = c.args.l * g.U.BitStore.BITS + c.args.over in
    let ys = row g.U.BitStore g.P.BitOrder c.args.b.now in
    let first : length xs ≡ g.T.BitStore.BITS * length c.args.a.now = length_row g.T.BitStore.value g.O.BitOrder.place g.T.BitStore.BITS c.args.a.now in
    let second : length ys ≡ g.U.BitStore.BITS * length c.args.b.now = length_row g.U.BitStore.value g.P.BitOrder.place g.U.BitStore.BITS c.args.b.now in
    let size = length-run xs i c.args.n (omega arith) in
    let inside = (found g c).within in
    omega arith

pub returns : goal.returns
returns g c = found g c
