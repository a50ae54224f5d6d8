use Rattle.std.proofs.Common.{◌≡◌, ℕ, ◌+◌, ◌-◌, ◌*◌, ◌/◌, ◌%◌, ◌^◌, not, replicate, bit_xor, length, slice_range, w64, subst, arith}
use Rattle.std.specs.Int.{trailing_zeros}
use Rattle.std.proofs.lemmas.Nat.{xor_lt}
use Rattle.bit_addressing.specs.Row.{IsFirst}
use Rattle.bit_addressing.specs.Typed.{row}
use Rattle.bit_rows.proofs.Differs.{AreAlike}
use Rattle.bit_rows.proofs.Finds.{first_found, lowest_of, none_has, others_more}
use Rattle.bit_addressing.proofs.lists.Shown.{length-between}
use Rattle.bit_addressing.proofs.Typed.{length_row}
use Rattle.bit_rows.proofs.searches.find_by_chunks.Given as given
use Rattle.bit_rows.proofs.searches.find_by_chunks.Goals as goal

pub returns-then-apart-ne0 : goal.returns-then-apart-ne0
returns-then-apart-ne0 g c =
    let xs = row g.T.BitStore g.O.BitOrder c.args.words.now in
    let size : length xs ≡ g.T.BitStore.BITS * length c.args.words.now = length_row g.T.BitStore.value g.O.BitOrder.place g.T.BitStore.BITS c.args.words.now in
    first_found xs c.args.from c.args.upto c.args.bit c.requires.ordered (omega arith) (c.loop-t.t * 64) 64 c.read_chunk.result c.if-bit.others (omega arith) (omega arith) c.read_chunk.ensures c.loop-t.invariant.others c.loop-t.invariant.alike
    c.if-apart-ne0.true (xor_lt 64 c.read_chunk.result c.if-bit.others c.read_chunk.type_inv (omega arith))

pub loop-t-preserved : goal.loop-t-preserved
loop-t-preserved g c =
    let xs = row g.T.BitStore g.O.BitOrder c.args.words.now in
    let size : length xs ≡ g.T.BitStore.BITS * length c.args.words.now = length_row g.T.BitStore.value g.O.BitOrder.place g.T.BitStore.BITS c.args.words.now in
    let next : c.loop-t.t * 64 + 64 ≡ (c.loop-t.t + 1) * 64 = omega arith in
    record {
      others = c.loop-t.invariant.others;
      alike = subst (AreAlike xs (replicate (c.args.upto - c.args.from) (not c.args.bit)) c.args.from 0) next
          (others_more xs c.args.from c.args.upto c.args.bit c.requires.ordered (omega arith) (c.loop-t.t * 64) 64 c.read_chunk.result c.if-bit.others (omega arith) (omega arith) c.read_chunk.ensures c.loop-t.invariant.others c.loop-t.invariant.alike (omega arith));
    }

pub returns-then-rest-eq0 : goal.returns-then-rest-eq0
returns-then-rest-eq0 g c =
    let xs = row g.T.BitStore g.O.BitOrder c.args.words.now in
    let size : length xs ≡ g.T.BitStore.BITS * length c.args.words.now = length_row g.T.BitStore.value g.O.BitOrder.place g.T.BitStore.BITS c.args.words.now in
    none_has xs c.args.from c.args.upto c.args.bit c.requires.ordered (omega arith) (c.loop-t.t * 64) (omega arith) c.loop-t.invariant.alike

pub returns-then-apart-eq0 : goal.returns-then-apart-eq0
returns-then-apart-eq0 g c =
    let xs = row g.T.BitStore g.O.BitOrder c.args.words.now in
    let size : length xs ≡ g.T.BitStore.BITS * length c.args.words.now = length_row g.T.BitStore.value g.O.BitOrder.place g.T.BitStore.BITS c.args.words.now in
    let n : ℕ = c.args.upto - c.args.from in
    let m : ℕ = n % 64 in
    let at : ℕ = n / 64 * 64 in
    let same : c.loop-t.t * 64 ≡ at = omega arith in
    none_has xs c.args.from c.args.upto c.args.bit c.requires.ordered (omega arith) (at + m) (omega arith)
    (others_more xs c.args.from c.args.upto c.args.bit c.requires.ordered (omega arith) at m c.read_chunk-2.result (c.if-bit.others / 2 ^ (64 - m)) (omega arith) (omega arith) c.read_chunk-2.ensures
    (lowest_of (not c.args.bit) c.if-bit.others m (omega arith) (omega arith) c.loop-t.invariant.others) (subst (AreAlike xs (replicate n (not c.args.bit)) c.args.from 0) same c.loop-t.invariant.alike) c.if-apart-eq0.true)

first : (g : given.Over) (c : goal.Else-apart-eq0 g) → IsFirst c.args.bit (slice_range (row g.T.BitStore g.O.BitOrder c.args.words.now) c.args.from c.args.upto) ((c.args.upto - c.args.from) / 64 * 64 + trailing_zeros w64 (bit_xor c.read_chunk-2.result (c.if-bit.others / 2 ^ (64 - (c.args.upto - c.args.from) % 64))))
first g c =
    let xs = row g.T.BitStore g.O.BitOrder c.args.words.now in
    let size : length xs ≡ g.T.BitStore.BITS * length c.args.words.now = length_row g.T.BitStore.value g.O.BitOrder.place g.T.BitStore.BITS c.args.words.now in
    let n : ℕ = c.args.upto - c.args.from in
    let m : ℕ = n % 64 in
    let at : ℕ = n / 64 * 64 in
    let y : ℕ = c.if-bit.others / 2 ^ (64 - m) in
    let same : c.loop-t.t * 64 ≡ at = omega arith in
    first_found xs c.args.from c.args.upto c.args.bit c.requires.ordered (omega arith) at m c.read_chunk-2.result y (omega arith) (omega arith) c.read_chunk-2.ensures
    (lowest_of (not c.args.bit) c.if-bit.others m (omega arith) (omega arith) c.loop-t.invariant.others) (subst (AreAlike xs (replicate n (not c.args.bit)) c.args.from 0) same c.loop-t.invariant.alike)
    c.if-apart-eq0.false (xor_lt 64 c.read_chunk-2.result y c.read_chunk-2.type_inv (omega arith))

pub overflow_add-result-2 : goal.overflow_add-result-2
overflow_add-result-2 g c =
    let xs = row g.T.BitStore g.O.BitOrder c.args.words.now in
    let long : length xs ≡ g.T.BitStore.BITS * length c.args.words.now = length_row g.T.BitStore.value g.O.BitOrder.place g.T.BitStore.BITS c.args.words.now in
    let size : length (slice_range xs c.args.from c.args.upto) ≡ c.args.upto - c.args.from = length-between xs c.args.from c.args.upto (omega arith) in
    let inside = (first g c).within in
    omega arith

pub returns : goal.returns
returns g c = first g c
