use Rattle.std.proofs.Common.{◌≡◌, ℕ, Bool, List, ◌+◌, ◌-◌, ◌*◌, ◌/◌, ◌<◌, ◌≤◌, ◌^◌, bit_xor, not, length, slice_range, ◌∙◌, arith}
use Rattle.std.proofs.lemmas.Nat.{xor_lt}
use Rattle.std.specs.Int.Count.{count_leading_zeros}
use Rattle.bit_addressing.specs.Typed.{row}
use Rattle.bit_rows.proofs.Finds.{lowest_of}
use Rattle.bit_addressing.proofs.lists.Shown.{length-between}
use Rattle.bit_slice.proofs.Parts.{in_row}
use Rattle.bit_slice.proofs.Found.{IsTop, none_here, top_here, last, more_absent}
use Rattle.bit_slice.proofs.slice.BitSlice.find_last.Given as given
use Rattle.bit_slice.proofs.slice.BitSlice.find_last.Goals as goal

-- the part that was read
size_is : (row : List Bool) (at n : ℕ) → at + n ≤ length row → length (slice_range row at (at + n)) ≡ n
size_is row at n h = let e : at + n - at ≡ n = omega arith in length-between row at (at + n) h ∙ e

top : (g : given.Over) (c : goal.Then-apart-ne0 g) → (count_leading_zeros 64 (bit_xor c.read_chunk-chunk.result (c.if-bit.others / 2 ^ (64 - c.min-n.result))) ≤ 63) × IsTop (slice_range (row g.T.BitStore g.O.BitOrder c.args.self.words.now) (c.args.self.head + c.loop-end.end - c.min-n.result) (c.args.self.head + c.loop-end.end - c.min-n.result + c.min-n.result)) c.args.bit c.min-n.result (63 - count_leading_zeros 64 (bit_xor c.read_chunk-chunk.result (c.if-bit.others / 2 ^ (64 - c.min-n.result))))
top g c =
    let v = c.args.self in
    let n = c.min-n.result in
    let ws = c.args.self.words.now in
    let at : ℕ = c.args.self.head + c.loop-end.end - n in
    let y : ℕ = c.if-bit.others / 2 ^ (64 - n) in
    let some : 0 < n = omega arith in
    let few : n ≤ 64 = omega arith in
    let room : v.head + v.len ≤ g.T.BitStore.BITS * length ws = v.fits.room in
    let inside : at + n ≤ length (row g.T.BitStore g.O.BitOrder ws) = in_row g.T.BitStore g.O.BitOrder ws (at + n) (omega arith) in
    top_here (slice_range (row g.T.BitStore g.O.BitOrder ws) at (at + n)) c.read_chunk-chunk.result y n c.read_chunk-chunk.ensures (size_is (row g.T.BitStore g.O.BitOrder ws) at n inside) few c.args.bit
    (lowest_of (not c.args.bit) c.if-bit.others n some few c.loop-end.invariant.others) c.if-apart-ne0.true
    (xor_lt 64 c.read_chunk-chunk.result y c.read_chunk-chunk.type_inv (omega arith))

pub overflow_sub-result-then-apart-ne0 : goal.overflow_sub-result-then-apart-ne0
overflow_sub-result-then-apart-ne0 g c = (top g c).0

pub returns-then-apart-ne0 : goal.returns-then-apart-ne0
returns-then-apart-ne0 g c =
    let v = c.args.self in
    let n = c.min-n.result in
    let end = c.loop-end.end in
    let h = c.args.self.head in
    let xs = row g.T.BitStore g.O.BitOrder v.words.now in
    let a : h + end - n ≡ v.head + (end - n) = omega arith in
    let b : h + end - n + n ≡ v.head + end = omega arith in
    let is : slice_range (row g.T.BitStore g.O.BitOrder c.args.self.words.now) (h + end - n) (h + end - n + n) ≡ slice_range xs (v.head + (end - n)) (v.head + end) = cc in
    last xs _ v.head v.len (end - n) end c.args.bit is (omega arith) (in_row g.T.BitStore g.O.BitOrder v.words.now (v.head + v.len) v.fits.room) c.args.from c.args.upto n _ (omega arith) (omega arith) (omega arith) c.loop-end.invariant.ends (top g c).1 c.loop-end.invariant.after

pub loop-end-preserved : goal.loop-end-preserved
loop-end-preserved g c =
    let v = c.args.self in
    let n = c.min-n.result in
    let end = c.loop-end.end in
    let h = c.args.self.head in
    let ws = c.args.self.words.now in
    let xs = row g.T.BitStore g.O.BitOrder v.words.now in
    let y : ℕ = c.if-bit.others / 2 ^ (64 - n) in
    let some : 0 < n = omega arith in
    let few : n ≤ 64 = omega arith in
    let a : h + end - n ≡ v.head + (end - n) = omega arith in
    let b : h + end - n + n ≡ v.head + end = omega arith in
    let is : slice_range (row g.T.BitStore g.O.BitOrder ws) (h + end - n) (h + end - n + n) ≡ slice_range xs (v.head + (end - n)) (v.head + end) = cc in
    let room : v.head + v.len ≤ g.T.BitStore.BITS * length ws = v.fits.room in
    let inside : h + end - n + n ≤ length (row g.T.BitStore g.O.BitOrder ws) = in_row g.T.BitStore g.O.BitOrder ws (h + end - n + n) (omega arith) in
    record {
      begins = omega arith;
      ends = omega arith;
      others = c.loop-end.invariant.others;
      after = more_absent xs _ v.head v.len (end - n) end c.args.bit is (omega arith) (in_row g.T.BitStore g.O.BitOrder v.words.now (v.head + v.len) v.fits.room) c.args.upto n (omega arith)
          (none_here (slice_range (row g.T.BitStore g.O.BitOrder ws) (h + end - n) (h + end - n + n)) c.read_chunk-chunk.result y n c.read_chunk-chunk.ensures (size_is (row g.T.BitStore g.O.BitOrder ws) (h + end - n) n inside) few c.args.bit
          (lowest_of (not c.args.bit) c.if-bit.others n some few c.loop-end.invariant.others) c.if-apart-ne0.false)
          c.loop-end.invariant.after;
    }
