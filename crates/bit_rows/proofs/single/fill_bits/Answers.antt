use Rattle.std.proofs.Common.{◌≡◌, ℕ, ◌+◌, ◌-◌, ◌*◌, ◌<◌, ◌≤◌, Bool, [], ◌∷◌, replicate, length, slice_range, refl, sym, ◌∙◌, ap, arith, rules}
use Rattle.bit_addressing.specs.Bits.{has_bit}
use Rattle.bit_addressing.specs.Row.{put, row_of}
use Rattle.bit_addressing.specs.Typed.{row}
use Rattle.bit_addressing.proofs.lists.Put.{put_none}
use Rattle.bit_addressing.proofs.Runs.{filled_next, inner, mul_mono}
use Rattle.bit_addressing.proofs.lists.Sized.{one_more_word}
use Rattle.bit_addressing.proofs.Rows.{width_positive, row_repeated}
use Rattle.bit_addressing.proofs.Typed.{length_row, row_replaced}
use Rattle.bit_rows.proofs.Grown.{part_repeated}
use Rattle.bit_rows.proofs.single.fill_bits.Given as given
use Rattle.bit_rows.proofs.single.fill_bits.Goals as goal

pub returns-then-from-upto-clause-bits : goal.returns-then-from-upto-clause-bits
returns-then-from-upto-clause-bits g c =
    let none : c.args.upto - c.args.from ≡ 0 = omega arith in
    rw none (sym (put_none (row g.T.BitStore g.O.BitOrder c.args.words.now) c.args.from))

-- a word of one bit, and a part of it
full : (g : given.Over) (x : ℕ) (b : Bool) → ((p : ℕ) → p < g.T.BitStore.BITS → has_bit x p ≡ b) → row_of g.O.BitOrder.place g.T.BitStore.BITS (x ∷ []) ≡ replicate g.T.BitStore.BITS b
full g x b bits = row_repeated g.O.BitOrder.place g.T.BitStore.BITS x b (width_positive g.T.BitStore.BITS g.met.T.BitStore.width) (g.met.O.BitOrder.lawful g.T.BitStore.BITS g.met.T.BitStore.width) bits

part : (g : given.Over) (x low high n : ℕ) (b : Bool) → ((p : ℕ) → p < g.T.BitStore.BITS → has_bit x p ≡ b) → high ≤ g.T.BitStore.BITS → high - low ≡ n → slice_range (row_of g.O.BitOrder.place g.T.BitStore.BITS (x ∷ [])) low high ≡ replicate n b
part g x low high n b bits fits size = part_repeated g.O.BitOrder.place g.T.BitStore.BITS x low high n b (width_positive g.T.BitStore.BITS g.met.T.BitStore.width) (g.met.O.BitOrder.lawful g.T.BitStore.BITS g.met.T.BitStore.width) bits fits size

pub write_part-requires-clause-word : goal.write_part-requires-clause-word
write_part-requires-clause-word g c = let inside = c.of-first.ensures.inside (length c.args.words.now) c.requires.within in omega arith

pub write_part-requires-2-clause-word : goal.write_part-requires-2-clause-word
write_part-requires-2-clause-word g c = let inside = c.of-first.ensures.inside (length c.args.words.now) c.requires.within in omega arith

pub returns-then-first-last-clause-bits : goal.returns-then-first-last-clause-bits
returns-then-first-last-clause-bits g c =
    let w = g.T.BitStore.BITS in
    let s = c.of-first.result in
    let run = c.of-first.ensures in
    let r = run in
    let same : s.first * w ≡ s.last * w = ap (λ n. n * w) c.if-first-last.true in
    let piece = part g (g.T.BitStore.value c.repeated-full.result) s.low s.end (c.args.upto - c.args.from) c.args.bit c.repeated-full.ensures run.end_within (omega arith) in
    c.write_part.ensures.bits ∙ ap (put (row g.T.BitStore g.O.BitOrder c.args.words.now) (s.first * w + s.low)) piece ∙ ap (λ n. put (row g.T.BitStore g.O.BitOrder c.args.words.now) n (replicate (c.args.upto - c.args.from) c.args.bit)) run.begins

pub loop-k-init : goal.loop-k-init
loop-k-init g c =
    let w = g.T.BitStore.BITS in
    let s = c.of-first.result in
    let run = c.of-first.ensures in
    let m = inner run c.if-first-last.false in
    let r = run in
    let e = c.BITS-width.ensures in
    let n = (s.first + 1) * w - c.args.from in
    let piece = part g (g.T.BitStore.value c.repeated-full.result) s.low c.BITS-width.result n c.args.bit c.repeated-full.ensures (omega arith) (omega arith) in
    record {
      bits = c.write_part-2.ensures.bits ∙ ap (put (row g.T.BitStore g.O.BitOrder c.args.words.now) (s.first * w + s.low)) piece ∙ ap (λ i. put (row g.T.BitStore g.O.BitOrder c.args.words.now) i (replicate n c.args.bit)) run.begins;
      size = c.write_part-2.ensures.size;
    }

pub bounds-words-k : goal.bounds-words-k
bounds-words-k g c = let inside = c.of-first.ensures.inside (length c.args.words.now) c.requires.within in omega arith

pub write_part-requires-3-clause-word : goal.write_part-requires-3-clause-word
write_part-requires-3-clause-word g c = let inside = c.of-first.ensures.inside (length c.args.words.now) c.requires.within in omega arith

pub offset_bounds-words-k : goal.offset_bounds-words-k
offset_bounds-words-k g c = let inside = c.of-first.ensures.inside (length c.args.words.now) c.requires.within in let below : c.loop-k.k < length c.loop-k.words = omega arith in grind arith

pub loop-k-preserved : goal.loop-k-preserved
loop-k-preserved g c =
    let w = g.T.BitStore.BITS in
    let s = c.of-first.result in
    let k = c.loop-k.k in
    let run = c.of-first.ensures in
    let m = inner run c.if-first-last.false in
    let r = run in
    let old = row g.T.BitStore g.O.BitOrder c.args.words.now in
    let size : length old ≡ w * length c.args.words.now = length_row g.T.BitStore.value g.O.BitOrder.place w c.args.words.now in
    let inside = run.inside (length c.args.words.now) c.requires.within in
    let more = one_more_word k w in
    let above = mul_mono (s.first + 1) k w c.loop-k.auto.k in
    let below = mul_mono (k + 1) s.last w (omega arith) in
    let count : w ≡ (k + 1) * w - k * w = omega arith in
    record {
      bits = row_replaced g.T.BitStore.value g.O.BitOrder.place w c.loop-k.words k c.repeated-full.result (width_positive w g.met.T.BitStore.width) (omega arith)
          ∙ filled_next old (row g.T.BitStore g.O.BitOrder c.loop-k.words) _ c.args.bit c.args.from (k * w) ((k + 1) * w) (k * w) refl (omega arith) (omega arith) (omega arith) c.loop-k.invariant.bits (full g (g.T.BitStore.value c.repeated-full.result) c.args.bit c.repeated-full.ensures ∙ ap (λ n. replicate n c.args.bit) count);
      size = search rules;
    }

pub returns-clause-bits : goal.returns-clause-bits
returns-clause-bits g c =
    let w = g.T.BitStore.BITS in
    let s = c.of-first.result in
    let k = c.loop-k.k in
    let run = c.of-first.ensures in
    let m = inner run c.if-first-last.false in
    let r = run in
    let old = row g.T.BitStore g.O.BitOrder c.args.words.now in
    let size : length old ≡ w * length c.args.words.now = length_row g.T.BitStore.value g.O.BitOrder.place w c.args.words.now in
    let same : k * w ≡ s.last * w = ap (λ n. n * w) (omega arith) in
    let piece = part g (g.T.BitStore.value c.repeated-full.result) 0 s.end (c.args.upto - k * w) c.args.bit c.repeated-full.ensures run.end_within (omega arith) in
    c.write_part-3.ensures.bits
    ∙ filled_next old (row g.T.BitStore g.O.BitOrder c.loop-k.words) _ c.args.bit c.args.from (k * w) c.args.upto (s.last * w + 0) (omega arith) (omega arith) (omega arith) (omega arith) c.loop-k.invariant.bits piece
