use Rattle.std.proofs.Common.{◌∷◌, [], ◌++◌, length, refl, sym, ap, ◌∙◌, arith, append_assoc, length-append, append-nil}
use Rattle.std.proofs.lemmas.List.{length_push}
use Rattle.bit_addressing.proofs.Rows.{width_positive}
use Rattle.bit_slice.proofs.Called.{results_more}
use Rattle.bit_containers.proofs.Calling.{grew_kept}
use Rattle.bit_containers.proofs.Growing.{grew_twice}
use Rattle.bit_containers.proofs.vec.BitVec.resize_by.Goals as goal

pub loop-index-init : goal.loop-index-init
loop-index-init g c =
    let now = c.args.self.now in
    let same = c.in_ok-reserve.ensures.kept in
    let long = ap length same.list in
    record {
      room = omega (arith, c.in_ok-reserve.ensures.room, c.len-len.ensures.value, c.if-n-len.false);
      few = omega (arith, c.in_ok-reserve.ensures.fits, c.len-len.ensures.value, c.if-n-len.false);
      size = omega (arith, c.len-len.ensures.value);
      capacity = c.reserve.ensures.capacity;
      no_memory = λ h. c.reserve.ensures.no_memory (omega (arith, h, c.len-len.ensures.value, c.if-n-len.false));
      joined = ([], refl, same.list ∙ sym (append-nil now.list), grew_kept g.T.BitStore.BITS now c.reserve.new.self c.prove_in_words.ensures.size same);
    }

pub loop-index-preserved : goal.loop-index-preserved
loop-index-preserved g c =
    let w = g.T.BitStore.BITS in
    let now = c.args.self.now in
    let at = c.loop-index in
    let put = c.push_reserved.ensures in
    let run = at.invariant.joined in
    let bit = c.f-bit.result in
    let long = ap length put.list ∙ length_push at.self.list bit in
    let whole = ap length run.2 ∙ length-append now.list run.0 in
    record {
      room = omega (arith, at.invariant.room, put.capacity);
      few = at.invariant.few;
      size = omega (arith, at.invariant.size);
      capacity = omega (arith, at.invariant.capacity, put.capacity);
      no_memory = λ h. put.capacity ∙ at.invariant.no_memory h;
      joined = (
        run.0 ++ bit ∷ [],
        results_more (goal.F-step g) _ _ run.0 at.f at.index bit _ run.1 c.f-bit.ensures (omega (arith, at.invariant.size)),
        put.list ∙ ap (λ l. l ++ bit ∷ []) run.2 ∙ append_assoc now.list run.0 (bit ∷ []),
        grew_twice w now at.self c.push_reserved.new.self run.0 (bit ∷ []) (width_positive w g.met.T.BitStore.width) c.prove_in_words.ensures.size run.3 put.row,
      );
    }

pub f-bit-requires : goal.f-bit-requires
f-bit-requires g c =
    let at = c.loop-index in
    let run = at.invariant.joined in
    let whole = ap length run.2 ∙ length-append c.args.self.now.list run.0 in
    (c.requires at.invariant.few).at run.0 at.f at.index (omega (arith, whole, at.invariant.size)) c.loop-index-test.true run.1
