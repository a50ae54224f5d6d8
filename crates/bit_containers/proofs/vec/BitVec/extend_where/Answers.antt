use Rattle.std.proofs.Common.{◌≡◌, ◌+◌, ◌++◌, ◌≤◌, length, length-append, min, slice_range, sym, ◌∙◌, ap, subst, arith, rules, append-nil, append_assoc}
use Rattle.std.specs.List.{items_where_true}
use Rattle.bit_addressing.proofs.Rows.{width_positive}
use Rattle.bit_addressing.specs.Row.{number_bits, sized}
use Rattle.bit_rows.proofs.Binary.{length-number_bits}
use Rattle.bit_slice.specs.BitSlice.{list_of}
use Rattle.bit_containers.specs.BitVec.{Grew}
use Rattle.bit_containers.proofs.Calling.{grew_kept}
use Rattle.bit_containers.proofs.Extracted.{extracted_all, extracted_count, extracted_few, extracted_more, extracted_to}
use Rattle.bit_containers.proofs.Growing.{grew_twice}
use Rattle.bit_containers.proofs.vec.BitVec.extend_where.Goals as goal

pub returns-in_err-reserve-clause-refusal : goal.returns-in_err-reserve-clause-refusal
returns-in_err-reserve-clause-refusal g c =
    let ms = list_of c.args.mask in
    let xs = list_of c.args.source in
    let upto = c.min-upto.result in
    let same : c.count_ones_in.result ≡ length (items_where_true ms xs) = extracted_count ms xs upto c.count_ones_in.result (omega (arith, c.min-upto.ensures, c.len.ensures.list, c.len-2.ensures.list)) c.count_ones_in.ensures.value in
    rw (← same) (search rules)

pub loop-at-init : goal.loop-at-init
loop-at-init g c =
    let ms = list_of c.args.mask in
    let xs = list_of c.args.source in
    let now = c.args.self.now in
    let kept = c.in_ok-reserve.ensures.kept in
    let upto = c.min-upto.result in
    let same : c.count_ones_in.result ≡ length (items_where_true ms xs) = extracted_count ms xs upto c.count_ones_in.result (omega (arith, c.min-upto.ensures, c.len.ensures.list, c.len-2.ensures.list)) c.count_ones_in.ensures.value in
    record {
      ends = omega arith;
      list = kept.list ∙ sym (append-nil now.list);
      grew = grew_kept g.T.BitStore.BITS now c.reserve.new.self c.prove_in_words.ensures.size kept;
      clean = λ was. record { head = kept.head ∙ was.head; row = kept.row ∙ was.row ∙ ap (λ l. sized g.T.BitStore.BITS l (length l)) (sym kept.list) };
      room = omega (arith, c.in_ok-reserve.ensures.room, same);
      few = omega (arith, c.in_ok-reserve.ensures.fits, same);
      capacity = c.reserve.ensures.capacity;
      no_memory = λ h. c.reserve.ensures.no_memory (omega (arith, h, same));
    }

pub push_gathered-requires-clause-room : goal.push_gathered-requires-clause-room
push_gathered-requires-clause-room g c =
    let ms = list_of c.args.mask in
    let xs = list_of c.args.source in
    let at = c.loop-at in
    let n = c.min-n.result in
    let inside : at.at + n ≤ length xs = omega (arith, c.min-upto.ensures, c.min-n.ensures, c.loop-at-test.true, c.len.ensures.list) in
    let fits : at.at + n ≤ length ms = omega (arith, c.min-upto.ensures, c.min-n.ensures, c.loop-at-test.true, c.len-2.ensures.list) in
    let bits = c.gather_bits-gathered.ensures.bits ∙ ap (λ l. items_where_true l (number_bits c.load_le_at.result n)) c.load_le_at-in-loop-at.ensures.bits ∙ ap (items_where_true (slice_range ms at.at (at.at + n))) c.load_le_at.ensures.bits in
    let got = sym (length-number_bits c.gather_bits-gathered.result.0 c.gather_bits-gathered.result.1) ∙ ap length bits in
    let next = ap length (extracted_more ms xs at.at n fits inside) ∙ length-append (extracted_to ms xs at.at) (items_where_true (slice_range ms at.at (at.at + n)) (slice_range xs at.at (at.at + n))) in
    let few = extracted_few ms xs (at.at + n) fits inside in
    let so_far = ap length at.invariant.list ∙ length-append c.args.self.now.list (extracted_to ms xs at.at) in
    omega (arith, got, next, few, so_far, at.invariant.room)

pub push_gathered-requires-clause-fits : goal.push_gathered-requires-clause-fits
push_gathered-requires-clause-fits g c =
    let ms = list_of c.args.mask in
    let xs = list_of c.args.source in
    let at = c.loop-at in
    let n = c.min-n.result in
    let inside : at.at + n ≤ length xs = omega (arith, c.min-upto.ensures, c.min-n.ensures, c.loop-at-test.true, c.len.ensures.list) in
    let fits : at.at + n ≤ length ms = omega (arith, c.min-upto.ensures, c.min-n.ensures, c.loop-at-test.true, c.len-2.ensures.list) in
    let bits = c.gather_bits-gathered.ensures.bits ∙ ap (λ l. items_where_true l (number_bits c.load_le_at.result n)) c.load_le_at-in-loop-at.ensures.bits ∙ ap (items_where_true (slice_range ms at.at (at.at + n))) c.load_le_at.ensures.bits in
    let got = sym (length-number_bits c.gather_bits-gathered.result.0 c.gather_bits-gathered.result.1) ∙ ap length bits in
    let next = ap length (extracted_more ms xs at.at n fits inside) ∙ length-append (extracted_to ms xs at.at) (items_where_true (slice_range ms at.at (at.at + n)) (slice_range xs at.at (at.at + n))) in
    let few = extracted_few ms xs (at.at + n) fits inside in
    let so_far = ap length at.invariant.list ∙ length-append c.args.self.now.list (extracted_to ms xs at.at) in
    omega (arith, got, next, few, so_far, at.invariant.few)

pub loop-at-preserved : goal.loop-at-preserved
loop-at-preserved g c =
    let w = g.T.BitStore.BITS in
    let ms = list_of c.args.mask in
    let xs = list_of c.args.source in
    let now = c.args.self.now in
    let at = c.loop-at in
    let n = c.min-n.result in
    let put = c.push_gathered.ensures in
    let inside : at.at + n ≤ length xs = omega (arith, c.min-upto.ensures, c.min-n.ensures, c.loop-at-test.true, c.len.ensures.list) in
    let fits : at.at + n ≤ length ms = omega (arith, c.min-upto.ensures, c.min-n.ensures, c.loop-at-test.true, c.len-2.ensures.list) in
    let gathered = number_bits c.gather_bits-gathered.result.0 c.gather_bits-gathered.result.1 in
    let bits = c.gather_bits-gathered.ensures.bits ∙ ap (λ l. items_where_true l (number_bits c.load_le_at.result n)) c.load_le_at-in-loop-at.ensures.bits ∙ ap (items_where_true (slice_range ms at.at (at.at + n))) c.load_le_at.ensures.bits in
    let more : extracted_to ms xs at.at ++ gathered ≡ extracted_to ms xs (at.at + n) = ap (λ l. extracted_to ms xs at.at ++ l) bits ∙ sym (extracted_more ms xs at.at n fits inside) in
    record {
      ends = omega (arith, c.min-n.ensures, c.loop-at-test.true);
      list = put.list ∙ ap (λ l. l ++ gathered) at.invariant.list ∙ append_assoc now.list (extracted_to ms xs at.at) gathered ∙ ap (λ l. now.list ++ l) more;
      grew = subst (Grew w now c.push_gathered.new.self) more (grew_twice w now at.self c.push_gathered.new.self (extracted_to ms xs at.at) gathered (width_positive w g.met.T.BitStore.width) c.prove_in_words.ensures.size at.invariant.grew put.row);
      clean = λ was. put.clean (at.invariant.clean was);
      room = omega (arith, at.invariant.room, put.capacity);
      few = at.invariant.few;
      capacity = omega (arith, at.invariant.capacity, put.capacity);
      no_memory = λ h. put.capacity ∙ at.invariant.no_memory h;
    }

pub returns-clause-list : goal.returns-clause-list
returns-clause-list g c =
    let end : c.loop-at.at ≡ min (length (list_of c.args.source)) (length (list_of c.args.mask)) = omega (arith, c.loop-at-test.false, c.loop-at.invariant.ends, c.min-upto.ensures, c.len.ensures.list, c.len-2.ensures.list) in
    c.loop-at.invariant.list ∙ ap (λ l. c.args.self.now.list ++ l) (extracted_all (list_of c.args.mask) (list_of c.args.source) c.loop-at.at end)

pub returns-clause-row : goal.returns-clause-row
returns-clause-row g c =
    let end : c.loop-at.at ≡ min (length (list_of c.args.source)) (length (list_of c.args.mask)) = omega (arith, c.loop-at-test.false, c.loop-at.invariant.ends, c.min-upto.ensures, c.len.ensures.list, c.len-2.ensures.list) in
    subst (Grew g.T.BitStore.BITS c.args.self.now c.loop-at.self) (extracted_all (list_of c.args.mask) (list_of c.args.source) c.loop-at.at end) c.loop-at.invariant.grew
