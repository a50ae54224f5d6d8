use Rattle.std.proofs.Common.{◌≡◌, ℕ, ◌+◌, ◌-◌, ◌*◌, ◌<◌, ◌≤◌, length, replicate, slice_range, refl, sym, ◌∙◌, ap, arith}
use Rattle.std.proofs.lemmas.List.{length-replicate}
use Rattle.bit_addressing.specs.Row.{words_for, sized}
use Rattle.bit_addressing.specs.Typed.{row}
use Rattle.bit_rows.proofs.Finds.{run_of_one}
use Rattle.bit_addressing.proofs.lists.Sized.{length-sized, room, words_for_all}
use Rattle.bit_addressing.proofs.Rows.{width_positive, width_small}
use Rattle.bit_slice.proofs.Shown.{put_all}
use Rattle.bit_slice.proofs.Parts.{shown_length}
use Rattle.bit_containers.proofs.Growing.{some_bits, sized_false}
use Rattle.bit_containers.proofs.vec.BitVec.repeat.Goals as goal

mul_zero : (w : ℕ) → w * 0 ≡ 0
mul_zero w = grind arith

-- the words for all bits of the words for some
whole : (w n all : ℕ) → 0 < w → all ≡ w * words_for w n → words_for w all ≡ words_for w n
whole w n all positive is = ap (words_for w) is ∙ sym (words_for_all w (words_for w n) positive)

pub overflow_mul-all : goal.overflow_mul-all
overflow_mul-all g c =
    let w = g.T.BitStore.BITS in
    let small = width_small w g.met.T.BitStore.width in
    let r = (room w c.args.n (width_positive w g.met.T.BitStore.width)).1 in
    rw (c.BITS.ensures, c.elts.ensures.value) (omega (arith, c.if-n-gt-MAX_BITS.false))

pub append_run_in_vec-requires-clause-fits : goal.append_run_in_vec-requires-clause-fits
append_run_in_vec-requires-clause-fits g c =
    let w = g.T.BitStore.BITS in
    let small = width_small w g.met.T.BitStore.width in
    let r = (room w c.args.n (width_positive w g.met.T.BitStore.width)).1 in
    rw (c.BITS.ensures, c.elts.ensures.value) (omega (arith, c.if-n-gt-MAX_BITS.false))

pub append_run_in_vec-requires-clause-count : goal.append_run_in_vec-requires-clause-count
append_run_in_vec-requires-clause-count g c =
    let w = g.T.BitStore.BITS in
    ap length c.new-words.ensures.items ∙ words_for_all w 0 (width_positive w g.met.T.BitStore.width) ∙ ap (words_for w) (mul_zero w)

pub returns-in_err-append_run_in_vec-clause-memory : goal.returns-in_err-append_run_in_vec-clause-memory
returns-in_err-append_run_in_vec-clause-memory g c _ =
    let w = g.T.BitStore.BITS in
    let positive = width_positive w g.met.T.BitStore.width in
    let count = whole w c.args.n (c.BITS.result * c.elts.result) positive (rw (c.BITS.ensures, c.elts.ensures.value) refl) in
    some_bits w c.args.n positive (omega (arith, c.in_err-append_run_in_vec.ensures.full, count))

pub returns-clause-row : goal.returns-clause-row
returns-clause-row g c =
    let w = g.T.BitStore.BITS in
    let positive = width_positive w g.met.T.BitStore.width in
    let all = c.BITS.result * c.elts.result in
    let is : all ≡ w * words_for w c.args.n = rw (c.BITS.ensures, c.elts.ensures.value) refl in
    let blank = sized w (row g.T.BitStore g.O.BitOrder c.new-words.result.items) all in
    let size : length blank ≡ all = length-sized w (row g.T.BitStore g.O.BitOrder c.new-words.result.items) all ∙ ap (λ n. w * n) (whole w c.args.n all positive is) ∙ sym is in
    let none : all - 0 ≡ all = omega arith in
    c.in_ok-append_run_in_vec.ensures.bits
    ∙ put_all blank (replicate (all - 0) c.args.bit) 0 refl (length-replicate (all - 0) c.args.bit ∙ none ∙ sym size)
    ∙ ap (λ n. replicate n c.args.bit) (none ∙ is)

pub invariant_of-result : goal.invariant_of-result
invariant_of-result g c =
    let w = g.T.BitStore.BITS in
    let positive = width_positive w g.met.T.BitStore.width in
    let is : c.BITS.result * c.elts.result ≡ w * words_for w c.args.n = rw (c.BITS.ensures, c.elts.ensures.value) refl in
    let count : length c.append_run_in_vec.new.words.items ≡ words_for w c.args.n = c.in_ok-append_run_in_vec.ensures.size ∙ whole w c.args.n (c.BITS.result * c.elts.result) positive is in
    let r = (room w c.args.n positive).0 in
    let fits : 0 + c.args.n ≤ w * length c.append_run_in_vec.new.words.items = rw count (omega arith) in
    record {
      head_below = positive;
      len_small = omega (arith, c.if-n-gt-MAX_BITS.false);
      count = count ∙ ap (words_for w) (omega arith);
      fits = fits;
      shows = shown_length g.T.BitStore g.O.BitOrder c.append_run_in_vec.new.words.items 0 c.args.n fits;
    }

pub returns-clause-list : goal.returns-clause-list
returns-clause-list g c =
    let w = g.T.BitStore.BITS in
    let r = (room w c.args.n (width_positive w g.met.T.BitStore.width)).0 in
    ap (λ r. slice_range r 0 (0 + c.args.n)) (returns-clause-row g c)
    ∙ run_of_one (w * words_for w c.args.n) 0 c.args.n c.args.bit (omega arith)

pub returns-clause-len : goal.returns-clause-len
returns-clause-len g c = ap length (returns-clause-list g c) ∙ length-replicate c.args.n c.args.bit

pub returns-clause-clean : goal.returns-clause-clean
returns-clause-clean g c clear =
    let w = g.T.BitStore.BITS in
    let positive = width_positive w g.met.T.BitStore.width in
    let size = length-replicate c.args.n c.args.bit in
    record {
      head = refl;
      row = returns-clause-row g c ∙ ap (replicate (w * words_for w c.args.n)) clear ∙ sym (sized_false w c.args.n positive)
          ∙ ap (λ l. sized w l c.args.n) (sym (returns-clause-list g c ∙ ap (replicate c.args.n) clear)) ∙ ap (sized w _) (sym (ap length (returns-clause-list g c) ∙ size));
    }
