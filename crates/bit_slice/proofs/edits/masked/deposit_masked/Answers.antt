use Rattle.std.proofs.Common.{◌≡◌, ◌+◌, ◌-◌, ◌*◌, ◌≤◌, length, min, slice_range, sym, ◌∙◌, ap, arith, refl}
use Rattle.bit_addressing.specs.Row.{number_bits, put}
use Rattle.bit_addressing.specs.Typed.{row}
use Rattle.bit_slice.specs.BitSlice.{list_of}
use Rattle.bit_slice.specs.Masked.{deposited}
use Rattle.bit_slice.specs.Overwritten.{list_in}
use Rattle.bit_slice.proofs.Masking.{ones, all_done, length-deposited, more_done, more_taken, nothing_done, ones_of_number, still_there}
use Rattle.bit_slice.proofs.Overwritten.{rewritten_in}
use Rattle.bit_slice.proofs.Parts.{in_row, shown_length}
use Rattle.bit_slice.proofs.Writing.{run_of_number}
use Rattle.bit_slice.proofs.edits.masked.deposit_masked.Goals as goal

pub loop-at-init : goal.loop-at-init
loop-at-init g c =
    let W = g.T.BitStore in
    let P = g.O.BitOrder in
    let old = c.args.words.now in
    let room = in_row W P old (c.args.head + c.args.len) c.requires.within in
    record {
      ends = omega arith;
      size = refl;
      taken = omega arith;
      done = sym (nothing_done (row W P old) (list_of c.args.mask) (list_of c.args.source) c.args.head c.args.len room);
    }

pub overflow_sub-len : goal.overflow_sub-len
overflow_sub-len g c = omega (arith, c.loop-at.invariant.taken, c.len-in-loop-at.ensures.list)

pub chunk_at-bits-requires-clause-inside : goal.chunk_at-bits-requires-clause-inside
chunk_at-bits-requires-clause-inside g c = omega (arith, c.loop-at.invariant.taken, c.len-in-loop-at.ensures.list, c.len-in-loop-at.ensures.value, c.min-more.ensures)

pub loop-at-preserved : goal.loop-at-preserved
loop-at-preserved g c =
    let W = g.T.BitStore in
    let P = g.O.BitOrder in
    let head = c.args.head in
    let len = c.args.len in
    let loop = c.loop-at in
    let at = loop.at in
    let taken = loop.taken in
    let n = c.min-n.result in
    let more = c.min-more.result in
    let r0 = row W P c.args.words.now in
    let now = row W P loop.words in
    let xs = list_in W P c.args.words.now head len in
    let ms = list_of c.args.mask in
    let ys = list_of c.args.source in
    let bits = c.chunk_at-bits.result in
    let room = in_row W P c.args.words.now (head + len) c.requires.within in
    let inside : at + n ≤ len = omega (arith, c.min-n.ensures, c.min-upto.ensures, c.loop-at-test.true) in
    let within : at + n ≤ length ms = omega (arith, c.min-n.ensures, c.min-upto.ensures, c.loop-at-test.true, c.len.ensures.list) in
    let few : n ≤ 64 = omega (arith, c.min-n.ensures) in
    let count = ones_of_number (slice_range ms at (at + n)) c.chunk_at-ones.result c.chunk_at-ones.ensures.number in
    let most : more ≡ min (ones (slice_range ms at (at + n))) (length ys - taken) = omega (arith, c.min-more.ensures, count, c.len-in-loop-at.ensures.list) in
    let there : head + at + n ≤ length now = in_row W P loop.words (head + at + n) (omega (arith, inside, loop.invariant.size, c.requires.within, ap (λ k. W.BITS * k) loop.invariant.size)) in
    let old_bits : number_bits c.read_chunk-old.result n ≡ slice_range xs at (at + n) =
    run_of_number now c.read_chunk-old.result (head + at) n there c.read_chunk-old.ensures
    ∙ ap (λ r. slice_range r (head + at) (head + at + n)) loop.invariant.done
    ∙ still_there r0 ms ys head len room at n inside (omega (arith, within)) in
    let mask_bits : number_bits c.chunk_at-ones.result n ≡ slice_range ms at (at + n) = run_of_number ms c.chunk_at-ones.result at n within c.chunk_at-ones.ensures.number in
    let wrote = c.deposit_number.ensures
    ∙ ap (λ l. deposited l (number_bits c.chunk_at-ones.result n) (number_bits bits 64)) old_bits
    ∙ ap (λ l. deposited (slice_range xs at (at + n)) l (number_bits bits 64)) mask_bits in
    record {
      ends = omega (arith, c.min-n.ensures, c.loop-at-test.true);
      size = c.write_chunk.ensures.size ∙ loop.invariant.size;
      taken = more_taken r0 ms ys head len room at n taken more loop.invariant.taken most;
      done = c.write_chunk.ensures.bits
          ∙ ap (λ r. put r (head + at) (number_bits c.deposit_number.result n)) loop.invariant.done
          ∙ more_done r0 ms ys head len room at n c.deposit_number.result taken more bits inside within few loop.invariant.taken most c.chunk_at-bits.ensures.number wrote;
    }

pub returns : goal.returns
returns g c =
    let W = g.T.BitStore in
    let P = g.O.BitOrder in
    let old = c.args.words.now in
    let head = c.args.head in
    let len = c.args.len in
    let xs = list_in W P old head len in
    let ms = list_of c.args.mask in
    let ys = list_of c.args.source in
    let size = shown_length W P old head len c.requires.within in
    let room = in_row W P old (head + len) c.requires.within in
    let end : c.loop-at.at ≡ min len (length ms) = omega (arith, c.loop-at-test.false, c.loop-at.invariant.ends, c.min-upto.ensures, c.len.ensures.list) in
    rewritten_in W P old c.loop-at.words head len g.met.T.BitStore.width c.requires.within c.loop-at.invariant.size (deposited xs ms ys) (length-deposited xs ms ys ∙ size)
    (c.loop-at.invariant.done ∙ all_done (row W P old) ms ys head len room c.loop-at.at end)
