use Rattle.std.proofs.Common.{◌≡◌, ℕ, ◌+◌, ◌-◌, ◌*◌, ◌<◌, ◌≤◌, min, Bool, List, [], ◌∷◌, ◌++◌, length, length-append, slice_range, refl, sym, subst, ◌∙◌, ap, arith}
use Rattle.bit_addressing.specs.declared.store.BitStore as store
use Rattle.bit_addressing.specs.declared.order.BitOrder as order
use Rattle.bit_addressing.specs.Row.{number_bits, number_of, put}
use Rattle.bit_addressing.specs.Typed.{row}
use Rattle.bit_addressing.proofs.lists.Put.{put_joined, put_none}
use Rattle.bit_addressing.proofs.lists.Sized.{one_more_word}
use Rattle.bit_rows.proofs.Binary.{length-number_bits}
use Rattle.bit_slice.specs.Mapped.{chunk_number, from_chunk_numbers}
use Rattle.bit_slice.specs.Overwritten.{list_in}
use Rattle.bit_slice.specs.Pieces.{chunk_count, part}
use Rattle.bit_slice.proofs.Called.{results_more}
use Rattle.bit_slice.proofs.Mapped.{chunk_stays, chunks_more, count_more, count_none, counts_on, length-chunks}
use Rattle.bit_slice.proofs.Overwritten.{rewritten_in}
use Rattle.bit_slice.proofs.Parts.{in_row}
use Rattle.bit_slice.proofs.edits.mapped.map_numbers.Goals as goal

pub loop-at-init : goal.loop-at-init
loop-at-init g c = record {
  ends = omega arith;
  size = refl;
  written = ([], sym (count_none c.args.size), (λ _. omega arith), omega arith, refl, sym (put_none (row g.T.BitStore g.O.BitOrder c.args.words.now) c.args.head));
}

module _ {X Y : Type 0} (W : store.Ghosts X) (P : order.Ghosts Y) where
  -- the number that is read is that of the chunk
  read : (old now : List X) (head len at n size k number : ℕ) (bits : List Bool) → head + len ≤ length (row W P old) → length bits ≡ at → at ≡ k * size → at < len → n ≡ min (len - at) size → row W P now ≡ put (row W P old) head bits → number ≡ number_of (slice_range (row W P now) (head + at) (head + at + n)) → number ≡ chunk_number size (list_in W P old head len) k
  read old now head len at n size k number bits room wrote start inside some is number_is =
      number_is
      ∙ ap (λ r. number_of (slice_range r (head + at) (head + at + n))) is
      ∙ ap number_of (chunk_stays (row W P old) bits head len at n size room wrote (omega (arith, some, inside)) some)
      ∙ ap (λ i. number_of (part size (list_in W P old head len) i)) start

pub f-number-requires : goal.f-number-requires
f-number-requires g c =
    let W = g.T.BitStore in
    let P = g.O.BitOrder in
    let at = c.loop-at in
    let run = at.invariant.written in
    let start = run.2 c.loop-at-test.true in
    let room = in_row W P c.args.words.now (c.args.head + c.args.len) c.requires.within in
    let number = read W P c.args.words.now at.words c.args.head c.args.len at.at c.min-n.result c.args.size (length run.0) c.read_chunk.result (from_chunk_numbers c.args.size at.at run.0) room (length-chunks c.args.size at.at run.0 run.3) start c.loop-at-test.true c.min-n.ensures run.5 c.read_chunk.ensures in
    subst (λ m. goal.F-pre g at.f m) (sym number)
    (c.requires.callable.at run.0 at.f (length run.0) (omega arith) (counts_on c.args.size (length run.0) c.args.len c.requires.some (omega (arith, start, c.loop-at-test.true))) run.4)

pub loop-at-preserved : goal.loop-at-preserved
loop-at-preserved g c =
    let W = g.T.BitStore in
    let P = g.O.BitOrder in
    let at = c.loop-at in
    let head = c.args.head in
    let len = c.args.len in
    let size = c.args.size in
    let n = c.min-n.result in
    let run = at.invariant.written in
    let k = length run.0 in
    let m = c.f-number.result in
    let start = run.2 c.loop-at-test.true in
    let r0 = row W P c.args.words.now in
    let room = in_row W P c.args.words.now (head + len) c.requires.within in
    let wrote = length-chunks size at.at run.0 run.3 in
    let number = read W P c.args.words.now at.words head len at.at n size k c.read_chunk.result (from_chunk_numbers size at.at run.0) room wrote start c.loop-at-test.true c.min-n.ensures run.5 c.read_chunk.ensures in
    let few : n ≤ size = omega (arith, c.min-n.ensures) in
    let inside : at.at + n ≤ len = omega (arith, c.min-n.ensures, c.loop-at-test.true) in
    let longer = length-append run.0 (m ∷ []) in
    let next = one_more_word k size in
    let more : length (run.0 ++ m ∷ []) * size ≡ k * size + size = ap (λ j. j * size) longer ∙ next in
    let step = goal.F-step g in
    let xs = list_in W P c.args.words.now head len in
    let called = subst (λ x. step at.f x m c.f-number.new.self) number c.f-number.ensures in
    let bits = length-number_bits m n in
    record {
      ends = inside;
      size = c.write_chunk.ensures.size ∙ at.invariant.size;
      written = (
        run.0 ++ m ∷ [],
        longer ∙ sym (ap (λ j. chunk_count (j + n) size) start ∙ count_more size k n (omega (arith, c.min-n.ensures, c.loop-at-test.true, c.requires.some)) few),
        (λ goes. omega (arith, goes, c.min-n.ensures, start, more)),
        omega (arith, few, start, more),
        results_more (λ state i. step state (chunk_number size xs i)) c.args.f.now 0 run.0 at.f k m c.f-number.new.self run.4 called (omega arith),
        c.write_chunk.ensures.bits
            ∙ ap (λ r. put r (head + at.at) (number_bits m n)) run.5
            ∙ put_joined r0 (from_chunk_numbers size at.at run.0) (number_bits m n) head (head + at.at) (omega (arith, wrote)) (omega (arith, bits, inside, room))
            ∙ ap (put r0 head) (sym (chunks_more size at.at n m run.0 start few)),
      );
    }

pub returns : goal.returns
returns g c =
    let W = g.T.BitStore in
    let P = g.O.BitOrder in
    let at = c.loop-at in
    let size = c.args.size in
    let run = at.invariant.written in
    let end : at.at ≡ c.args.len = omega (arith, c.loop-at-test.false, at.invariant.ends) in
    let bits = from_chunk_numbers size c.args.len run.0 in
    let all : length bits ≡ c.args.len = length-chunks size c.args.len run.0 (omega (arith, run.3, end)) in
    let is = run.5 ∙ ap (λ n. put (row W P c.args.words.now) c.args.head (from_chunk_numbers size n run.0)) end in
    (run.0, run.1 ∙ ap (λ n. chunk_count n size) end, run.4, rewritten_in W P c.args.words.now at.words c.args.head c.args.len g.met.T.BitStore.width c.requires.within at.invariant.size bits all is)
