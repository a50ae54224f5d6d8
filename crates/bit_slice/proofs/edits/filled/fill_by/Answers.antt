use Rattle.std.proofs.Common.{◌≡◌, ◌+◌, ◌≤◌, [], ◌++◌, length, length-append, refl, sym, ◌∙◌, ap, arith}
use Rattle.bit_addressing.specs.Row.{number_bits, put}
use Rattle.bit_addressing.specs.Typed.{row}
use Rattle.bit_addressing.proofs.lists.Put.{put_joined, put_none}
use Rattle.bit_rows.proofs.Binary.{length-number_bits}
use Rattle.bit_slice.proofs.Called.{callable_on, results_then}
use Rattle.bit_slice.proofs.Overwritten.{rewritten_in}
use Rattle.bit_slice.proofs.Parts.{in_row}
use Rattle.bit_slice.proofs.edits.filled.fill_by.Goals as goal

pub loop-at-init : goal.loop-at-init
loop-at-init g c = record {
  ends = omega arith;
  size = refl;
  written = ([], refl, refl, sym (put_none (row g.T.BitStore g.O.BitOrder c.args.words.now) c.args.head));
}

pub number_by-number-requires-clause-callable : goal.number_by-number-requires-clause-callable
number_by-number-requires-clause-callable g c =
    let at = c.loop-at in
    let run = at.invariant.written in
    callable_on (goal.F-pre g) (goal.F-step g) c.args.f.now 0 c.args.len run.0 at.f at.at (at.at + c.min-n.result) c.requires.callable run.2 (omega (arith, run.1)) (omega (arith, c.min-n.ensures, c.loop-at-test.true))

pub loop-at-preserved : goal.loop-at-preserved
loop-at-preserved g c =
    let W = g.T.BitStore in
    let P = g.O.BitOrder in
    let at = c.loop-at in
    let head = c.args.head in
    let n = c.min-n.result in
    let more = number_bits c.number_by-number.result n in
    let run = at.invariant.written in
    let r0 = row W P c.args.words.now in
    let size = length-number_bits c.number_by-number.result n in
    let room = in_row W P c.args.words.now (head + c.args.len) c.requires.within in
    let inside : at.at + n ≤ c.args.len = omega (arith, c.min-n.ensures, c.loop-at-test.true) in
    record {
      ends = inside;
      size = c.write_chunk.ensures.size ∙ at.invariant.size;
      written = (
        run.0 ++ more,
        length-append run.0 more ∙ omega (arith, run.1, size),
        results_then (goal.F-step g) c.args.f.now 0 run.0 at.f at.at more c.number_by-number.new.f run.2 c.number_by-number.ensures (omega (arith, run.1)),
        c.write_chunk.ensures.bits ∙ ap (λ r. put r (head + at.at) more) run.3 ∙ put_joined r0 run.0 more head (head + at.at) (omega (arith, run.1)) (omega (arith, size, inside, room)),
      );
    }

pub returns : goal.returns
returns g c =
    let W = g.T.BitStore in
    let P = g.O.BitOrder in
    let at = c.loop-at in
    let run = at.invariant.written in
    let all : length run.0 ≡ c.args.len = run.1 ∙ omega (arith, c.loop-at-test.false, at.invariant.ends) in
    (run.0, all, run.2, rewritten_in W P c.args.words.now at.words c.args.head c.args.len g.met.T.BitStore.width c.requires.within at.invariant.size run.0 all run.3)
