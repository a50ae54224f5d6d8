use Rattle.std.proofs.Common.{ℕ, ◌+◌, ◌-◌, ◌*◌, ◌/◌, refl, sym, ◌∙◌, subst, arith}
use Rattle.bit_addressing.specs.Typed.{row}
use Rattle.bit_slice.proofs.Parts.{in_row}
use Rattle.bit_slice.proofs.Turned.{IsTurned, turned_none, turned_more, turned_to, turned_all}
use Rattle.bit_slice.proofs.edits.reverse.reverse_pairs.Goals as goal

pub loop-t-init : goal.loop-t-init
loop-t-init g c =
    let head = c.args.head in
    let end : ℕ = head + c.args.len in
    let xs = row g.T.BitStore g.O.BitOrder c.args.words.now in
    record { size = refl; turned = turned_to xs xs head c.args.len head end (head + 0) (end - 0) (omega arith) (omega arith) (turned_none xs head c.args.len) }

pub loop-t-preserved : goal.loop-t-preserved
loop-t-preserved g c =
    let head = c.args.head in
    let len = c.args.len in
    let t = c.loop-t.t in
    let xs = row g.T.BitStore g.O.BitOrder c.args.words.now in
    let zs = row g.T.BitStore g.O.BitOrder c.loop-t.words in
    let now = row g.T.BitStore g.O.BitOrder c.swap_reversed.new.words in
    let low : ℕ = head + t * 64 in
    let high : ℕ = head + len - t * 64 in
    let room = in_row g.T.BitStore g.O.BitOrder c.args.words.now (head + len) c.requires.within in
    let more = turned_more xs zs head len low high 64 c.loop-t.invariant.turned (omega arith) room in
    let turned : IsTurned xs now head len (low + 64) (high - 64) = subst (λ l. IsTurned xs l head len (low + 64) (high - 64)) (sym c.swap_reversed.ensures.bits) more in
    record {
      size = c.swap_reversed.ensures.size ∙ c.loop-t.invariant.size;
      turned = turned_to xs now head len (low + 64) (high - 64) (head + (t + 1) * 64) (head + len - (t + 1) * 64) (omega arith) (omega arith) turned;
    }

pub returns-clause-bits : goal.returns-clause-bits
returns-clause-bits g c =
    let head = c.args.head in
    let len = c.args.len in
    let t = c.loop-t.t in
    let pairs : ℕ = len / 128 in
    let xs = row g.T.BitStore g.O.BitOrder c.args.words.now in
    let zs = row g.T.BitStore g.O.BitOrder c.loop-t.words in
    let low : ℕ = head + pairs * 64 in
    let high : ℕ = head + len - pairs * 64 in
    let rest : ℕ = (high - low) / 2 in
    let room = in_row g.T.BitStore g.O.BitOrder c.args.words.now (head + len) c.requires.within in
    let here = turned_to xs zs head len (head + t * 64) (head + len - t * 64) low high (omega arith) (omega arith) c.loop-t.invariant.turned in
    let more = turned_more xs zs head len low high rest here (omega arith) room in
    let now = row g.T.BitStore g.O.BitOrder c.swap_reversed-2.new.words in
    let turned : IsTurned xs now head len (low + rest) (high - rest) = subst (λ l. IsTurned xs l head len (low + rest) (high - rest)) (sym c.swap_reversed-2.ensures.bits) more in
    turned_all xs now head len (low + rest) (high - rest) turned (omega arith) room
