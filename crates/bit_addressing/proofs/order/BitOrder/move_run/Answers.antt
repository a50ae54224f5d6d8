use Rattle.std.proofs.Common.{◌≡◌, ◌+◌, ◌-◌, ◌*◌, map, sym, ap, arith}
use Rattle.bit_addressing.specs.Row.{row_of}
use Rattle.bit_addressing.proofs.Typed.{index_in_row}
use Rattle.bit_addressing.proofs.Shifts.{moved_none, run_moved_on, run_moved_back}
use Rattle.bit_addressing.proofs.Runs.{inner}
use Rattle.bit_addressing.proofs.Moves.{touched_span}
use Rattle.bit_addressing.proofs.order.BitOrder.move_run.Goals as goal

pub returns-then-n-eq0-clause-bits : goal.returns-then-n-eq0-clause-bits
returns-then-n-eq0-clause-bits g c = sym (moved_none (row_of g.Self.BitOrder.place g.T.BitStore.BITS (map g.T.BitStore.value c.args.row.now.words.now)) c.args.src c.args.dst c.args.n c.if-n-eq0.true)

pub returns-then-first-last-clause-reads : goal.returns-then-first-last-clause-reads
returns-then-first-last-clause-reads g c = let t = touched_span c.of-first.ensures c.if-n-eq0.false in let run = c.of-first.ensures in omega arith

pub returns-then-first-last-clause-writes : goal.returns-then-first-last-clause-writes
returns-then-first-last-clause-writes g c = let t = touched_span c.of-first.ensures c.if-n-eq0.false in let run = c.of-first.ensures in omega arith

pub returns-then-dst-src-clause-reads : goal.returns-then-dst-src-clause-reads
returns-then-dst-src-clause-reads g c = let t = touched_span c.of-first.ensures c.if-n-eq0.false in let run = c.of-first.ensures in omega arith

pub returns-then-dst-src-clause-writes : goal.returns-then-dst-src-clause-writes
returns-then-dst-src-clause-writes g c = let t = touched_span c.of-first.ensures c.if-n-eq0.false in let run = c.of-first.ensures in omega arith

pub returns-clause-reads : goal.returns-clause-reads
returns-clause-reads g c = let t = touched_span c.of-first.ensures c.if-n-eq0.false in let run = c.of-first.ensures in omega arith

pub returns-clause-writes : goal.returns-clause-writes
returns-clause-writes g c = let t = touched_span c.of-first.ensures c.if-n-eq0.false in let run = c.of-first.ensures in omega arith

pub returns-then-dst-src-clause-bits : goal.returns-then-dst-src-clause-bits
returns-then-dst-src-clause-bits g c =
    run_moved_on _ _ _ _ c.args.src c.args.n _ c.of-first.ensures c.if-first-last.false (ap (λ m. m - c.of-first.result.low) c.BITS-width.ensures) (omega arith) (index_in_row g.T.BitStore.value g.Self.BitOrder.place g.T.BitStore.BITS c.args.row.now.words.now _ c.requires.source)
    c.move_part-then-dst-src.ensures.bits c.move_words.ensures.bits c.move_part-then-dst-src-2.ensures.bits

pub returns-clause-bits : goal.returns-clause-bits
returns-clause-bits g c =
    run_moved_back _ _ _ _ c.args.src c.args.n _ c.of-first.ensures c.if-first-last.false (ap (λ m. m - c.of-first.result.low) c.BITS-width.ensures) (omega arith) (index_in_row g.T.BitStore.value g.Self.BitOrder.place g.T.BitStore.BITS c.args.row.now.words.now _ c.requires.source)
    c.move_part-2.ensures.bits c.move_words-2.ensures.bits c.move_part-3.ensures.bits

pub move_part-requires-clause-word : goal.move_part-requires-clause-word
move_part-requires-clause-word g c = rw c.if-first-last.true (c.of-first.ensures.inside _ c.requires.target)

pub move_part-requires-clause-source : goal.move_part-requires-clause-source
move_part-requires-clause-source g c = let run = c.of-first.ensures in omega (arith, ap (λ k. k * g.T.BitStore.BITS) c.if-first-last.true)

pub overflow_sub-tail : goal.overflow_sub-tail
overflow_sub-tail g c = let run = c.of-first.ensures in let m = inner c.of-first.ensures c.if-first-last.false in omega arith

pub move_part-requires-then-dst-src-clause-word : goal.move_part-requires-then-dst-src-clause-word
move_part-requires-then-dst-src-clause-word g c = let run = c.of-first.ensures in let last = c.of-first.ensures.inside _ c.requires.target in omega arith

pub move_part-requires-then-dst-src-clause-source : goal.move_part-requires-then-dst-src-clause-source
move_part-requires-then-dst-src-clause-source g c = let run = c.of-first.ensures in let m = inner c.of-first.ensures c.if-first-last.false in omega arith

pub move_words-requires-clause-target : goal.move_words-requires-clause-target
move_words-requires-clause-target g c = let run = c.of-first.ensures in let last = c.of-first.ensures.inside _ c.requires.target in omega arith

pub move_words-requires-clause-source : goal.move_words-requires-clause-source
move_words-requires-clause-source g c = rw c.move_part-then-dst-src.ensures.size (let run = c.of-first.ensures in let m = inner c.of-first.ensures c.if-first-last.false in let same : (c.of-first.result.last - (c.of-first.result.first + 1)) * g.T.BitStore.BITS ≡ (c.of-first.result.last - c.of-first.result.first - 1) * g.T.BitStore.BITS = ap (λ k. k * g.T.BitStore.BITS) (omega arith) in omega arith)

pub move_part-requires-then-dst-src-2-clause-word : goal.move_part-requires-then-dst-src-2-clause-word
move_part-requires-then-dst-src-2-clause-word g c = rw (c.move_words.ensures.size, c.move_part-then-dst-src.ensures.size) (c.of-first.ensures.inside _ c.requires.target)

pub move_part-requires-then-dst-src-2-clause-source : goal.move_part-requires-then-dst-src-2-clause-source
move_part-requires-then-dst-src-2-clause-source g c = rw (c.move_words.ensures.size, c.move_part-then-dst-src.ensures.size) (let run = c.of-first.ensures in let m = inner c.of-first.ensures c.if-first-last.false in omega arith)

pub move_part-requires-2-clause-word : goal.move_part-requires-2-clause-word
move_part-requires-2-clause-word g c = c.of-first.ensures.inside _ c.requires.target

pub move_part-requires-2-clause-source : goal.move_part-requires-2-clause-source
move_part-requires-2-clause-source g c = let run = c.of-first.ensures in let m = inner c.of-first.ensures c.if-first-last.false in omega arith

pub move_words-requires-2-clause-target : goal.move_words-requires-2-clause-target
move_words-requires-2-clause-target g c = let run = c.of-first.ensures in let last = c.of-first.ensures.inside _ c.requires.target in omega arith

pub move_words-requires-2-clause-source : goal.move_words-requires-2-clause-source
move_words-requires-2-clause-source g c = rw c.move_part-2.ensures.size (let run = c.of-first.ensures in let m = inner c.of-first.ensures c.if-first-last.false in let same : (c.of-first.result.last - (c.of-first.result.first + 1)) * g.T.BitStore.BITS ≡ (c.of-first.result.last - c.of-first.result.first - 1) * g.T.BitStore.BITS = ap (λ k. k * g.T.BitStore.BITS) (omega arith) in omega arith)

pub move_part-requires-3-clause-word : goal.move_part-requires-3-clause-word
move_part-requires-3-clause-word g c = let run = c.of-first.ensures in let last = c.of-first.ensures.inside _ c.requires.target in omega arith

pub move_part-requires-3-clause-source : goal.move_part-requires-3-clause-source
move_part-requires-3-clause-source g c = rw (c.move_words-2.ensures.size, c.move_part-2.ensures.size) (let run = c.of-first.ensures in let m = inner c.of-first.ensures c.if-first-last.false in omega arith)
