use Rattle.std.proofs.Common.{◌+◌, sym, ◌∙◌, arith}
use Rattle.std.proofs.lemmas.Bool.{true≢false}
use Rattle.bit_slice.specs.BitSlice.{list_of}
use Rattle.bit_slice.specs.Edges.{edges_of}
use Rattle.bit_slice.proofs.BitRuns.{begins_after, bit_before, none_absent}
use Rattle.bit_slice.proofs.Chunked.{chunk_absent, chunk_none}
use Rattle.bit_slice.proofs.Parts.{view_length}
use Rattle.bit_slice.proofs.slice.BitSlice.edges_found.Goals as goal

pub returns-in-None-clause-before : goal.returns-in-None-clause-before
returns-in-None-clause-before g c =
    let v = c.args.self in
    none_absent (list_of v) c.args.at v.len c.args.before c.requires.later (omega (arith, view_length v)) c.requires.before c.in-None.ensures

pub returns-in-None-clause-chunk : goal.returns-in-None-clause-chunk
returns-in-None-clause-chunk g c = let v = c.args.self in chunk_none (edges_of (list_of v)) v.len

pub returns-in-Some-clause-before : goal.returns-in-Some-clause-before
returns-in-Some-clause-before g c =
    let v = c.args.self in
    let w = c.in-Some.ensures.within in
    none_absent (list_of v) c.args.at c.in-Some.i c.args.before c.requires.later (omega (arith, view_length v, w)) c.requires.before c.in-Some.ensures.before

pub returns-in-Some-clause-none : goal.returns-in-Some-clause-none
returns-in-Some-clause-none g c none =
    let v = c.args.self in
    let xs = list_of v in
    let i = c.in-Some.i in
    let next = c.in-Some.ensures in
    let w = next.within in
    let b = next.begins in
    let l = c.requires.later in
    let size = view_length v in
    let absent = none_absent xs c.args.at i c.args.before l (omega (arith, size, w)) c.requires.before next.before in
    let last = bit_before xs c.args.at i c.args.before l (omega (arith, size, w)) c.requires.before b absent in
    let begins = begins_after xs i c.args.before (omega (arith, l, b)) (omega (arith, size, w)) last next.here in
    let other = chunk_absent (edges_of xs) i (i + c.min-n.result) c.edges_at.result c.edges_at.ensures none in
    absurd (true≢false (sym begins ∙ other.each i (omega arith) (omega arith)))
