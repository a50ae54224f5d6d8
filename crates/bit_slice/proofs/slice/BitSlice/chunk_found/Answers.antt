use Rattle.std.proofs.Common.{◌+◌, sym, ◌∙◌, arith}
use Rattle.std.proofs.lemmas.Bool.{true≢false}
use Rattle.bit_slice.specs.BitSlice.{list_of}
use Rattle.bit_slice.proofs.Chunked.{chunk_absent, chunk_none}
use Rattle.bit_slice.proofs.slice.BitSlice.chunk_found.Goals as goal

pub returns-in-None-clause-chunk : goal.returns-in-None-clause-chunk
returns-in-None-clause-chunk g c = chunk_none (list_of c.args.self) c.args.upto

pub returns-in-Some-clause-none : goal.returns-in-Some-clause-none
returns-in-Some-clause-none g c = λ none.
    let xs = list_of c.args.self in
    let i = c.in-Some.i in
    let within = c.in-Some.ensures.within in
    let clear = chunk_absent xs i (i + c.min-n.result) c.chunk_at.result c.chunk_at.ensures none in
    absurd (true≢false (sym c.in-Some.ensures.here ∙ clear.each i (omega arith) (omega arith)))
