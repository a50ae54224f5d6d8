use Rattle.std.proofs.Common.{◌≡◌, ◌+◌, ◌*◌, length, slice_range, ◌∙◌, ap, subst, arith}
use Rattle.std.proofs.lemmas.List.{map-id}
use Rattle.std.specs.Io.KnownBytes.{prepend_known}
use Rattle.bit_addressing.specs.Row.{binary, row_of}
use Rattle.bit_streams.specs.Streamed.{Loses}
use Rattle.bit_streams.proofs.Ahead.{bytes_given}
use Rattle.bit_streams.proofs.taken.Taken.give.Goals as goal

pub returns-clause-bits : goal.returns-clause-bits
returns-clause-bits g c =
    let i = c.self.inside in
    let place = g.O.BitOrder.place in
    let n = c.min-n.result in
    let x = c.read_binary-x.result in
    let rest = g.R.Read.remaining i.inner in
    let begins = c.self.invariant.begins in
    let end = c.self.invariant.within in
    let size : length i.bytes ≡ 24 = grind arith in
    let digits : binary (8 * n) x ≡ slice_range (row_of place 8 i.bytes) (8 * i.at) (8 * i.at + 8 * n) = c.read_binary-x.ensures.digits ∙ ap (λ l. slice_range (row_of place 8 l) (8 * i.at) (8 * i.at + 8 * n)) (map-id i.bytes) in
    subst (λ v. Loses place v.left (prepend_known (slice_range i.bytes (i.at + n) i.end) rest) (binary (8 * n) x)) c.self.view_is
    (bytes_given place rest i.bytes i.at n i.end x (omega arith) (omega arith) digits)
