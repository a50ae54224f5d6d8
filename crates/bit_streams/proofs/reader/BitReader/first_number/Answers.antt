use Rattle.std.proofs.Common.{◌*◌, ◌≤◌, length, take, ◌∙◌, ap, inl, inr, arith}
use Rattle.std.proofs.lemmas.Bool.{cases_lt}
use Rattle.bit_streams.proofs.Leading.{take_twice}
use Rattle.bit_streams.proofs.reader.BitReader.first_number.Goals as goal

pub returns-in-Some-clause-code : goal.returns-in-Some-clause-code
returns-in-Some-clause-code g c some =
    let bytes = c.number_in.result.1 in
    let rest = c.args.self.now.rest in
    let few = c.number_in.ensures.few in
    let room : 64 ≤ length rest = elim (cases_lt (length rest) 64) [ inl l ↦ absurd (let none = c.peek.ensures.none.1 l in cc) | inr l ↦ l ] in
    c.number_in.ensures.code some ∙ ap (take (8 * bytes)) c.in-Some.ensures.digits ∙ take_twice (8 * bytes) 64 rest (omega arith) room
