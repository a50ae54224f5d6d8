use Rattle.std.proofs.Common.{refl}
use Rattle.bit_lines.proofs.Going.{bad_stops, refused_stops, line_advances}
use Rattle.bit_lines.proofs.session.Session.end_line.Goals as goal

pub returns-in_default-clause-ended : goal.returns-in_default-clause-ended
returns-in_default-clause-ended g c =
    let s = c.args.self.now in
    let none = rw c.line.ensures.value at c.in_default.ensures in
    rw c.bad_command.ensures (bad_stops s s c.line.ensures.part none refl)

pub returns-in-Ok-clause-ok : goal.returns-in-Ok-clause-ok
returns-in-Ok-clause-ok g c =
    let some = rw c.line.ensures.value at c.in-Some.ensures in
    line_advances c.args.self.now c.next_line.new.self c.line.ensures.part c.in-Some.line c.reply.new.self some c.in-Ok.ensures.ok c.next_line.ensures

pub returns-in-Err-clause-ended : goal.returns-in-Err-clause-ended
returns-in-Err-clause-ended g c =
    let some = rw c.line.ensures.value at c.in-Some.ensures in
    refused_stops c.args.self.now c.reply.new.self c.line.ensures.part c.in-Some.line c.in-Err.ending some c.in-Err.ensures.err c.in-Err.ensures.out
