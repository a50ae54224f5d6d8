use Rattle.std.proofs.Common.{arith, ◌<◌, length}
use Rattle.std.proofs.lemmas.Bool.Decides.{nat_tests}
use Rattle.bit_lines.proofs.Going.{last_advances, last_stops}
use Rattle.bit_lines.proofs.session.Session.finish.Goals as goal

pub returns-in-Ok : goal.returns-in-Ok
returns-in-Ok g c =
    let some : 0 < length c.args.self.now.line = rw (← c.line.ensures.value) (grind (arith, nat_tests, c.if-is_empty.ensures)) in
    last_advances c.args.self.now c.end_line.new.self c.line.ensures.part some c.in-Ok.ensures.ok c.in-Ok.ensures.cleared

pub returns-in-Err : goal.returns-in-Err
returns-in-Err g c =
    let some : 0 < length c.args.self.now.line = rw (← c.line.ensures.value) (grind (arith, nat_tests, c.if-is_empty.ensures)) in
    last_stops c.args.self.now c.end_line.new.self c.line.ensures.part some c.in-Err.ending c.in-Err.ensures.ended
