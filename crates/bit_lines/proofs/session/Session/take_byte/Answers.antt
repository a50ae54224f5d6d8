use Rattle.std.proofs.Common.{arith, ◌≡◌, ◌≤◌, length, false, ◌==◌, refl}
use Rattle.std.proofs.lemmas.Bool.Decides.{nat_tests}
use Rattle.bit_lines.proofs.Going.{full_stops, byte_advances}
use Rattle.bit_lines.proofs.session.Session.take_byte.Goals as goal

pub returns-then-line-eq-MAX_LINE-clause-ended : goal.returns-then-line-eq-MAX_LINE-clause-ended
returns-then-line-eq-MAX_LINE-clause-ended g c =
    let s = c.args.self.now in
    let other : (c.args.byte == 10) ≡ false = grind (arith, nat_tests, c.if-byte-eq10.false) in
    let full : 100 ≤ length s.line = rw (← c.line.ensures.value) (omega arith) in
    rw c.bad_command.ensures (full_stops s s c.args.byte c.line.ensures.part other full refl)

pub returns-in-Ok-clause-ok : goal.returns-in-Ok-clause-ok
returns-in-Ok-clause-ok g c = byte_advances c.args.self.now c.push_byte.new.self c.args.byte c.in-Ok.ensures.ok
