use Rattle.std.proofs.Common.{◌≡◌, ◌≤◌, length, arith}
use Rattle.std.proofs.lemmas.List.{length-take-le}
use Rattle.bit_streams.proofs.Held.{bytes_put}
use Rattle.bit_streams.proofs.sink.give_number.Goals as goal

pub returns-in-Ok-clause-ok : goal.returns-in-Ok-clause-ok
returns-in-Ok-clause-ok g c =
    let bytes = c.bytes_of-bytes.result in
    let few = c.requires.few in
    let size : length bytes ≡ 8 = grind arith in
    let part = length-take-le c.args.count bytes (omega arith) in
    let within : c.in-Ok.taken ≤ c.args.count = omega (arith, part, c.in-Ok.ensures.few) in
    bytes_put g.O.BitOrder.place (g.W.Write.contents c.args.inner.now) (g.W.Write.contents c.give_some.new.out) bytes c.args.count c.in-Ok.taken c.args.number size within few c.requires.small c.bytes_of-bytes.ensures c.in-Ok.ensures.given
