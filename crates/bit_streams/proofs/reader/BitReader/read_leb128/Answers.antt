use Rattle.std.proofs.Common.{◌*◌, Ok, ap}
use Rattle.bit_streams.specs.Codes.{leb128}
use Rattle.bit_streams.proofs.Leading.{code_found, number_same}
use Rattle.bit_streams.proofs.reader.BitReader.read_leb128.Goals as goal

pub returns-then-bytes-gt0-clause-found : goal.returns-then-bytes-gt0-clause-found
returns-then-bytes-gt0-clause-found g c =
    code_found (8 * c.first_number-x.result.1) c.args.self.now.rest (leb128 c.first_number-x.result.0) c.pass.new.self.rest (c.first_number-x.ensures.code c.if-bytes-gt0.true) c.pass.ensures.rest

pub returns-then-bytes-gt0-clause-back : goal.returns-then-bytes-gt0-clause-back
returns-then-bytes-gt0-clause-back g c x more below is =
    let read = c.first_number-x.result.0 in
    let rest = c.args.self.now.rest in
    let found = code_found (8 * c.first_number-x.result.1) rest (leb128 read) c.pass.new.self.rest (c.first_number-x.ensures.code c.if-bytes-gt0.true) c.pass.ensures.rest in
    let same = number_same read x rest c.pass.new.self.rest more c.first_number-x.ensures.below below found is in
    (ap (λ k. Ok k) same.0, same.1)
