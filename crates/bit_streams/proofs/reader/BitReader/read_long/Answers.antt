use Rattle.std.proofs.Common.{Ok, ap}
use Rattle.bit_streams.proofs.Leading.{number_same}
use Rattle.bit_streams.proofs.reader.BitReader.read_long.Goals as goal

pub returns-in-Some-clause-back : goal.returns-in-Some-clause-back
returns-in-Some-clause-back g c x more below is =
    let same = number_same c.in-Some.x x c.args.self.now.rest c.read_longest.new.self.rest more c.in-Some.ensures.below below c.in-Some.ensures.found is in
    (ap (λ k. Ok k) same.0, same.1)
