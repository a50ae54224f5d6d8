use Rattle.std.proofs.Common.{[], append-nil, Some, refl, sym, ◌∙◌, ap, arith}
use Rattle.bit_addressing.specs.Row.{number_bits}
use Rattle.bit_streams.proofs.Turned.{bits_unique, has_bits}
use Rattle.bit_streams.proofs.reader.BitReader.read_le.Goals as goal

pub returns-in-None-clause-back : goal.returns-in-None-clause-back
returns-in-None-clause-back g c x more e below =
    let room = has_bits c.args.n x c.args.self.now.rest more e in
    let short = c.in-None.ensures.none.0 refl in absurd (omega arith)

pub returns-in-Some-clause-back : goal.returns-in-Some-clause-back
returns-in-Some-clause-back g c x more e below =
    let same = bits_unique c.args.n c.in-Some.x x c.next_le.new.self.rest more c.requires c.in-Some.ensures.below below (sym c.in-Some.ensures.digits ∙ e) in
    (ap Some same.0, same.1)

pub returns-in-None-clause-whole : goal.returns-in-None-clause-whole
returns-in-None-clause-whole g c x e below = returns-in-None-clause-back g c x [] (e ∙ sym (append-nil (number_bits x c.args.n))) below

pub returns-in-Some-clause-whole : goal.returns-in-Some-clause-whole
returns-in-Some-clause-whole g c x e below = returns-in-Some-clause-back g c x [] (e ∙ sym (append-nil (number_bits x c.args.n))) below
