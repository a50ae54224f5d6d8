use Rattle.std.proofs.Common.{ap, rules, sym, ◌∙◌}
use Rattle.bit_addressing.specs.Row.{number_of}
use Rattle.bit_slice.proofs.Signed.{number_of_bits}
use Rattle.bit_slice.proofs.lists_mut.BitListMut.store_le_at.Goals as goal

pub returns-clause-written : goal.returns-clause-written
returns-clause-written g c = search rules

pub returns-clause-read_back : goal.returns-clause-read_back
returns-clause-read_back g c fits = ap number_of (returns-clause-written g c) ∙ sym (number_of_bits c.args.n c.args.number c.requires.few fits)

pub returns-clause-stays : goal.returns-clause-stays
returns-clause-stays g c = g.met.Self.BitListMut.stays_rewritten c.args.self.now _
