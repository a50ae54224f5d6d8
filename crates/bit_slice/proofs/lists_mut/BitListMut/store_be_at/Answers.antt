use Rattle.std.proofs.Common.{ap, rules, ◌∙◌}
use Rattle.bit_addressing.specs.Binary.{value}
use Rattle.bit_rows.proofs.Binary.{value_of_binary}
use Rattle.bit_slice.proofs.lists_mut.BitListMut.store_be_at.Goals as goal

pub returns-clause-written : goal.returns-clause-written
returns-clause-written g c = search rules

pub returns-clause-read_back : goal.returns-clause-read_back
returns-clause-read_back g c fits = ap value (returns-clause-written g c) ∙ value_of_binary c.args.n c.args.number fits

pub returns-clause-stays : goal.returns-clause-stays
returns-clause-stays g c = g.met.Self.BitListMut.stays_rewritten c.args.self.now _
