use Rattle.bit_slice.proofs.lists_mut.BitListMut.store_be.Goals as goal

pub returns-clause-stays : goal.returns-clause-stays
returns-clause-stays g c = g.met.Self.BitListMut.stays_rewritten c.args.self.now _
