use Rattle.std.proofs.Common.{◌+◌, slice_get, ap, ◌∙◌, arith, rules}
use Rattle.bit_slice.specs.BitSlice.{list_of}
use Rattle.bit_slice.proofs.Parts.{view_length}
use Rattle.bit_slice.proofs.Ranges.{read_copied}
use Rattle.bit_slice.proofs.lists_mut.BitListMut.copy_into.Goals as goal

pub returns-clause-list : goal.returns-clause-list
returns-clause-list g c = search rules

pub returns-clause-within : goal.returns-clause-within
returns-clause-within g c k below =
    let size = view_length c.args.source in
    ap (λ l. slice_get l (g.R.RangeExt.start_of c.args.range + k)) (returns-clause-list g c) ∙ read_copied _ (list_of c.args.source) _ (omega (arith, size, c.requires.lies, c.requires.same_len, c.len-len.ensures.list, c.len-len.ensures.value)) k (omega (arith, size, below))

pub returns-clause-stays : goal.returns-clause-stays
returns-clause-stays g c = g.met.Self.BitListMut.stays_rewritten c.args.self.now _
