use Rattle.std.proofs.Common.{◌∙◌, arith, rules}
use Rattle.std.proofs.lemmas.Result.{on_ok_weaker}
use Rattle.bit_slice.specs.BitSlice.{len_of}
use Rattle.bit_sets.proofs.Members.{toggled}
use Rattle.bit_sets.proofs.number_set.NumberSet.symmetric_difference_with.Goals as goal

pub returns-clause-members : goal.returns-clause-members
returns-clause-members c =
    on_ok_weaker c.xor_growing.result
    (λ h. toggled c.args.self.now c.args.other.now c.xor_growing.new.self.list (len_of c.as_bitslice.result) (c.as_bitslice.ensures.len ∙ search rules) (h ∙ search rules))
    c.xor_growing.ensures.list

pub returns-clause-only_memory : goal.returns-clause-only_memory
returns-clause-only_memory c is = omega (arith, c.xor_growing.ensures.refusal.too_long.0 is, c.as_bitslice.result.fits.few)
