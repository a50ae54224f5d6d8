use Rattle.std.proofs.Common.{◌∙◌, ap, ◌*◌, length, false}
use Rattle.std.proofs.lemmas.List.{length-replicate}
use Rattle.bit_array.proofs.Arrays.{row_zero}
use Rattle.bit_array.proofs.array.BitArray.zero.Goals as goal

pub returns-clause-list : goal.returns-clause-list
returns-clause-list g c =
    row_zero g.A.Store.BitStore g.O.BitOrder (g.A.BitWords.words c.zero.result) g.A.BitWords.count g.met.A.Store.BitStore.width g.met.A.Store.BitStore.zero_is c.zero.ensures

pub returns-clause-len : goal.returns-clause-len
returns-clause-len g c = ap length (returns-clause-list g c) ∙ length-replicate (g.A.Store.BitStore.BITS * g.A.BitWords.count) false
