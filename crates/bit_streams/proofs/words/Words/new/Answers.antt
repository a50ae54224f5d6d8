use Rattle.std.proofs.Common.{◌∙◌, ap}
use Rattle.bit_addressing.specs.Typed.{row}
use Rattle.bit_addressing.proofs.Rows.{row_of_none}
use Rattle.bit_streams.proofs.Late.{none_late}
use Rattle.bit_streams.proofs.words.Words.new.Goals as goal

pub returns-clause-list : goal.returns-clause-list
returns-clause-list g c =
    none_late g.T.BitStore g.O.BitOrder c.new.result.items ∙ ap (row g.T.BitStore g.O.BitOrder) c.new.ensures.items
    ∙ row_of_none g.O.BitOrder.place g.T.BitStore.BITS
