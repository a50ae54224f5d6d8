use Rattle.std.proofs.Common.{◌-◌, ◌∷◌, sym, ◌∙◌, ap, arith}
use Rattle.std.proofs.lemmas.List.{take_all}
use Rattle.bit_slice.specs.BitSlice.{list_of}
use Rattle.bit_slice.proofs.Parts.{view_length}
use Rattle.bit_slice.proofs.Shown.{run_first}
use Rattle.bit_slice.proofs.slice.BitSlice.split_first.Goals as goal

pub returns-clause-both : goal.returns-clause-both
returns-clause-both g c =
    let v = c.args.self in
    let size = view_length v in
    sym (take_all (v.len - 0) (list_of v) (omega (arith, size)))
    ∙ run_first (list_of v) 0 v.len c.bit.result (omega arith) (omega (arith, size)) c.bit.ensures.value
    ∙ ap (λ l. c.bit.result ∷ l) (sym c.get_range.ensures.list)
