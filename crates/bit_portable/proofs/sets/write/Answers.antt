use Rattle.std.proofs.Common.{◌∙◌, ap, sym}
use Rattle.bit_portable.specs.Stored.{pieces_lent}
use Rattle.bit_portable.specs.Keyed.{all_numbered}
use Rattle.bit_portable.specs.Portable.{any_runs}
use Rattle.bit_portable.proofs.Portable.{writable_as, written_as}
use Rattle.bit_portable.proofs.sets.write.Goals as goal

pub write_parts-requires : goal.write_parts-requires
write_parts-requires c =
    let flag = c.any_runs-flagged.ensures ∙ ap (λ xs. any_runs (pieces_lent xs)) (c.deref.ensures.value ∙ sym c.deref-2.ensures.value) in
    let pieces = ap pieces_lent c.deref-2.ensures.value ∙ c.in_ok-all.ensures in
    writable_as c.any_runs-flagged.result (pieces_lent c.deref-2.result.now) c.args.with_runs (all_numbered c.args.blocks.now) flag pieces c.requires

pub returns : goal.returns
returns c =
    let flag = c.any_runs-flagged.ensures ∙ ap (λ xs. any_runs (pieces_lent xs)) (c.deref.ensures.value ∙ sym c.deref-2.ensures.value) in
    let pieces = ap pieces_lent c.deref-2.ensures.value ∙ c.in_ok-all.ensures in
    written_as c.any_runs-flagged.result (pieces_lent c.deref-2.result.now) c.args.with_runs (all_numbered c.args.blocks.now) c.in_ok-bytes.bytes.items flag pieces c.in_ok-bytes.ensures
