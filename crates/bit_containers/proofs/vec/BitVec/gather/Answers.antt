use Rattle.std.proofs.Common.{◌≡◌, [], ◌∷◌, ◌++◌, sym, ◌∙◌, ap, arith, append-nil}
use Rattle.bit_addressing.specs.Row.{number_bits}
use Rattle.bit_rows.proofs.Binary.{length-number_bits}
use Rattle.bit_containers.proofs.Growing.{grew_none, highest_bits_none, highest_bits_all}
use Rattle.bit_containers.proofs.vec.BitVec.gather.Goals as goal

pub returns-then-got-most-clause-joined : goal.returns-then-got-most-clause-joined
returns-then-got-most-clause-joined g c =
    let now = c.args.self.now in
    ([], sym (append-nil now.list), grew_none g.T.BitStore.BITS now c.prove_in_words.ensures.size, c.with_last.ensures c.args.got (omega arith))

pub returns-clause-joined : goal.returns-clause-joined
returns-clause-joined g c =
    let kept = number_bits c.args.number c.args.got in
    let all : c.args.got ≡ 64 = grind (arith, c.requires.full) in (
      kept,
      c.in_ok-push_le.ensures.list,
      c.in_ok-push_le.ensures.row,
      ap (λ l. kept ++ l) (c.with_last-2.ensures 0 (omega arith) ∙ ap (λ l. l ++ c.args.bit ∷ []) (highest_bits_none 0)) ∙ ap (λ l. l ++ c.args.bit ∷ []) (highest_bits_all c.args.number c.args.got all),
    )

pub returns-clause-next : goal.returns-clause-next
returns-clause-next g c =
    let grown = c.in_ok-push_le.ensures.row.len in
    let size = length-number_bits c.args.number c.args.got in
    (omega (arith), c.gathers.ensures.few, c.gathers.ensures.fits)
