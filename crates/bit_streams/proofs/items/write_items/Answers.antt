use Rattle.std.proofs.Common.{◌≡◌, ◌+◌, ◌++◌, [], ◌∷◌, drop, refl, sym, ◌∙◌, take, ap, arith}
use Rattle.std.proofs.lemmas.List.{take-append-drop, take_more}
use Rattle.bit_streams.specs.Fields.{items_bits}
use Rattle.bit_streams.proofs.ItemsRead.{items_around, more_written}
use Rattle.bit_streams.proofs.Steps.{may_refuse_after, may_refuse_first}
use Rattle.bit_streams.proofs.items.write_items.Goals as goal

pub loop-item-preserved : goal.loop-item-preserved
loop-item-preserved g c =
    let bits = g.F.Fields.bits_of in
    let xs = c.args.items.now in
    let i = c.loop-item.item-index in
    let x = c.item-item.result in
    let old = c.args.writer.now.list in
    let was = c.loop-item.invariant.1 in
    let grew = c.in-Ok.ensures.capacity in (
      more_written bits old c.loop-item.writer.list c.write.new.writer.list (take i xs) x c.loop-item.invariant.0 c.in-Ok.ensures.list
          ∙ ap (λ l. old ++ items_bits bits l) (sym (take_more xs i x c.loop-item-test.true ∙ ap (λ y. take i xs ++ y ∷ []) (sym c.item-item.is))),
      omega arith,
    )

pub returns-in-Err-clause-refusal : goal.returns-in-Err-clause-refusal
returns-in-Err-clause-refusal g c =
    let bits = g.F.Fields.bits_of in
    let xs = c.args.items.now in
    let i = c.loop-item.item-index in
    let x = c.item-item.result in
    let front = items_bits bits (take i xs) in
    let back = drop (i + 1) xs in
    let upto = take_more xs i x c.loop-item-test.true ∙ ap (λ y. take i xs ++ y ∷ []) (sym c.item-item.is) in
    let parts : xs ≡ (take i xs ++ x ∷ []) ++ back = sym (take-append-drop (i + 1) xs) ∙ ap (λ l. l ++ back) upto in
    may_refuse_first c.in-Err.why (items_bits bits xs) (front ++ bits x) (items_bits bits back) c.args.writer.now c.truncate.new.self
    (may_refuse_after c.in-Err.why (front ++ bits x) front (bits x) c.len-before.result c.args.writer.now c.truncate.new.self c.loop-item.writer c.write.new.writer
    c.in-Err.ensures.refusal c.loop-item.invariant.0 refl c.loop-item.invariant.1 c.truncate.ensures.list c.len-before.ensures.value)
    (items_around bits xs (take i xs) back x parts)
