use Rattle.std.proofs.Common.{◌≡◌, ◌<◌, Bool, Bor, length, map, arith, subst, sym}
use Rattle.std.proofs.lemmas.List.{length-map}
use Rattle.std.proofs.iter.runs.Consumers.{total_runs}
use Rattle.std.specs.Iterator.Adapters.{copied_steps}
use Rattle.bit_boxed.proofs.Copies.{all_copied, first_copied, refused_first}
use Rattle.bit_boxed.proofs.boxed.filling.BitBoxFromIteratorRefBool.from_iter.Goals as goal

pub returns-in-Ok-clause-ran : goal.returns-in-Ok-clause-ran
returns-in-Ok-clause-ran g c =
    let starts = subst (g.I.IntoIterator.into_iter_gives c.args.iter) (sym c.copied.ensures.source) c.into_iter.ensures.into_iter_gives in
    let h = all_copied g.I.IntoIterator.into_iter_gives g.I.IntoIter.Iterator.next_gives c.args.iter c.copied.result starts (λ bits. c.in-Ok.b.list ≡ bits) c.in-Ok.ensures.list in
    (h.0, h.1, h.2, (h.3.1.0, h.3.1.1, λ _. (h.3.0, h.3.1.2)), (h.4, c.in-Ok.ensures.clean))

pub returns-in-Ok-clause-runs : goal.returns-in-Ok-clause-runs
returns-in-Ok-clause-runs g c =
    let starts = subst (g.I.IntoIterator.into_iter_gives c.args.iter) (sym c.copied.ensures.source) c.into_iter.ensures.into_iter_gives in
    let h = all_copied g.I.IntoIterator.into_iter_gives g.I.IntoIter.Iterator.next_gives c.args.iter c.copied.result starts (λ bits. c.in-Ok.b.list ≡ bits) c.in-Ok.ensures.list in
    (h.0, h.2, total_runs g.I.IntoIter.Iterator.next_gives h.0 (Unit {0}) (λ bits. c.in-Ok.b.list ≡ map {A = Bor Bool} {B = Bool} (λ x. x.now) bits) (h.1, λ _. h.3, h.4) tt)

pub returns-in-Err-clause-memory : goal.returns-in-Err-clause-memory
returns-in-Err-clause-memory g c =
    let starts = subst (g.I.IntoIterator.into_iter_gives c.args.iter) (sym c.copied.ensures.source) c.into_iter.ensures.into_iter_gives in
    let pulled = refused_first (λ x s. s ≡ x) (copied_steps g.I.IntoIter.Iterator.next_gives) c.copied.result c.in-Err.field-0 c.from_bits.result c.in-Err.is c.from_bits.ensures.too_long c.from_bits.ensures.memory in
    let h = first_copied g.I.IntoIterator.into_iter_gives g.I.IntoIter.Iterator.next_gives c.args.iter c.copied.result starts (λ bits. 0 < length bits) pulled in
    let same = length-map h.1 (λ x. x.now) in
    (h.0, h.1, h.2, h.3, h.4, omega (arith, h.5, same))
