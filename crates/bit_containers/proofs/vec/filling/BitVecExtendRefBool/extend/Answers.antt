use Rattle.std.proofs.Common.{◌≡◌, ◌+◌, ◌≤◌, ◌++◌, [], Bool, Bor, length, map, subst, sym, refl, ◌∙◌, append-nil}
use Rattle.std.specs.Prelude.{IsOk}
use Rattle.std.proofs.iter.runs.Consumers.{total_runs}
use Rattle.bit_addressing.specs.declared.length.TheConstants.{MAX_BITS}
use Rattle.bit_boxed.proofs.Copies.{all_copied, each_copied}
use Rattle.bit_containers.specs.BitVec.{Grew}
use Rattle.bit_containers.proofs.vec.filling.BitVecExtendRefBool.extend.Goals as goal

pub returns-in-Ok-clause-ran : goal.returns-in-Ok-clause-ran
returns-in-Ok-clause-ran g c =
    let old = c.args.self.now in
    let new = c.extend.new.self in
    let starts = subst (g.I.IntoIterator.into_iter_gives c.args.iter) (sym c.copied.ensures.source) c.into_iter.ensures.into_iter_gives in
    let h = all_copied g.I.IntoIterator.into_iter_gives g.I.IntoIter.Iterator.next_gives c.args.iter c.copied.result starts (λ bits. (new.list ≡ old.list ++ bits) × Grew g.T.BitStore.BITS old new bits) c.in-Ok.ensures.joined in
    (h.0, h.1, h.2, (h.4.0, c.extend.ensures.head, c.extend.ensures.capacity), h.3)

pub returns-in-Err-clause-ran : goal.returns-in-Err-clause-ran
returns-in-Err-clause-ran g c =
    let it = c.into_iter.result in
    (it, [], c.into_iter.ensures.into_iter_gives, (c.in-Err.ensures.unchanged ∙ sym (append-nil c.args.self.now.list), c.extend.ensures.head, c.extend.ensures.capacity), (it, refl))

pub returns-in-Ok-clause-runs : goal.returns-in-Ok-clause-runs
returns-in-Ok-clause-runs g c =
    let old = c.args.self.now in
    let new = c.extend.new.self in
    let starts = subst (g.I.IntoIterator.into_iter_gives c.args.iter) (sym c.copied.ensures.source) c.into_iter.ensures.into_iter_gives in
    let h = all_copied g.I.IntoIterator.into_iter_gives g.I.IntoIter.Iterator.next_gives c.args.iter c.copied.result starts (λ bits. (new.list ≡ old.list ++ bits) × Grew g.T.BitStore.BITS old new bits) c.in-Ok.ensures.joined in
    (h.0, h.2, total_runs g.I.IntoIter.Iterator.next_gives h.0 (Unit {0}) (λ bits. new.list ≡ old.list ++ map {A = Bor Bool} {B = Bool} (λ x. x.now) bits) (h.1, λ _. h.3, h.4.0) tt)

pub returns-in-Err-clause-fits : goal.returns-in-Err-clause-fits
returns-in-Err-clause-fits g c fits =
    let old = c.args.self.now in
    let starts = subst (g.I.IntoIterator.into_iter_gives c.args.iter) (sym c.copied.ensures.source) c.into_iter.ensures.into_iter_gives in
    subst IsOk c.in-Err.is (c.extend.ensures.fits (each_copied g.I.IntoIterator.into_iter_gives g.I.IntoIter.Iterator.next_gives c.args.iter c.copied.result starts (λ n. (length old.list + n ≤ old.capacity) × (length old.list + n ≤ MAX_BITS)) fits))

pub returns-in-Ok-clause-no_memory : goal.returns-in-Ok-clause-no_memory
returns-in-Ok-clause-no_memory g c fits =
    let old = c.args.self.now in
    let starts = subst (g.I.IntoIterator.into_iter_gives c.args.iter) (sym c.copied.ensures.source) c.into_iter.ensures.into_iter_gives in
    c.extend.ensures.no_memory (each_copied g.I.IntoIterator.into_iter_gives g.I.IntoIter.Iterator.next_gives c.args.iter c.copied.result starts (λ n. length old.list + n ≤ old.capacity) fits)

pub returns-in-Err-clause-no_memory : goal.returns-in-Err-clause-no_memory
returns-in-Err-clause-no_memory g c fits =
    let old = c.args.self.now in
    let starts = subst (g.I.IntoIterator.into_iter_gives c.args.iter) (sym c.copied.ensures.source) c.into_iter.ensures.into_iter_gives in
    c.extend.ensures.no_memory (each_copied g.I.IntoIterator.into_iter_gives g.I.IntoIter.Iterator.next_gives c.args.iter c.copied.result starts (λ n. length old.list + n ≤ old.capacity) fits)
