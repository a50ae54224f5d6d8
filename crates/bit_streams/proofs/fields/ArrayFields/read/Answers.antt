use Rattle.std.proofs.Common.{◌≡◌, ◌<◌, ◌++◌, [], All, Some, append-nil, length, take, sym, ◌∙◌, ap, subst, arith}
use Rattle.std.proofs.lemmas.List.{length-replicate, length-set, length-take-le, take_all, take_more_set}
use Rattle.bit_streams.specs.Fields.{items_bits}
use Rattle.bit_streams.proofs.ItemsRead.{SoFar, first_taken, none_next, none_so_far, one_more, read_all}
use Rattle.bit_streams.proofs.fields.ArrayFields.read.Goals as goal

pub returns-in-None-clause-back : goal.returns-in-None-clause-back
returns-in-None-clause-back g c xs more fit e =
    let bits = g.F.Fields.bits_of in
    let fits = g.F.Fields.fits in
    let old = c.args.reader.now.rest in
    let m = none_next bits fits old g.row.N [] xs old more (none_so_far bits fits old g.row.N) fit.0 fit.1 fit.2 e in
    let b = c.in-None.ensures.back m.next (items_bits bits m.left ++ more) m.fits_next m.bits_are in
    absurd cc

pub returns-in-None-clause-whole : goal.returns-in-None-clause-whole
returns-in-None-clause-whole g c xs fit e = returns-in-None-clause-back g c xs [] fit (e ∙ sym (append-nil (items_bits g.F.Fields.bits_of xs)))

pub loop-i-init : goal.loop-i-init
loop-i-init g c =
    let bits = g.F.Fields.bits_of in
    let fits = g.F.Fields.fits in
    let old = c.args.reader.now.rest in
    let n = g.row.N in
    let none = c.if-this-eq0.false in
    let some : 0 < n = omega arith in
    let x = c.in-Some.first in
    let s = one_more bits fits old n [] old c.read.new.reader.rest x (none_so_far bits fits old n) some c.in-Some.ensures.found c.in-Some.ensures.fitting (λ y more f e. c.in-Some.ensures.back y more f e) in (
      subst (λ l. SoFar bits fits old n l c.read.new.reader.rest) (sym (first_taken n x some)) s,
      length-replicate n x,
      c.copied-before.ensures,
    )

pub returns-in-None-read-clause-back : goal.returns-in-None-read-clause-back
returns-in-None-read-clause-back g c xs more fit e =
    let bits = g.F.Fields.bits_of in
    let fits = g.F.Fields.fits in
    let inv = c.loop-i.invariant in
    let here = c.loop-i-test.true in
    let size = inv.1 in
    let items : length (take c.loop-i.i c.loop-i.all) ≡ c.loop-i.i = length-take-le c.loop-i.i c.loop-i.all (omega arith) in
    let m = none_next bits fits c.args.reader.now.rest g.row.N (take c.loop-i.i c.loop-i.all) xs c.loop-i.reader.rest more inv.0 (omega arith) fit.1 fit.2 e in
    let b = c.in-None-read.ensures.back m.next (items_bits bits m.left ++ more) m.fits_next m.bits_are in
    absurd cc

pub returns-in-None-read-clause-whole : goal.returns-in-None-read-clause-whole
returns-in-None-read-clause-whole g c xs fit e = returns-in-None-read-clause-back g c xs [] fit (e ∙ sym (append-nil (items_bits g.F.Fields.bits_of xs)))

pub loop-i-preserved : goal.loop-i-preserved
loop-i-preserved g c =
    let bits = g.F.Fields.bits_of in
    let fits = g.F.Fields.fits in
    let old = c.args.reader.now.rest in
    let n = g.row.N in
    let inv = c.loop-i.invariant in
    let here = c.loop-i-test.true in
    let size = inv.1 in
    let i = c.loop-i.i in
    let all = c.loop-i.all in
    let x = c.in-Some-read.next in
    let items : length (take i all) ≡ i = length-take-le i all (omega arith) in
    let s = one_more bits fits old n (take i all) c.loop-i.reader.rest c.read-in-loop-i.new.reader.rest x inv.0 (omega arith) c.in-Some-read.ensures.found c.in-Some-read.ensures.fitting (λ y more f e. c.in-Some-read.ensures.back y more f e) in (
      subst (λ l. SoFar bits fits old n l c.read-in-loop-i.new.reader.rest) (sym (take_more_set all i x (omega arith))) s,
      length-set all i x ∙ size,
      inv.2,
    )

pub returns-clause-found : goal.returns-clause-found
returns-clause-found g c =
    let inv = c.loop-i.invariant in
    let size = inv.1 in
    let end = c.loop-i-test.false in
    let all = take_all c.loop-i.i c.loop-i.all (omega arith) in
    inv.0.found ∙ ap (λ l. items_bits g.F.Fields.bits_of l ++ c.loop-i.reader.rest) all

pub returns-clause-fitting : goal.returns-clause-fitting
returns-clause-fitting g c =
    let inv = c.loop-i.invariant in
    let size = inv.1 in
    let none = c.if-this-eq0.false in
    let end = c.loop-i-test.false in
    let all = take_all c.loop-i.i c.loop-i.all (omega arith) in
    (omega arith, size, subst (λ l. All g.F.Fields.fits l) all inv.0.fit)

pub returns-clause-back : goal.returns-clause-back
returns-clause-back g c xs more fit e =
    let inv = c.loop-i.invariant in
    let size = inv.1 in
    let end = c.loop-i-test.false in
    let all = take_all c.loop-i.i c.loop-i.all (omega arith) in
    let r = read_all g.F.Fields.bits_of g.F.Fields.fits c.args.reader.now.rest g.row.N (take c.loop-i.i c.loop-i.all) xs c.loop-i.reader.rest more inv.0 (ap length all ∙ size) fit.1 fit.2 e in
    (ap Some (sym all ∙ r.0), r.1)

pub returns-clause-whole : goal.returns-clause-whole
returns-clause-whole g c xs fit e = returns-clause-back g c xs [] fit (e ∙ sym (append-nil (items_bits g.F.Fields.bits_of xs)))
