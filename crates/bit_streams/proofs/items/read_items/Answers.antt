use Rattle.std.proofs.Common.{◌≡◌, ◌+◌, ◌++◌, [], ◌∷◌, length, sym, ◌∙◌, ap, subst, arith}
use Rattle.std.specs.Prelude.{All}
use Rattle.std.proofs.lemmas.List.{length_push}
use Rattle.std.proofs.lemmas.List.Elements.{All-append}
use Rattle.bit_streams.specs.Fields.{items_bits}
use Rattle.bit_streams.proofs.ItemsRead.{all_one, all_read, coming_on, more_read, next_of}
use Rattle.bit_streams.proofs.items.read_items.Goals as goal

pub returns-in-None-clause-back : goal.returns-in-None-clause-back
returns-in-None-clause-back g c xs more size fit e =
    let bits = g.F.Fields.bits_of in
    let fits = g.F.Fields.fits in
    let here = c.loop-test.true in
    let read = c.loop.invariant.1 in
    let n = next_of bits fits xs c.loop.items.items c.loop.reader.rest more (omega arith) (c.loop.invariant.3 xs more size fit e) in
    let b = c.in-None.ensures.back n.next (items_bits bits n.left ++ more) n.fits_next n.bits_are in
    absurd cc

pub loop-preserved : goal.loop-preserved
loop-preserved g c =
    let bits = g.F.Fields.bits_of in
    let fits = g.F.Fields.fits in
    let items = c.loop.items.items in
    let x = c.in-Some.item in
    let its : c.push.new.self.items ≡ items ++ x ∷ [] = c.in-Ok.ensures.items in
    let inv = c.loop.invariant in (
      more_read bits c.args.reader.now.rest c.loop.reader.rest c.read.new.reader.rest items x inv.0 c.in-Some.ensures.found ∙ ap (λ l. items_bits bits l ++ c.read.new.reader.rest) (sym its),
      ap length its ∙ length_push items x ∙ ap (λ k. k + 1) inv.1,
      subst (All fits) (sym its) (All-append fits items (x ∷ []) inv.2 (all_one bits fits x c.in-Some.ensures.fitting)),
      λ xs more size fit e.
          let here = c.loop-test.true in
          let read = inv.1 in
          let n = next_of bits fits xs items c.loop.reader.rest more (omega arith) (inv.3 xs more size fit e) in
          let b = c.in-Some.ensures.back n.next (items_bits bits n.left ++ more) n.fits_next n.bits_are in
          let same : x ≡ n.next = cc in
          coming_on bits fits xs items c.push.new.self.items c.loop.reader.rest c.read.new.reader.rest more x n same b.1 its,
    )

pub returns-clause-back : goal.returns-clause-back
returns-clause-back g c xs more size fit e =
    let end = c.loop-test.false in
    let last = c.loop.auto.counter-end in
    let read = c.loop.invariant.1 in
    let r = all_read g.F.Fields.bits_of g.F.Fields.fits xs c.loop.items.items c.loop.reader.rest more (omega arith) (c.loop.invariant.3 xs more size fit e) in
    (λ k. absurd cc, (r.0, r.1))
