use Rattle.std.proofs.Common.{◌≡◌, rules, sym, subst, ◌∙◌, ap}
use Rattle.bit_slice.specs.Closures.{CallableFrom, ResultsFrom}
use Rattle.bit_slice.specs.Mapped.{chunk_number, from_chunk_numbers}
use Rattle.bit_slice.specs.Overwritten.{list_in}
use Rattle.bit_slice.specs.Pieces.{chunk_count}
use Rattle.bit_slice.proofs.lists_mut.BitListMut.map_chunks.Goals as goal

pub map_numbers-requires-clause-callable : goal.map_numbers-requires-clause-callable
map_numbers-requires-clause-callable g c =
    let size = c.args.size in
    let shown : list_in g.Self.Store.BitStore g.Self.Order.BitOrder c.as_raw_mut_slice.result.now c.head-head.result c.len-len.result ≡ g.Self.BitList.list c.args.self.now = search rules in
    subst (λ l. CallableFrom (λ state k. goal.F-pre g state (chunk_number size l k)) (λ state k. goal.F-step g state (chunk_number size l k)) c.args.f 0 (chunk_count c.len-len.result size)) (sym shown)
    (subst (λ n. CallableFrom (λ state k. goal.F-pre g state (chunk_number size (g.Self.BitList.list c.args.self.now) k)) (λ state k. goal.F-step g state (chunk_number size (g.Self.BitList.list c.args.self.now) k)) c.args.f 0 (chunk_count n size)) (sym c.len-len.ensures.value) c.requires.callable)

pub returns-clause-list : goal.returns-clause-list
returns-clause-list g c =
    let size = c.args.size in
    let run = c.map_numbers.ensures in
    let shown : list_in g.Self.Store.BitStore g.Self.Order.BitOrder c.as_raw_mut_slice.result.now c.head-head.result c.len-len.result ≡ g.Self.BitList.list c.args.self.now = search rules in
    let is : g.Self.BitList.list (g.Self.BitListMut.rewritten c.args.self.now c.map_numbers.new.words) ≡ from_chunk_numbers size c.len-len.result run.0 = search rules in (
      run.0,
      c.map_numbers.new.f,
      run.1 ∙ ap (λ n. chunk_count n size) c.len-len.ensures.value,
      subst (λ l. ResultsFrom (λ state k. goal.F-step g state (chunk_number size l k)) c.args.f 0 run.0 c.map_numbers.new.f) shown run.2,
      is ∙ ap (λ n. from_chunk_numbers size n run.0) c.len-len.ensures.value,
    )

pub returns-clause-stays : goal.returns-clause-stays
returns-clause-stays g c = g.met.Self.BitListMut.stays_rewritten c.args.self.now _
