use Rattle.std.proofs.Common.{ℕ, Bool, List, length, min, sym, ◌∙◌, ap, arith}
use Rattle.bit_slice.proofs.Places.{places_count}
use Rattle.std.specs.Range.Bound.{end_index, start_index}
use Rattle.bit_sets.specs.NumberSet.{numbers_between}
use Rattle.bit_sets.proofs.Ascending.{clipped}
use Rattle.bit_sets.proofs.number_set.NumberSet.count_in.Goals as goal

pub returns : goal.returns
returns g c =
    let xs : List Bool = c.self.inside.bits.list in
    let part = c.below_bound-part in
    let from : ℕ = start_index (g.R.RangeBounds.start_bound c.args.numbers) in
    let upto : ℕ = end_index (g.R.RangeBounds.end_bound c.args.numbers) (length c.args.self.now) in
    let end = part.ensures.end ∙ ap (λ (l : List Bool). min upto (length l)) (sym c.self.view_is) in
    let start = part.ensures.start ∙ ap (min from) (sym part.ensures.end) in
    c.count_ones_in.ensures.value ∙ sym (places_count (λ b. b) xs part.result.start part.result.end (omega arith) (omega arith))
    ∙ ap length (clipped xs from upto part.result.start part.result.end end start ∙ ap (λ l. numbers_between l from upto) c.self.view_is)
