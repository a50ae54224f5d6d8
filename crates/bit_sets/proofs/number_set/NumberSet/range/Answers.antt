use Rattle.std.proofs.Common.{◌≡◌, ℕ, ◌+◌, ◌-◌, Bool, List, count_by, length, map, min, slice_range, sym, ◌∙◌, ap, arith}
use Rattle.std.proofs.lemmas.List.{length-map}
use Rattle.std.proofs.lemmas.List.Sums.{count_by-le-length}
use Rattle.std.specs.Range.Bound.{end_index, start_index}
use Rattle.bit_addressing.proofs.lists.Shown.{length-between}
use Rattle.bit_slice.specs.BitSlice.{len_of, list_of}
use Rattle.bit_slice.specs.Indices.{ones_left}
use Rattle.bit_slice.specs.Places.{ones_of}
use Rattle.bit_sets.specs.NumberSet.{numbers_between}
use Rattle.bit_ranks.proofs.Parts.{fit_from_all, part_ones}
use Rattle.bit_sets.proofs.Ascending.{clipped}
use Rattle.bit_sets.proofs.Runs.{range_runs, range_runs_back}
use Rattle.bit_sets.proofs.number_set.NumberSet.range.Goals as goal

pub invariant_of-result : goal.invariant_of-result
invariant_of-result g c =
    let part = c.below_bound-part in
    let few = c.as_bitslice.result.fits.few in
    let size = c.get_range.ensures.len in
    let len = c.as_bitslice.ensures.len in
    let same : length c.self.inside.bits.list ≡ length c.args.self.now = ap length c.self.view_is in
    let lies = part.ensures.lies in
    record { fits = fit_from_all part.result.start (len_of c.get_range.result) (ones_left c.iter_ones.result) c.iter_ones.ensures.inside (omega arith) }

pub returns-clause-list : goal.returns-clause-list
returns-clause-list g c =
    let from : ℕ = start_index (g.R.RangeBounds.start_bound c.args.numbers) in
    let upto : ℕ = end_index (g.R.RangeBounds.end_bound c.args.numbers) (length c.args.self.now) in
    let xs : List Bool = c.self.inside.bits.list in
    let part = c.below_bound-part in
    let end = part.ensures.end ∙ ap (λ (l : List Bool). min upto (length l)) (sym c.self.view_is) in
    let start = part.ensures.start ∙ ap (min from) (sym part.ensures.end) in
    let ones : ones_left c.iter_ones.result ≡ ones_of (slice_range xs part.result.start part.result.end) = c.iter_ones.ensures.list ∙ ap ones_of (c.get_range.ensures.list ∙ ap (λ l. slice_range l part.result.start part.result.end) c.as_bitslice.ensures.list) in
    ap (map (λ i. part.result.start + i)) ones ∙ part_ones xs part.result.start part.result.end (omega arith) (omega arith)
    ∙ clipped xs from upto part.result.start part.result.end end start ∙ ap (λ l. numbers_between l from upto) c.self.view_is

pub returns-clause-runs : goal.returns-clause-runs
returns-clause-runs g c = range_runs

pub returns-clause-runs_back : goal.returns-clause-runs_back
returns-clause-runs_back g c = range_runs_back

pub returns-clause-few : goal.returns-clause-few
returns-clause-few g c =
    let xs : List Bool = c.self.inside.bits.list in
    let part = c.below_bound-part in
    let left : List ℕ = ones_left c.iter_ones.result in
    let run : List Bool = slice_range xs part.result.start part.result.end in
    let same : length xs ≡ length c.args.self.now = ap length c.self.view_is in
    let lies = part.ensures.lies in
    let mapped = length-map left (λ i. part.result.start + i) in
    let shown : list_of c.get_range.result ≡ run = c.get_range.ensures.list ∙ ap (λ l. slice_range l part.result.start part.result.end) c.as_bitslice.ensures.list in
    let counted : length left ≡ count_by (λ b. b) run = c.iter_ones.ensures.count ∙ ap (λ (l : List Bool). count_by (λ b. b) l) shown in
    let most = count_by-le-length (λ b. b) run in
    let size : length run ≡ part.result.end - part.result.start = length-between xs part.result.start part.result.end (omega arith) in
    let few = c.as_bitslice.result.fits.few in
    let len = c.as_bitslice.ensures.len in
    omega arith
