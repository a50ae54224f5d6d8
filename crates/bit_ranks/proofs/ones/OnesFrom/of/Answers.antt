use Rattle.std.proofs.Common.{◌≡◌, ◌+◌, Bool, List, count_by, length, map, slice_range, sym, ap, ◌∙◌, arith}
use Rattle.bit_slice.specs.BitSlice.{len_of, list_of}
use Rattle.bit_slice.specs.Indices.{ones_left}
use Rattle.bit_slice.specs.Places.{ones_of}
use Rattle.bit_slice.proofs.Parts.{view_length}
use Rattle.bit_ranks.proofs.Parts.{fit_from_all, left_count, part_ones}
use Rattle.bit_ranks.proofs.Runs.{ones_runs, ones_runs_back}
use Rattle.bit_ranks.proofs.ones.OnesFrom.of.Goals as goal

pub returns-clause-runs : goal.returns-clause-runs
returns-clause-runs g c = ones_runs g.T.BitStore g.O.BitOrder

pub returns-clause-runs_back : goal.returns-clause-runs_back
returns-clause-runs_back g c = ones_runs_back g.T.BitStore g.O.BitOrder

pub invariant_of-result : goal.invariant_of-result
invariant_of-result g c =
    let xs : List Bool = list_of c.args.view in
    let base = c.begin_of-base.result in
    let low = c.begin_of-base.ensures.inside in
    let part = c.get_range.ensures.len in
    let few = c.args.view.fits.few in
    let given : list_of c.get_range.result ≡ slice_range xs base (len_of c.args.view) = c.get_range.ensures.list in
    let shown : list_of c.get_range.result ≡ slice_range xs base (length xs) = given ∙ ap (slice_range xs base) (sym (view_length c.args.view)) in
    let left = c.iter_ones.ensures.count ∙ ap (count_by (λ b. b)) shown in
    record {
      fits = fit_from_all base (len_of c.get_range.result) (ones_left c.iter_ones.result) c.iter_ones.ensures.inside (let size = view_length c.args.view in omega arith);
      count = (let all = c.requires.count in let taken = c.saturating_sub.ensures in omega (arith, left, left_count xs base c.args.k low c.begin_of-base.ensures.list));
    }

pub returns-clause-list : goal.returns-clause-list
returns-clause-list g c =
    let xs : List Bool = list_of c.args.view in
    let base = c.begin_of-base.result in
    let given : list_of c.get_range.result ≡ slice_range xs base (len_of c.args.view) = c.get_range.ensures.list in
    let shown : list_of c.get_range.result ≡ slice_range xs base (length xs) = given ∙ ap (slice_range xs base) (sym (view_length c.args.view)) in
    let ones = c.iter_ones.ensures.list ∙ ap ones_of shown in
    ap (map (λ i. base + i)) ones ∙ part_ones xs base (length xs) c.begin_of-base.ensures.inside (omega arith) ∙ c.begin_of-base.ensures.list
