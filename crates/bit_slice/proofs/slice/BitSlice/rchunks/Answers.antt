use Rattle.std.proofs.Common.{◌≡◌, ◌+◌, ◌-◌, ◌*◌, ◌/◌, ◌%◌, min, length, map, ◌∙◌, ap, arith}
use Rattle.std.specs.List.{range_with_len}
use Rattle.std.proofs.lemmas.List.FromFn.{length-map-range_with_len}
use Rattle.bit_slice.specs.BitSlice.{list_of}
use Rattle.bit_slice.specs.Pieces.{part_back}
use Rattle.bit_slice.proofs.Parts.{view_length}
use Rattle.bit_slice.proofs.Iteration.{rchunks_runs, rchunks_runs_back}
use Rattle.bit_slice.proofs.Pieces.{begins_inside}
use Rattle.bit_slice.proofs.slice.BitSlice.rchunks.Goals as goal

pub invariant_of-result : goal.invariant_of-result
invariant_of-result g c = record { fits = (omega arith, omega (arith, c.requires), λ k below. begins_inside c.args.self.len c.args.size k (omega (arith, c.requires)) (omega (arith, below, c.count_chunks.ensures))) }

pub returns-clause-list : goal.returns-clause-list
returns-clause-list g c =
    let v = c.args.self in
    let size = view_length v in
    let q : length (list_of v) / c.args.size ≡ v.len / c.args.size = ap (λ n. n / c.args.size) size in
    let r : length (list_of v) % c.args.size ≡ v.len % c.args.size = ap (λ n. n % c.args.size) size in
    let e : c.count_chunks.result - 0 ≡ length (list_of v) / c.args.size + min 1 (length (list_of v) % c.args.size) = omega (arith, q, r) in
    ap (λ n. map (λ k. part_back c.args.size (list_of v) (k * c.args.size)) (range_with_len 0 n)) e

pub returns-clause-count : goal.returns-clause-count
returns-clause-count g c =
    let v = c.args.self in
    let e : c.count_chunks.result - 0 ≡ v.len / c.args.size + min 1 (v.len % c.args.size) = omega arith in
    length-map-range_with_len (λ k. part_back c.args.size (list_of v) (k * c.args.size)) 0 (c.count_chunks.result - 0) ∙ e

pub returns-clause-runs : goal.returns-clause-runs
returns-clause-runs g c = rchunks_runs g.T.BitStore g.O.BitOrder

pub returns-clause-runs_back : goal.returns-clause-runs_back
returns-clause-runs_back g c = rchunks_runs_back g.T.BitStore g.O.BitOrder
