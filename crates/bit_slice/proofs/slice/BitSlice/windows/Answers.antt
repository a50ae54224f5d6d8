use Rattle.std.proofs.Common.{◌≡◌, ◌+◌, ◌-◌, ◌/◌, ◌%◌, length, map, ◌∙◌, ap, arith}
use Rattle.std.specs.List.{range_with_len}
use Rattle.std.proofs.lemmas.List.FromFn.{length-map-range_with_len}
use Rattle.bit_slice.specs.BitSlice.{list_of}
use Rattle.bit_slice.specs.Pieces.{part}
use Rattle.bit_slice.proofs.Parts.{view_length}
use Rattle.bit_slice.proofs.Iteration.{windows_runs, windows_runs_back}
use Rattle.bit_slice.proofs.slice.BitSlice.windows.Goals as goal

pub returns-clause-list : goal.returns-clause-list
returns-clause-list g c =
    let v = c.args.self in
    let size = view_length v in
    let q : length (list_of v) / c.args.size ≡ v.len / c.args.size = ap (λ n. n / c.args.size) size in
    let r : length (list_of v) % c.args.size ≡ v.len % c.args.size = ap (λ n. n % c.args.size) size in
    let e : c.saturating_sub.result - 0 ≡ length (list_of v) + 1 - c.args.size = omega (arith, size) in
    ap (λ n. map (λ k. part c.args.size (list_of v) k) (range_with_len 0 n)) e

pub returns-clause-count : goal.returns-clause-count
returns-clause-count g c =
    let v = c.args.self in
    let e : c.saturating_sub.result - 0 ≡ v.len + 1 - c.args.size = omega arith in
    length-map-range_with_len (λ k. part c.args.size (list_of v) k) 0 (c.saturating_sub.result - 0) ∙ e

pub returns-clause-runs : goal.returns-clause-runs
returns-clause-runs g c = windows_runs g.T.BitStore g.O.BitOrder

pub returns-clause-runs_back : goal.returns-clause-runs_back
returns-clause-runs_back g c = windows_runs_back g.T.BitStore g.O.BitOrder
