use Rattle.std.proofs.Common.{map, refl, ◌∙◌, ap, arith}
use Rattle.bit_slice.specs.BitRuns.{run_at}
use Rattle.bit_slice.specs.BitSlice.{list_of}
use Rattle.bit_slice.specs.Edges.{edges_of}
use Rattle.bit_slice.specs.Places.{places_between}
use Rattle.std.proofs.lemmas.List.{length-map}
use Rattle.std.proofs.lemmas.List.Sums.{count_by-le-length}
use Rattle.bit_slice.proofs.BitRuns.{first_edge, length-edges}
use Rattle.bit_slice.proofs.Chunked.{next_at_end, none_left}
use Rattle.bit_slice.proofs.Iteration.{bit_runs_in_order}
use Rattle.bit_slice.proofs.Parts.{view_length}
use Rattle.bit_slice.proofs.Places.{places_count_all, places_whole}
use Rattle.bit_slice.proofs.slice.BitSlice.iter_runs.Goals as goal

pub invariant_of-result : goal.invariant_of-result
invariant_of-result g c =
    let xs = list_of c.args.self in
    let size = view_length c.args.self in
    let end = c.min-end.result in
    let here = next_at_end (edges_of xs) end end 0 (none_left (edges_of xs) end) refl in
    record {
      fits = (omega arith, omega arith);
      read = none_left (edges_of xs) end;
      next = λ some. record {
        begins = first_edge xs (omega arith);
        here = c.first_bit.ensures some;
        ordered = omega (arith, here);
        same = record { each = λ j a b. absurd (omega (arith, here)) };
      };
      done = λ none. (omega arith, refl);
    }

pub returns-clause-list : goal.returns-clause-list
returns-clause-list g c =
    let xs = list_of c.args.self in
    ap (map (run_at xs)) (places_whole (λ b. b) (edges_of xs) c.args.self.len (length-edges xs ∙ view_length c.args.self))

pub returns-clause-runs : goal.returns-clause-runs
returns-clause-runs g c = bit_runs_in_order g.T.BitStore g.O.BitOrder

pub returns-clause-most : goal.returns-clause-most
returns-clause-most g c =
    let xs = list_of c.args.self in
    let edges = edges_of xs in
    let len = c.args.self.len in
    let size = length-edges xs ∙ view_length c.args.self in
    let places = places_between (λ b. b) edges 0 len in
    omega (arith, length-map places (run_at xs), places_count_all (λ b. b) edges len size, count_by-le-length (λ b. b) edges, size)
