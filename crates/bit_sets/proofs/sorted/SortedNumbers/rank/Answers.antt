use Rattle.std.proofs.Common.{◌<◌, refl, sym, subst, arith}
use Rattle.std.specs.List.{All}
use Rattle.std.proofs.lemmas.List.{take_all, length-drop}
use Rattle.bit_sets.proofs.Ranked.{found_within, from_found, rank_is}
use Rattle.bit_sets.proofs.sorted.SortedNumbers.rank.Goals as goal

pub returns-in-None-clause-value : goal.returns-in-None-clause-value
returns-in-None-clause-value c =
    let xs = c.args.self.now in
    let size = c.len.ensures in
    let left = length-drop c.len.result xs in
    rank_is xs c.args.x c.len.result (omega arith) (subst (λ l. All (λ number. number < c.args.x) l) (sym (take_all c.len.result xs (omega arith))) (c.in-None.ensures.none.0 refl)) (λ k d h. absurd (omega arith))

pub returns-in-Some-clause-value : goal.returns-in-Some-clause-value
returns-in-Some-clause-value c =
    let e = c.in-Some.ensures in
    rank_is c.args.self.now c.args.x c.in-Some.k (found_within c.args.self.now c.in-Some.k _ e.found) e.before (from_found c.args.self.now c.args.x c.in-Some.k _ e.ascends e.found e.enough)

pub returns-in-Some-clause-from : goal.returns-in-Some-clause-from
returns-in-Some-clause-from c = let e = c.in-Some.ensures in from_found c.args.self.now c.args.x c.in-Some.k _ e.ascends e.found e.enough

pub returns-in-Some-clause-few : goal.returns-in-Some-clause-few
returns-in-Some-clause-few c = found_within c.args.self.now c.in-Some.k _ c.in-Some.ensures.found
