use Rattle.std.proofs.Common.{Bool, List, ◌∙◌, arith}
use Rattle.bit_sets.proofs.Merging.{both_told, meant, none_more, passed}
use Rattle.bit_sets.proofs.number_set.merged.Merged.find_next.Goals as goal

pub returns-then-keeps : goal.returns-then-keeps
returns-then-keeps c =
    let s = c.args.self.now in
    let xs : List Bool = s.left.now in
    let ys : List Bool = s.right.now in
    let was = c.loop-number.invariant in
    let least = c.in-Some.ensures.least in
    let told = both_told s.merging xs ys c.in-Some.number c.keeps.result c.contains-left.result c.contains-right.result c.keeps.ensures c.contains-left.ensures c.contains-right.ensures in
    meant s.merging xs ys s.from c.loop-number.from c.in-Some.number s.upto was.begins least.0 s.fits was.none least.2 least.1 (told ∙ c.if-keeps.true)

pub loop-number-preserved : goal.loop-number-preserved
loop-number-preserved c =
    let s = c.args.self.now in
    let xs : List Bool = s.left.now in
    let ys : List Bool = s.right.now in
    let was = c.loop-number.invariant in
    let least = c.in-Some.ensures.least in
    let told = both_told s.merging xs ys c.in-Some.number c.keeps.result c.contains-left.result c.contains-right.result c.keeps.ensures c.contains-left.ensures c.contains-right.ensures in
    record {
      begins = omega (arith, was.begins, least.0);
      none = passed s.merging xs ys s.from c.loop-number.from c.in-Some.number was.none least.2 least.1 (told ∙ c.if-keeps.false);
    }

pub returns : goal.returns
returns c =
    let s = c.args.self.now in
    none_more s.merging s.left.now s.right.now s.from c.loop-number.from s.upto c.loop-number.invariant.none (λ k low high. c.in_default.ensures.least k low)
