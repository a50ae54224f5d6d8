use Rattle.std.proofs.Common.{◌≡◌, ◌+◌, ◌%◌, subst, refl, sym, ◌∙◌, ap, arith}
use Rattle.bit_sets.specs.Bloom.{IsFound, IsMarked, place}
use Rattle.bit_sets.specs.Filter.{Filter}
use Rattle.bit_sets.proofs.Filters.{found_marked, found_still, marked_more, next_place, none_marked}
use Rattle.bit_sets.proofs.bloom.BloomFilter.insert.Goals as goal

pub loop-number-init : goal.loop-number-init
loop-number-init c = record { marked = none_marked c.self.inside.bits.list c.args.hash; functions = refl; at = c.first_place-place.ensures }

pub set-requires : goal.set-requires
set-requires c =
    let at = c.loop-number.invariant.at in
    let size = c.loop-number.invariant.marked.size in
    let len = c.len-len.ensures.value in
    let some = c.self.invariant in
    omega arith

pub overflow_add-place : goal.overflow_add-place
overflow_add-place c =
    let at = c.loop-number.invariant.at in
    let step = c.step_of-step.ensures in
    let len = c.len-len.ensures.value in
    let few = c.len-len.ensures.bound in
    let some = c.self.invariant in
    omega arith

pub loop-number-preserved : goal.loop-number-preserved
loop-number-preserved c =
    let was = c.loop-number.invariant in
    let len = c.len-len.result in
    let hash = c.args.hash in
    let n = c.loop-number._number in
    record {
      marked = marked_more c.self.inside.bits.list c.loop-number.self-inside.bits.list c.set.new.self.list hash n c.loop-number.place (was.at ∙ ap (λ m. place m hash n) c.len-len.ensures.value)
          (let at = was.at in let size = was.marked.size in let all = c.len-len.ensures.value in let some = c.self.invariant in omega arith) c.set.ensures.list was.marked;
      functions = was.functions;
      at = ap (λ p. (p + c.step_of-step.result) % len) was.at ∙ ap (λ s. (place len hash n + s) % len) c.step_of-step.ensures ∙ next_place len hash n;
    }

pub returns-clause-found : goal.returns-clause-found
returns-clause-found c =
    let s = c.loop-number.self-inside in
    let o = c.self.inside in
    let old : Filter = record { bits = o.bits.list; functions = o.functions } in
    let new : Filter = record { bits = s.bits.list; functions = s.functions } in
    let all : c.loop-number._number ≡ o.functions = (let end = c.loop-number.auto._number-end in let test = c.loop-number-test.false in omega arith) in
    found_marked old new c.args.hash c.loop-number.invariant.functions (subst (λ k. IsMarked o.bits.list s.bits.list c.args.hash k) all c.loop-number.invariant.marked)

pub returns-clause-stays : goal.returns-clause-stays
returns-clause-stays c other was =
    let s = c.loop-number.self-inside in
    let o = c.self.inside in
    let old : Filter = record { bits = o.bits.list; functions = o.functions } in
    let new : Filter = record { bits = s.bits.list; functions = s.functions } in
    let all : c.loop-number._number ≡ o.functions = (let end = c.loop-number.auto._number-end in let test = c.loop-number-test.false in omega arith) in
    found_still old new c.args.hash other c.loop-number.invariant.functions (subst (λ k. IsMarked o.bits.list s.bits.list c.args.hash k) all c.loop-number.invariant.marked) (subst (λ f. IsFound f other) (sym c.self.view_is) was)

pub returns-clause-exact : goal.returns-clause-exact
returns-clause-exact c =
    let s = c.loop-number.self-inside in
    let o = c.self.inside in
    let all : c.loop-number._number ≡ o.functions = (let end = c.loop-number.auto._number-end in let test = c.loop-number-test.false in omega arith) in
    subst (λ (f : Filter). IsMarked f.bits s.bits.list c.args.hash f.functions) c.self.view_is (subst (λ k. IsMarked o.bits.list s.bits.list c.args.hash k) all c.loop-number.invariant.marked)

pub returns-clause-functions : goal.returns-clause-functions
returns-clause-functions c = c.loop-number.invariant.functions ∙ ap (λ (f : Filter). f.functions) c.self.view_is
