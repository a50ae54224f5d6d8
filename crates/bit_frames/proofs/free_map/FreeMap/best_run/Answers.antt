use Rattle.std.proofs.Common.{◌≡◌, ◌∙◌, ◌≢◌, ◌≤◌, ◌<◌, ℕ, Bool, List, Some, false, true, slice_get, length, sym, ap, inl, inr, arith, subst}
use Rattle.std.specs.Option.{IfSome, unwrap_or}
use Rattle.std.proofs.lemmas.Bool.{cases_eq}
use Rattle.std.proofs.lemmas.Option.{slice_get_within}
use Rattle.bit_frames.specs.FreeMap.{IsFree}
use Rattle.bit_frames.proofs.Blocks.{best_more}
use Rattle.bit_frames.proofs.Frames.{after_run, free_up_to}
use Rattle.bit_frames.proofs.free_map.FreeMap.best_run.Goals as goal

pub loop-first-preserved : goal.loop-first-preserved
loop-first-preserved c =
    let map : List Bool = c.args.self.now in
    let first = c.in-Some.first in
    let end = c.unwrap_or-from.result in
    let found : slice_get map first ≡ Some false = rw (← c.self.view_is) c.in-Some.ensures.found in
    let before : (j : ℕ) → c.loop-first.from ≤ j → j < first → slice_get map j ≡ Some true = rw (← c.self.view_is) c.in-Some.ensures.before in
    let within = slice_get_within map first false found in
    let size = c.len.ensures.value ∙ ap length c.self.view_is in
    let taken : IfSome c.next_one.result (λ k. slice_get map k ≡ Some true) = rw (← c.self.view_is) c.next_one.ensures.found in
    let b = after_run map first c.len.result c.next_one.result size (omega arith) c.next_one.ensures.begins taken in
    let ends = c.unwrap_or-from.ensures in
    let from : first ≤ end = subst (λ k. first ≤ k) (sym ends) b.1 in
    let free : (j : ℕ) → first ≤ j → j < end → IsFree map j = λ j l h.
    free_up_to map first c.len.result c.next_one.result size (rw (← c.self.view_is) c.next_one.ensures.before) (rw (← c.self.view_is) c.next_one.ensures.none) j l (subst (λ k. j < k) ends h) in
    let stop : IsFree map end → ⊥ = subst (λ k. slice_get map k ≢ Some false) (sym ends) b.0 in
    let some : first < end = elim (cases_eq first end) [ inl same ↦ absurd (stop (subst (λ k. IsFree map k) same found)) | inr apart ↦ (let off : first ≢ end = apart in omega arith) ] in
    let made = c.better-best.ensures in
    record {
      best = best_more map c.loop-first.from first end c.in-Some.ensures.begins some c.loop-first.invariant.edge before free stop c.args.count c.loop-first.best c.better-best.result c.loop-first.invariant.best made.short made.alone made.kept made.shorter;
      edge = inr stop;
      inside = subst (λ k. k ≤ length map) (sym ends) (subst (λ n. unwrap_or c.next_one.result c.len.result ≤ n) size b.2);
    }
