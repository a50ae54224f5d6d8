use Rattle.std.proofs.Common.{◌≡◌, ◌∙◌, ◌+◌, ◌-◌, ◌%◌, ◌≢◌, ◌≤◌, ◌<◌, ℕ, Bool, List, Some, false, true, slice_get, length, sym, ap, arith, subst, inl, inr}
use Rattle.std.specs.Option.{IfSome, unwrap_or}
use Rattle.std.proofs.lemmas.Bool.{cases_lt}
use Rattle.std.proofs.lemmas.Option.{slice_get_within}
use Rattle.bit_frames.proofs.Frames.{after_run, free_up_to, no_aligned, no_early}
use Rattle.bit_slice.proofs.Multiples.{gap_least, gap_reaches}
use Rattle.bit_frames.proofs.free_map.FreeMap.find_aligned.Goals.{else-gap-end-via-then-gap-end+else-count-end, else-gap-end-via-else-gap-end}
use Rattle.bit_frames.proofs.free_map.FreeMap.find_aligned.Goals as goal

pub loop-first-preserved : goal.loop-first-preserved
loop-first-preserved c =
    let map : List Bool = c.args.self.now in
    let first = c.in-Some.first in
    let align = c.args.align in
    let end = c.unwrap_or-end.result in
    let found : slice_get map first ≡ Some false = rw (← c.self.view_is) c.in-Some.ensures.found in
    let before : (j : ℕ) → c.loop-first.from ≤ j → j < first → slice_get map j ≡ Some true = rw (← c.self.view_is) c.in-Some.ensures.before in
    let within = slice_get_within map first false found in
    let size = c.len.ensures.value ∙ ap length c.self.view_is in
    let taken : IfSome c.next_one.result (λ k. slice_get map k ≡ Some true) = rw (← c.self.view_is) c.next_one.ensures.found in
    let b = after_run map first c.len.result c.next_one.result size (omega arith) c.next_one.ensures.begins taken in
    let ends = c.unwrap_or-end.ensures in
    let from : first ≤ end = subst (λ k. first ≤ k) (sym ends) b.1 in
    let short : end < first + (align - first % align) % align + c.args.count = elim c.else-gap-end.branch [
      | else-gap-end-via-then-gap-end+else-count-end w ↦ omega (arith, from, w.if-gap-end.true, w.if-count-end.false)
      | else-gap-end-via-else-gap-end w ↦ omega (arith, from, w.if-gap-end.false)
    ] in
    record {
      none = no_aligned map c.loop-first.from first end c.args.count align c.requires.count c.requires.align before c.loop-first.invariant.none (subst (λ k. slice_get map k ≢ Some false) (sym ends) b.0) short;
      inside = subst (λ k. k ≤ length map) (sym ends) (subst (λ n. unwrap_or c.next_one.result c.len.result ≤ n) size b.2);
    }

pub returns-then-count-end : goal.returns-then-count-end
returns-then-count-end c =
    let map : List Bool = c.args.self.now in
    let first = c.in-Some.first in
    let align = c.args.align in
    let end = c.unwrap_or-end.result in
    let found : slice_get map first ≡ Some false = rw (← c.self.view_is) c.in-Some.ensures.found in
    let before : (j : ℕ) → c.loop-first.from ≤ j → j < first → slice_get map j ≡ Some true = rw (← c.self.view_is) c.in-Some.ensures.before in
    let within = slice_get_within map first false found in
    let size = c.len.ensures.value ∙ ap length c.self.view_is in
    let taken : IfSome c.next_one.result (λ k. slice_get map k ≡ Some true) = rw (← c.self.view_is) c.next_one.ensures.found in
    let b = after_run map first c.len.result c.next_one.result size (omega arith) c.next_one.ensures.begins taken in
    let ends = c.unwrap_or-end.ensures in
    let from : first ≤ end = subst (λ k. first ≤ k) (sym ends) b.1 in
    let upto : end ≤ length map = subst (λ k. k ≤ length map) (sym ends) (subst (λ n. unwrap_or c.next_one.result c.len.result ≤ n) size b.2) in
    let free : (j : ℕ) → first ≤ j → j < end → slice_get map j ≡ Some false = λ j l h.
    free_up_to map first c.len.result c.next_one.result size (rw (← c.self.view_is) c.next_one.ensures.before) (rw (← c.self.view_is) c.next_one.ensures.none) j l (subst (λ k. j < k) ends h) in
    let gap = c.if-gap-end.true in
    let room = c.if-count-end.true in
    record {
      inside = omega arith;
      multiple = gap_reaches align first c.requires.align;
      free = λ i h. free (first + (align - first % align) % align + i) (omega arith) (omega arith);
      before = λ i l multiple frames. elim (cases_lt i first) [
        | inl low ↦ no_early map c.loop-first.from first c.args.count align c.requires.count before c.loop-first.invariant.none i low multiple frames
        | inr high ↦ (let least = gap_least align first i c.requires.align high multiple in omega arith)
      ];
    }

pub returns : goal.returns
returns c k multiple free =
    let map : List Bool = c.args.self.now in
    let before : (j : ℕ) → c.loop-first.from ≤ j → j < length map → slice_get map j ≡ Some true = rw (← c.self.view_is) c.in_default.ensures.none in
    let here : k + 0 ≡ k = omega arith in
    let within = slice_get_within map k false (ap (slice_get map) (sym here) ∙ free 0 c.requires.count) in
    no_early map c.loop-first.from (length map) c.args.count c.args.align c.requires.count before c.loop-first.invariant.none k within multiple free
