-- What lists of requests leave of a map of frames, and that no frame is taken twice.
use Rattle.std.proofs.Common.{◌≡◌, ℕ, zero, suc, ◌+◌, ◌-◌, ◌<◌, ◌≤◌, Bool, true, false, List, [], ◌∷◌, ◌++◌, Some, get_or, replicate, length, set, slice_get, take, refl, sym, ◌∙◌, ap, subst, inl, inr, arith}
use Rattle.std.specs.Prelude.{◌⊎◌}
use Rattle.std.proofs.lemmas.List.{length-replicate, take_all, take_more, take_more_set}
use Rattle.bit_addressing.specs.Row.{put}
use Rattle.bit_frames.specs.Serving.{At, HandsOut, HaveServed, IsNeverTwice, IsServed, TakesBack}
use Rattle.bit_frames.specs.declared.free_map.serving.Request.{Request}
use Rattle.bit_frames.specs.declared.free_map.serving.Request.TheVariants.{Take, GiveBack}
use Rattle.bit_frames.specs.declared.free_map.serving.Reply.{Reply}
use Rattle.bit_frames.specs.declared.free_map.serving.Reply.TheVariants.{Taken, GivenBack, Refused}
use Rattle.bit_frames.specs.FreeMap.{IsTaken}
use Rattle.bit_slice.proofs.Ranges.{read_after, read_before, read_filled}
use Rattle.std.proofs.lemmas.Bool.{cases_lt}

-- one request more
pub served_more : (old mid new : List Bool) (qs : List Request) (rs : List Reply) (q : Request) (r : Reply) → HaveServed old qs rs mid → IsServed mid q r new → HaveServed old (qs ++ q ∷ []) (rs ++ r ∷ []) new
unfolding HaveServed
served_more old mid new [] [] q r was step = (new, subst (λ m. IsServed m q r new) was step, refl)
served_more old mid new [] (s ∷ rs) q r was step = absurd was
served_more old mid new (p ∷ qs) [] q r was step = absurd was
served_more old mid new (p ∷ qs) (s ∷ rs) q r was step = (was.0, was.1, served_more was.0 mid new qs rs q r was.2 step)

-- a frame lies in a run or outside it
in_run_or_not : (frame first count : ℕ) → ((first ≤ frame) × (frame < first + count)) ⊎ ((frame < first) ⊎ (first + count ≤ frame))
in_run_or_not frame first count = elim (cases_lt frame first) [ inl low ↦ inr (inl low) | inr l ↦ elim (cases_lt frame (first + count)) [ inl m ↦ inl (l, m) | inr m ↦ inr (inr m) ] ]

-- what is marked in a run changes no frame outside it
outside : (map new : List Bool) (first count frame : ℕ) (bit : Bool) → first + count ≤ length map → new ≡ put map first (replicate count bit) → (frame < first) ⊎ (first + count ≤ frame) → slice_get new frame ≡ slice_get map frame
outside map new first count frame bit inside is out =
    ap (λ l. slice_get l frame) is ∙ elim out [
      | inl low ↦ read_before map (replicate count bit) first count (length-replicate count bit) inside frame low
      | inr high ↦ read_after map (replicate count bit) first count (length-replicate count bit) inside frame high
    ]

taken_in : (map new : List Bool) (first count frame : ℕ) → first + count ≤ length map → new ≡ put map first (replicate count true) → ((first ≤ frame) × (frame < first + count)) ⊎ IsTaken map frame → IsTaken new frame
taken_in map new first count frame inside is where_is = elim (in_run_or_not frame first count) [
  | inl l ↦ ap (λ l. slice_get l frame) is ∙ read_filled map first count true inside frame l.0 l.1
  | inr out ↦ elim where_is [
    | inl l ↦ absurd (elim out [ inl low ↦ (let a = l.0 in omega arith) | inr high ↦ (let b = l.1 in omega arith) ])
    | inr was ↦ outside map new first count frame true inside is out ∙ was
  ]
]

-- a frame that is taken stays so until a request gives it back
kept : (map new : List Bool) (q : Request) (r : Reply) (frame : ℕ) → IsServed map q r new → IsTaken map frame → (TakesBack q r frame → ⊥) → IsTaken new frame
kept map new (Take count) (Taken first) frame step here stays = taken_in map new first count frame step.1.inside step.2 (inr here)
kept map new (Take count) GivenBack frame step here stays = absurd step
kept map new (Take count) Refused frame step here stays = subst (λ l. IsTaken l frame) (sym step.1) here
kept map new (GiveBack first count) (Taken k) frame step here stays = absurd step
kept map new (GiveBack first count) GivenBack frame step here stays =
    elim (in_run_or_not frame first count) [ inl l ↦ absurd (stays l) | inr out ↦ outside map new first count frame false step.0 step.2 out ∙ here ]
kept map new (GiveBack first count) Refused frame step here stays = subst (λ l. IsTaken l frame) (sym step.1) here

-- a frame that a request takes was free, and is taken afterwards
was_free : (map new : List Bool) (q : Request) (r : Reply) (frame : ℕ) → IsServed map q r new → HandsOut q r frame → slice_get map frame ≡ Some false
was_free map new (Take count) (Taken first) frame step out =
    let at : first + (frame - first) ≡ frame = (let l = out.0 in omega arith) in
    ap (slice_get map) (sym at) ∙ step.1.free (frame - first) (let l = out.0 in let h = out.1 in omega arith)
was_free map new (Take count) GivenBack frame step out = absurd out
was_free map new (Take count) Refused frame step out = absurd out
was_free map new (GiveBack first count) r frame step out = absurd out

is_taken : (map new : List Bool) (q : Request) (r : Reply) (frame : ℕ) → IsServed map q r new → HandsOut q r frame → IsTaken new frame
is_taken map new (Take count) (Taken first) frame step out = taken_in map new first count frame step.1.inside step.2 (inl out)
is_taken map new (Take count) GivenBack frame step out = absurd out
is_taken map new (Take count) Refused frame step out = absurd out
is_taken map new (GiveBack first count) r frame step out = absurd out

-- what holds of the first request and its reply
first_does : (does : Request → Reply → ℕ → Type 0) (q p : Request) (r s : Reply) (frame : ℕ) → Some q ≡ Some p → Some r ≡ Some s → does p s frame → does q r frame
first_does does q p r s frame e d h =
    let a : p ≡ q = cc in
    let b : s ≡ r = cc in
    subst (λ x. does x r frame) a (subst (λ y. does p y frame) b h)

-- a frame that is taken is not taken by a later request, unless one before that gives it back
not_again : (qs : List Request) (rs : List Reply) (map last : List Bool) (frame : ℕ) → HaveServed map qs rs last → IsTaken map frame → (j : ℕ) → At HandsOut qs rs j frame → ((k : ℕ) → k < j → At TakesBack qs rs k frame → ⊥) → ⊥
unfolding HaveServed
not_again [] rs map last frame served here j at stays = let e = at.1.1.0 in cc
not_again (q ∷ qs) [] map last frame served here j at stays = absurd served
not_again (q ∷ qs) (r ∷ rs) map last frame served here zero at stays =
    let free = was_free map served.0 q r frame served.1 (first_does HandsOut q at.0 r at.1.0 frame at.1.1.0 at.1.1.1 at.1.1.2) in
    let both : Some true ≡ Some false = sym here ∙ free in
    cc
not_again (q ∷ qs) (r ∷ rs) map last frame served here (suc j) at stays =
    not_again qs rs served.0 last frame served.2 (kept map served.0 q r frame served.1 here (λ h. stays 0 (omega arith) (q, (r, (refl, refl, h))))) j at
    (λ k l h. stays (suc k) (omega arith) h)

-- no frame is handed out twice before it is freed
pub never_twice : (qs : List Request) (rs : List Reply) (map last : List Bool) → HaveServed map qs rs last → IsNeverTwice qs rs
unfolding HaveServed
never_twice [] rs map last served i j frame order one two stays = let e = one.1.1.0 in cc
never_twice (q ∷ qs) [] map last served i j frame order one two stays = absurd served
never_twice (q ∷ qs) (r ∷ rs) map last served i zero frame order one two stays = absurd (omega arith)
never_twice (q ∷ qs) (r ∷ rs) map last served zero (suc j) frame order one two stays =
    not_again qs rs served.0 last frame served.2 (is_taken map served.0 q r frame served.1 (first_does HandsOut q one.0 r one.1.0 frame one.1.1.0 one.1.1.1 one.1.1.2)) j two
    (λ k l h. stays (suc k) (omega arith) (omega arith) h)
never_twice (q ∷ qs) (r ∷ rs) map last served (suc i) (suc j) frame order one two stays =
    never_twice qs rs served.0 last served.2 i j frame (omega arith) one two (λ k l m h. stays (suc k) (omega arith) (omega arith) h)

-- one request more of a list, whose reply is written at its index
pub served_next : (old mid new : List Bool) (qs : List Request) (rs : List Reply) (i : ℕ) (d : Request) (r : Reply) → length rs ≡ length qs → i < length qs → HaveServed old (take i qs) (take i rs) mid → IsServed mid (get_or qs i d) r new → HaveServed old (take (i + 1) qs) (take (i + 1) (set rs i r)) new
served_next old mid new qs rs i d r size inside was step =
    subst (λ l. HaveServed old l (take (i + 1) (set rs i r)) new) (sym (take_more qs i d inside))
    (subst (λ l. HaveServed old (take i qs ++ get_or qs i d ∷ []) l new) (sym (take_more_set rs i r (omega arith))) (served_more old mid new (take i qs) (take i rs) (get_or qs i d) r was step))

-- all requests of a list
pub served_all : (old new : List Bool) (qs : List Request) (rs : List Reply) (i : ℕ) → length rs ≡ length qs → length qs ≤ i → HaveServed old (take i qs) (take i rs) new → HaveServed old qs rs new
served_all old new qs rs i size past was = subst (λ l. HaveServed old l rs new) (take_all i qs past) (subst (λ l. HaveServed old (take i qs) l new) (take_all i rs (omega arith)) was)

-- no requests leave the map as it was
pub served_none : (map : List Bool) → HaveServed map [] [] map
unfolding HaveServed
served_none map = refl
