-- What is written, piece by piece.
use Rattle.std.proofs.Common.{◌≡◌, ℕ, ◌+◌, ◌-◌, ◌^◌, ◌<◌, List, [], ◌++◌, refl, ap, sym, subst, ◌∙◌, length, arith, Some, None, Option, append_assoc, append-nil, length-append}
use Rattle.std.specs.Prelude.{flat_map, IfSome, IfOk, OnOk, Result, Ok, Err}
use Rattle.std.proofs.lemmas.Grind.{flat_map-append}
use Rattle.std.specs.Io.KnownBytes.{Appends, Consumes, IsAtEnd}
use Rattle.bit_lines.specs.declared.replying.Ending.{Ending}
use Rattle.bit_lines.specs.declared.replying.Ending.TheVariants.{Finished, BadCommand, TooLong, NoMemory, ReadFailed}
use Rattle.bit_lines.specs.Script.{script_replies, script_ending, with_line_feed, ending_text, lines_of}
use Rattle.bit_lines.specs.Progress.{Progress, replies_left, ending_left, IsEnd, Goes, Ends, Advances, Stops, StopsHere}
use Rattle.bit_lines.specs.Served.{Sends, Concludes, IsGoing, IsOutcome, IsServed, IsTranscribed, IsShort, IsRead}
use Rattle.bit_lines.proofs.Lines.{replies_alike}
use Rattle.bit_lines.proofs.Going.{goes_same, goes_more, ends_more, end_later}

-- ---- known bytes

-- nothing written appends nothing
pub appends_none : (a : Option (List ℕ)) → Appends a a []
appends_none None = tt
appends_none (Some a) = sym (append-nil a)

-- two texts written one after the other are appended as one
pub appends_more : (a b c : Option (List ℕ)) (xs ys : List ℕ) → Appends a b xs → Appends b c ys → Appends a c (xs ++ ys)
appends_more None b c xs ys p q = tt
appends_more (Some a) None c xs ys p q = absurd p
appends_more (Some a) (Some b) None xs ys p q = absurd q
appends_more (Some a) (Some b) (Some c) xs ys p q = q ∙ ap (λ o. o ++ ys) p ∙ append_assoc a xs ys

-- ---- a piece

-- what waited is what was given
queued : (out before : List ℕ) (given : List (List ℕ)) → before ≡ [] → out ≡ before ++ flat_map with_line_feed given → out ≡ flat_map with_line_feed given
queued out before given e h = h ∙ ap (λ o. o ++ flat_map with_line_feed given) e

module _ (a b c : Progress) (xs ys : List ℕ) (wrote mid writes : Option (List ℕ)) (first : Sends a xs b wrote mid) (blank : b.out ≡ []) where
  -- bytes taken further send what is still to be written
  pub sends_more : (d : Progress) → Advances b ys c → Appends mid writes c.out → d ≡ record c { out = [] } → Sends a (xs ++ ys) d wrote writes
  sends_more d h after e = (
    first.0 ++ h.0,
    rw (flat_map-append with_line_feed first.0 h.0)
        (appends_more wrote mid writes (flat_map with_line_feed first.0) (flat_map with_line_feed h.0) first.1 (subst (λ o. Appends mid writes o) (queued c.out b.out h.0 blank h.1) after)),
    goes_same a c d (xs ++ ys) (first.0 ++ h.0) e (goes_more a b c xs ys first.0 h.0 first.2 h.2),
  )

  -- what was given before, then what waited, then the ending
  pub given_more : (h : List (List ℕ)) (last : List ℕ) → c.out ≡ b.out ++ flat_map with_line_feed h → Appends mid writes (c.out ++ last) → Appends wrote writes (flat_map with_line_feed (first.0 ++ h) ++ last)
  given_more h last e after =
      let text : flat_map with_line_feed (first.0 ++ h) ++ last ≡ flat_map with_line_feed first.0 ++ (c.out ++ last) =
      ap (λ o. o ++ last) (flat_map-append with_line_feed first.0 h) ∙ append_assoc (flat_map with_line_feed first.0) (flat_map with_line_feed h) last
      ∙ ap (λ o. flat_map with_line_feed first.0 ++ (o ++ last)) (sym (queued c.out b.out h blank e)) in
      rw text (appends_more wrote mid writes (flat_map with_line_feed first.0) (c.out ++ last) first.1 after)

  -- a session that ends within a piece writes what is waiting and its ending
  pub concludes_within : (ending : Ending) → Stops b ys ending c → Appends mid writes (c.out ++ ending_text ending) → Concludes a (xs ++ ys) ending wrote writes
  concludes_within ending h after = (
    first.0 ++ h.0,
    given_more h.0 (ending_text ending) h.1 after,
    ends_more a b c xs ys first.0 h.0 first.2 ending h.2,
  )

-- ---- a whole run

-- before the first byte a session goes on from its start
pub going_start : (o : Option (List ℕ)) (s : Progress) → s.list ≡ [] → s.line ≡ [] → s.number ≡ 1 → IsGoing o o [] s
going_start None s l i n = tt
going_start (Some text) s l i n = (λ words. rw (l, i) refl, rw (l, i, n) refl)

-- a piece taken more goes on from what was given before
pub going_more : (from now next : Option (List ℕ)) (given more : List (List ℕ)) (a b : Progress) (piece : List ℕ)
    → IsGoing from now given a → Consumes now next piece → Goes a piece more b → IsGoing from next (given ++ more) b
going_more None now next given more a b piece h k g = tt
going_more (Some text) None next given more a b piece h k g = absurd h
going_more (Some text) (Some rest) None given more a b piece h k g = absurd k
going_more (Some text) (Some rest) (Some left) given more a b piece h k g = (
  λ words. rw (append_assoc given more words, append_assoc given more (replies_left b left words))
      (h.0 (more ++ words) ∙ ap (λ r. given ++ replies_left a r (more ++ words)) k ∙ ap (λ rs. given ++ rs) (g.replies left words)),
  h.1 ∙ ap (λ r. ending_left a r) k ∙ g.ending left,
)

outcome : (e : Ending) (given all : List (List ℕ)) (last : Ending) → IsEnd e given all last → IsOutcome e given all last
outcome Finished given all last h = h
outcome (BadCommand n) given all last h = h
outcome TooLong given all last h = h
outcome NoMemory given all last h = h
outcome ReadFailed given all last h = absurd h

-- a script doesn't end for a failure of its source
pub end_apart : (e : Ending) (given all : List (List ℕ)) (last : Ending) → IsEnd e given all last → e ≡ ReadFailed → ⊥
end_apart e given all last h is = subst (λ x. IsEnd x given all last) is h

-- a result whose ending is not a failed read is not that failure
pub end_of_result : {F : Type 0} (r : Result Ending F) (e : Ending) → IfOk r (λ x. x ≡ e) → (e ≡ ReadFailed → ⊥) → r ≡ Ok ReadFailed → ⊥
end_of_result {F} r e same other is = let P : Result Ending F → Type 0 = λ x. IfOk x (λ y. y ≡ e) in other (sym (subst P is same))

ended_within : (from now next : Option (List ℕ)) (given more : List (List ℕ)) (a : Progress) (piece : List ℕ) (e : Ending)
    → IsGoing from now given a → Consumes now next piece → Ends a piece more e → IfSome from (λ text. IsOutcome e (given ++ more) (script_replies text (given ++ more)) (script_ending text))
ended_within None now next given more a piece e h k s = tt
ended_within (Some text) None next given more a piece e h k s = absurd h
ended_within (Some text) (Some rest) None given more a piece e h k s = absurd k
ended_within (Some text) (Some rest) (Some left) given more a piece e h k s =
    outcome e (given ++ more) (script_replies text (given ++ more)) (script_ending text)
    (end_later e (ending_left a (piece ++ left)) (script_ending text) more (replies_left a (piece ++ left) more) given (script_replies text (given ++ more))
    (h.0 more ∙ ap (λ r. given ++ replies_left a r more) k) (h.1 ∙ ap (λ r. ending_left a r) k) (s left))

ended_here : (from now next : Option (List ℕ)) (given more : List (List ℕ)) (a : Progress) (e : Ending)
    → IsGoing from now given a → Consumes now next [] → IsAtEnd next → IsEnd e more (replies_left a [] more) (ending_left a [])
    → IfSome from (λ text. IsOutcome e (given ++ more) (script_replies text (given ++ more)) (script_ending text))
ended_here None now next given more a e h k z s = tt
ended_here (Some text) None next given more a e h k z s = absurd h
ended_here (Some text) (Some rest) None given more a e h k z s = absurd k
ended_here (Some text) (Some rest) (Some left) given more a e h k z s =
    let none : rest ≡ [] = k ∙ z in
    outcome e (given ++ more) (script_replies text (given ++ more)) (script_ending text)
    (end_later e (ending_left a []) (script_ending text) more (replies_left a [] more) given (script_replies text (given ++ more))
    (h.0 more ∙ ap (λ r. given ++ replies_left a r more) none) (h.1 ∙ ap (λ r. ending_left a r) none) s)

cut_here : (from now : Option (List ℕ)) (given : List (List ℕ)) (a : Progress)
    → IsGoing from now given a → IfSome from (λ text. IsOutcome ReadFailed given (script_replies text given) (script_ending text))
cut_here None now given a h = tt
cut_here (Some text) None given a h = absurd h
cut_here (Some text) (Some rest) given a h = (replies_left a rest [], ap (script_replies text) (sym (append-nil given)) ∙ h.0 [])

-- at this point of a run these replies were written, and none waits
module _ (from now wrote mid : Option (List ℕ)) (given : List (List ℕ)) (a : Progress) (before : Appends wrote mid (flat_map with_line_feed given)) (going : IsGoing from now given a) where
  -- a session that ends within a piece is served
  pub served_within : (next writes : Option (List ℕ)) (piece : List ℕ) (e : Ending) → Consumes now next piece → Concludes a piece e mid writes → IsServed from wrote writes e
  served_within next writes piece e k h =
      let text : flat_map with_line_feed (given ++ h.0) ++ ending_text e ≡ flat_map with_line_feed given ++ (flat_map with_line_feed h.0 ++ ending_text e) =
      ap (λ o. o ++ ending_text e) (flat_map-append with_line_feed given h.0) ∙ append_assoc (flat_map with_line_feed given) (flat_map with_line_feed h.0) (ending_text e) in (
        given ++ h.0,
        rw text (appends_more wrote mid writes (flat_map with_line_feed given) (flat_map with_line_feed h.0 ++ ending_text e) before h.1),
        ended_within from now next given h.0 a piece e going k h.2,
      )

  -- a session that ends at the end of input is served
  pub served_here : (next writes : Option (List ℕ)) (b : Progress) (e : Ending) → a.out ≡ [] → Consumes now next [] → IsAtEnd next → StopsHere a e b → Appends mid writes (b.out ++ ending_text e) → IsServed from wrote writes e
  served_here next writes b e blank k z h after =
      let out : b.out ≡ flat_map with_line_feed h.0 = queued b.out a.out h.0 blank h.1 in
      let text : flat_map with_line_feed (given ++ h.0) ++ ending_text e ≡ flat_map with_line_feed given ++ (b.out ++ ending_text e) =
      ap (λ o. o ++ ending_text e) (flat_map-append with_line_feed given h.0) ∙ append_assoc (flat_map with_line_feed given) (flat_map with_line_feed h.0) (ending_text e)
      ∙ ap (λ o. flat_map with_line_feed given ++ (o ++ ending_text e)) (sym out) in (
        given ++ h.0,
        rw text (appends_more wrote mid writes (flat_map with_line_feed given) (b.out ++ ending_text e) before after),
        ended_here from now next given h.0 a e going k z h.2,
      )

  -- a session whose reader fails is served up to there
  pub served_cut : (writes : Option (List ℕ)) → a.out ≡ [] → Appends mid writes (a.out ++ ending_text ReadFailed) → IsServed from wrote writes ReadFailed
  served_cut writes blank after =
      let none : a.out ++ ending_text ReadFailed ≡ ending_text ReadFailed = ap (λ o. o ++ ending_text ReadFailed) blank in (
        given,
        appends_more wrote mid writes (flat_map with_line_feed given) (ending_text ReadFailed) before (subst (λ o. Appends mid writes o) none after),
        cut_here from now given a going,
      )

-- a call that returns this ending served it
pub concluded : {F : Type 0} (r : Result Ending F) (e : Ending) (P : Ending → Type 0) (Q : Type 0) → IfOk r (λ x. x ≡ e) → OnOk r Q → (Q → P e) → IfOk r P
concluded (Ok x) e P Q same q f = subst P (sym same) (f q)
concluded (Err x) e P Q same q f = tt

-- a script that shows no words has the replies of the transcript
transcribed : (from wrote writes : Option (List ℕ)) (e : Ending) → IsServed from wrote writes e → IsTranscribed from wrote writes e
transcribed None wrote writes e h = tt
transcribed (Some text) wrote writes e h = λ none. (h.0, h.1, subst (λ all. IsOutcome e h.0 all (script_ending text)) (replies_alike [] (lines_of text) h.0 [] none) h.2)

-- what is served is transcribed
pub results_transcribed : {F : Type 0} (from wrote writes : Option (List ℕ)) (r : Result Ending F) → IfOk r (λ e. IsServed from wrote writes e) → IfOk r (λ e. IsTranscribed from wrote writes e)
results_transcribed from wrote writes (Ok e) h = transcribed from wrote writes e h
results_transcribed from wrote writes (Err e) h = tt

-- before the first piece nothing is read
pub read_start : (o : Option (List ℕ)) → IsShort o → IsRead o o 0
read_start None h = absurd h
read_start (Some text) h = omega arith

-- a piece read more adds its bytes
pub read_more : (from now next : Option (List ℕ)) (n count : ℕ) (bs : List ℕ) → IsRead from now n → Consumes now next bs → count ≡ length bs → IsRead from next (n + count)
read_more None now next n count bs h k e = absurd h
read_more (Some text) None next n count bs h k e = absurd h
read_more (Some text) (Some rest) None n count bs h k e = absurd k
read_more (Some text) (Some rest) (Some left) n count bs h k e = let both : length rest ≡ length bs + length left = ap length k ∙ length-append bs left in omega arith

-- a source with fewer bytes than the limit doesn't reach it
pub read_within : (from now next : Option (List ℕ)) (n count : ℕ) (bs : List ℕ) → IsShort from → IsRead from now n → Consumes now next bs → count ≡ length bs → n + count < 2 ^ 64 - 1
read_within None now next n count bs s h k e = absurd h
read_within (Some text) None next n count bs s h k e = absurd h
read_within (Some text) (Some rest) None n count bs s h k e = absurd k
read_within (Some text) (Some rest) (Some left) n count bs s h k e = let both : length rest ≡ length bs + length left = ap length k ∙ length-append bs left in omega arith
