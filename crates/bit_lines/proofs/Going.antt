-- Scripts that are being run.
use Rattle.std.proofs.Common.{◌≡◌, ℕ, ◌+◌, ◌<◌, ◌≤◌, List, false, [], ◌∷◌, ◌++◌, refl, ap, sym, subst, ◌∙◌, length, arith, ◌==◌, Some, None, append_assoc, append-nil, take, drop, get_or}
use Rattle.std.specs.Prelude.{flat_map}
use Rattle.std.specs.List.{All}
use Rattle.std.proofs.lemmas.Grind.{flat_map-append}
use Rattle.std.proofs.lemmas.List.{take_more, take-append-drop}
use Rattle.bit_addressing.specs.declared.length.TheConstants.{MAX_BITS}
use Rattle.bit_lines.specs.declared.parsing.TheConstants.{MAX_LINE}
use Rattle.bit_lines.specs.declared.parsing.Line.{Line}
use Rattle.bit_lines.specs.declared.replying.Ending.{Ending}
use Rattle.bit_lines.specs.declared.replying.Ending.TheVariants.{Finished, BadCommand, TooLong, NoMemory, ReadFailed}
use Rattle.bit_lines.specs.Line.{line_of}
use Rattle.bit_lines.specs.Script.{list_after_line, length_wanted, lines_of, replies_from, ending_from, with_line_feed, CanRefuse}
use Rattle.bit_lines.specs.Progress.{Progress, IsPart, replies_left, ending_left, IsEnd, Replies, Goes, Ends, Queues, Advances, Stops, StopsHere}
use Rattle.bit_lines.proofs.Lines.{line_feed, last_line, bad_replies, bad_ending, long_replies, long_ending, next_replies, next_ending, full_replies, full_ending}

queues_none : (old new : Progress) → new.out ≡ old.out → Queues old [] new
queues_none old new e = e ∙ sym (append-nil old.out)

-- ---- a byte

-- a byte of a line waits for the next
pub byte_advances : (old new : Progress) (b : ℕ) → new ≡ record old { line = old.line ++ b ∷ [] } → Advances old (b ∷ []) new
byte_advances old new b e = (
  [],
  queues_none old new (ap (λ s. s.out) e),
  record {
    replies = λ rest words. rw (e, append_assoc old.line (b ∷ []) rest) refl;
    ending = λ rest. rw (e, append_assoc old.line (b ∷ []) rest) refl;
  },
)

-- memory may be refused anywhere
pub memory_stops : (old new : Progress) (bytes : List ℕ) → new.out ≡ old.out → Stops old bytes NoMemory new
memory_stops old new bytes e = ([], queues_none old new e, λ rest. (replies_left old (bytes ++ rest) [], refl))

-- the byte after a full line
pub full_stops : (old new : Progress) (b : ℕ) → IsPart old.line → (b == 10) ≡ false → MAX_LINE ≤ length old.line → new.out ≡ old.out → Stops old (b ∷ []) (BadCommand old.number) new
full_stops old new b part other full e = (
  [],
  queues_none old new e,
  λ rest. (full_replies old.number old.list old.line rest b part.1 other full [], full_ending old.number old.list old.line rest b part.1 other full),
)

-- ---- a line feed

module _ (old new : Progress) (part : IsPart old.line) where
  -- a line that says no command stops the session with its number
  pub bad_stops : None ≡ line_of old.line → new.out ≡ old.out → Stops old (10 ∷ []) (BadCommand old.number) new
  bad_stops none e = (
    [],
    queues_none old new e,
    λ rest. (
      ap (λ ls. replies_from old.list ls []) (line_feed old.line rest part.1) ∙ bad_replies old.number old.list old.line (lines_of rest) none [],
      ap (ending_from old.number old.list) (line_feed old.line rest part.1) ∙ bad_ending old.number old.list old.line (lines_of rest) none,
    ),
  )

  long_stops : (l : Line) → Some l ≡ line_of old.line → MAX_BITS < length_wanted old.list l → new.out ≡ old.out → Stops old (10 ∷ []) TooLong new
  long_stops l some h e = (
    [],
    queues_none old new e,
    λ rest. (
      ap (λ ls. replies_from old.list ls []) (line_feed old.line rest part.1) ∙ long_replies old.number old.list old.line (lines_of rest) l some h [],
      ap (ending_from old.number old.list) (line_feed old.line rest part.1) ∙ long_ending old.number old.list old.line (lines_of rest) l some h,
    ),
  )

  -- a line whose command is refused stops the session
  pub refused_stops : (l : Line) (ending : Ending) → Some l ≡ line_of old.line → CanRefuse old.list l ending → new.out ≡ old.out → Stops old (10 ∷ []) ending new
  refused_stops l NoMemory some h e = memory_stops old new (10 ∷ []) e
  refused_stops l TooLong some h e = long_stops l some h e
  refused_stops l Finished some h e = absurd h
  refused_stops l (BadCommand n) some h e = absurd h
  refused_stops l ReadFailed some h e = absurd h

  -- a line was replied to, and the next one begins
  pub line_advances : (l : Line) (mid : Progress) → Some l ≡ line_of old.line → Replies old l mid → new ≡ record mid { line = []; number = mid.number + 1 } → Advances old (10 ∷ []) new
  line_advances l mid some r e = (
    r.text.0 ∷ [],
    ap (λ s. s.out) e ∙ r.text.1 ∙ ap (λ t. old.out ++ t) (sym (append-nil (with_line_feed r.text.0))),
    record {
      replies = λ rest words. rw (e, r.list)
          (ap (λ ls. replies_from old.list ls (r.text.0 ∷ words)) (line_feed old.line rest part.1)
          ∙ next_replies old.number old.list old.line (lines_of rest) l some r.fits (r.text.0 ∷ words)
          ∙ ap (λ t. t ∷ replies_from (list_after_line old.list l) (lines_of rest) words) (sym r.text.2));
      ending = λ rest. rw (e, r.list, r.number)
          (ap (ending_from old.number old.list) (line_feed old.line rest part.1) ∙ next_ending old.number old.list old.line (lines_of rest) l some r.fits);
    },
  )

-- ---- one piece after another

two_queues : (a b c : List ℕ) (g h : List (List ℕ)) → b ≡ a ++ flat_map with_line_feed g → c ≡ b ++ flat_map with_line_feed h → c ≡ a ++ flat_map with_line_feed (g ++ h)
two_queues a b c g h e1 e2 =
    e2 ∙ ap (λ o. o ++ flat_map with_line_feed h) e1 ∙ append_assoc a (flat_map with_line_feed g) (flat_map with_line_feed h) ∙ ap (λ o. a ++ o) (sym (flat_map-append with_line_feed g h))

-- the end of later lines is that of all, after the earlier texts
pub end_later : (e last last2 : Ending) (given all g all2 : List (List ℕ)) → all2 ≡ g ++ all → last2 ≡ last → IsEnd e given all last → IsEnd e (g ++ given) all2 last2
end_later NoMemory last last2 given all g all2 p q h = (h.0, p ∙ ap (λ rs. g ++ rs) h.1 ∙ sym (append_assoc g given h.0))
end_later Finished last last2 given all g all2 p q h = (p ∙ ap (λ rs. g ++ rs) h.0, q ∙ h.1)
end_later (BadCommand n) last last2 given all g all2 p q h = (p ∙ ap (λ rs. g ++ rs) h.0, q ∙ h.1)
end_later TooLong last last2 given all g all2 p q h = (p ∙ ap (λ rs. g ++ rs) h.0, q ∙ h.1)
end_later ReadFailed last last2 given all g all2 p q h = absurd h

-- no bytes leave the session as it was
pub goes_nowhere : (s : Progress) → Goes s [] [] s
goes_nowhere s = record { replies = λ rest words. refl; ending = λ rest. refl }

-- what waits to be written says nothing of what is left
pub goes_same : (a b c : Progress) (bytes : List ℕ) (g : List (List ℕ)) → c ≡ record b { out = [] } → Goes a bytes g b → Goes a bytes g c
goes_same a b c bytes g e h = record {
  replies = λ rest words. rw e (h.replies rest words);
  ending = λ rest. rw e (h.ending rest);
}

module _ (a b c : Progress) (xs ys : List ℕ) (g h : List (List ℕ)) (first : Goes a xs g b) where
  -- bytes taken in two pieces are taken as one
  pub goes_more : Goes b ys h c → Goes a (xs ++ ys) (g ++ h) c
  goes_more next = record {
    replies = λ rest words. rw (append_assoc xs ys rest, append_assoc g h words, append_assoc g h (replies_left c rest words))
        (first.replies (ys ++ rest) (h ++ words) ∙ ap (λ rs. g ++ rs) (next.replies rest words));
    ending = λ rest. rw (append_assoc xs ys rest) (first.ending (ys ++ rest) ∙ next.ending rest);
  }

  -- a session that ends in the second piece ends in both together
  pub ends_more : (e : Ending) → Ends b ys h e → Ends a (xs ++ ys) (g ++ h) e
  ends_more e next = λ rest. rw (append_assoc xs ys rest)
      (end_later e (ending_left b (ys ++ rest)) (ending_left a (xs ++ (ys ++ rest))) h (replies_left b (ys ++ rest) h) g (replies_left a (xs ++ (ys ++ rest)) (g ++ h))
      (first.replies (ys ++ rest) h) (first.ending (ys ++ rest)) (next rest))

-- a session that has ended ignores what follows
pub ends_early : (a : Progress) (xs zs : List ℕ) (g : List (List ℕ)) (e : Ending) → Ends a xs g e → Ends a (xs ++ zs) g e
ends_early a xs zs g e h = λ rest. rw (append_assoc xs zs rest) (h (zs ++ rest))

-- the next byte of a piece
module _ (a b c : Progress) (piece : List ℕ) (i : ℕ) (within : i < length piece) (g : Advances a (take i piece) b) where
  -- one byte more of a piece is taken after the others
  pub byte_more : Advances b (get_or piece i 0 ∷ []) c → Advances a (take (i + 1) piece) c
  byte_more h = rw (take_more piece i 0 within)
      ((g.0 ++ h.0, two_queues a.out b.out c.out g.0 h.0 g.1 h.1, goes_more a b c (take i piece) (get_or piece i 0 ∷ []) g.0 h.0 g.2 h.2))

  -- a session that stops at a byte stops in the piece
  pub byte_stops : (e : Ending) → Stops b (get_or piece i 0 ∷ []) e c → Stops a piece e c
  byte_stops e h =
      let part : Ends a (take (i + 1) piece) (g.0 ++ h.0) e = rw (take_more piece i 0 within) (ends_more a b c (take i piece) (get_or piece i 0 ∷ []) g.0 h.0 g.2 e h.2) in (
        g.0 ++ h.0,
        two_queues a.out b.out c.out g.0 h.0 g.1 h.1,
        subst (λ xs. Ends a xs (g.0 ++ h.0) e) (take-append-drop (i + 1) piece) (ends_early a (take (i + 1) piece) (drop (i + 1) piece) (g.0 ++ h.0) e part),
      )

-- ---- the end of the input

same_end : (line : List ℕ) → All (λ b. (b == 10) ≡ false) line → 0 < length line → lines_of (line ++ []) ≡ lines_of (line ++ 10 ∷ [])
same_end [] clean h = absurd (omega arith)
same_end (b ∷ line) clean h = ap lines_of (append-nil (b ∷ line)) ∙ last_line b line clean ∙ sym (line_feed (b ∷ line) [] clean)

module _ (s new : Progress) (part : IsPart s.line) (some : 0 < length s.line) where
  -- a session stopped by the line end added at the end of input stops there
  pub last_stops : (e : Ending) → Stops s (10 ∷ []) e new → StopsHere s e new
  last_stops e h = (h.0, h.1, let same = same_end s.line part.1 some in rw same (h.2 []))

  -- a session that goes on past the last line finishes
  pub last_advances : Advances s (10 ∷ []) new → new.line ≡ [] → StopsHere s Finished new
  last_advances h e = (
    h.0,
    h.1,
    let same = same_end s.line part.1 some in
        let none : replies_left new [] [] ≡ [] = rw e refl in
        let over : ending_left new [] ≡ Finished = rw e refl in (
          ap (λ ls. replies_from s.list ls h.0) same ∙ ap (replies_left s (10 ∷ [])) (sym (append-nil h.0)) ∙ h.2.replies [] [] ∙ ap (λ rs. h.0 ++ rs) none ∙ append-nil h.0,
          ap (ending_from s.number s.list) same ∙ h.2.ending [] ∙ over,
        ),
  )
