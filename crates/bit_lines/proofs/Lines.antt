-- Scripts, line by line.
use Rattle.std.proofs.Common.{◌≡◌, ◌≢◌, ℕ, suc, ◌+◌, ◌<◌, ◌≤◌, List, Bool, false, [], ◌∷◌, ◌++◌, refl, ap, sym, ◌∙◌, length, arith, ◌==◌, Some, None, Option, nat_lt, length-append}
use Rattle.std.proofs.Common.{inl, inr}
use Rattle.std.specs.List.{slice_split, All, onto_first}
use Rattle.std.proofs.lemmas.List.Elements.{All-head, All-tail}
use Rattle.std.proofs.lemmas.List.Splits.{slice_split_at, slice_split_none, length-slice_split}
use Rattle.std.proofs.lemmas.Bool.Decides.{nat_tests}
use Rattle.std.proofs.lemmas.Bool.{cases_lt, lt-ltb, le-leb, lt-leb}
use Rattle.bit_addressing.specs.declared.length.TheConstants.{MAX_BITS}
use Rattle.bit_lines.specs.declared.parsing.TheConstants.{MAX_LINE}
use Rattle.bit_lines.specs.declared.parsing.Line.{Line}
use Rattle.bit_lines.specs.declared.parsing.Line.TheVariants.{Run, ShowList, ShowWords}
use Rattle.bit_lines.specs.declared.replying.Ending.TheVariants.{BadCommand, TooLong}
use Rattle.bit_lines.specs.Line.{line_of}
use Rattle.bit_lines.specs.Script.{line_text, list_after_line, length_wanted, drop_empty_last, lines_of, leading_lines, fitting, first_text, later_texts, ending_at, replies_from, ending_from}

keep_first : (line : List ℕ) (parts : List (List ℕ)) → 0 < length parts → drop_empty_last (line ∷ parts) ≡ line ∷ drop_empty_last parts
keep_first line [] h = absurd (omega arith)
keep_first [] (next ∷ more) h = refl
keep_first (b ∷ bytes) (next ∷ more) h = refl

-- a whole line, and the rest
pub line_feed : (line rest : List ℕ) → All (λ b. (b == 10) ≡ false) line → lines_of (line ++ 10 ∷ rest) ≡ line ∷ lines_of rest
line_feed line rest clean =
    ap drop_empty_last (slice_split_at (λ b. b == 10) line 10 rest clean refl)
    ∙ keep_first line (slice_split (λ b. b == 10) rest) (omega (arith, length-slice_split (λ b. b == 10) rest))

-- the end of a text with no whole line
pub last_line : (b : ℕ) (line : List ℕ) → All (λ b. (b == 10) ≡ false) (b ∷ line) → lines_of (b ∷ line) ≡ (b ∷ line) ∷ []
last_line b line clean = ap drop_empty_last (slice_split_none (λ b. b == 10) (b ∷ line) clean)

-- ---- how scripts end

ltb-suc : (a b : ℕ) → nat_lt (suc a) (suc b) ≡ nat_lt a b
ltb-suc a b = grind (arith, nat_tests)

ending_next : (n all lines fit : ℕ) → ending_at n (suc all) (suc lines) (suc fit) ≡ ending_at (n + 1) all lines fit
ending_next n all lines fit =
    let same : n + suc lines ≡ (n + 1) + lines = omega arith in rw (same, ltb-suc fit lines, ltb-suc lines all) refl

ending_bad : (n all : ℕ) → ending_at n (suc all) 0 0 ≡ BadCommand n
ending_bad n all = let same : n + 0 ≡ n = omega arith in rw (same, lt-ltb 0 (suc all) (omega arith)) refl

ending_long : (n all lines : ℕ) → ending_at n all (suc lines) 0 ≡ TooLong
ending_long n all lines = rw (lt-ltb 0 (suc lines) (omega arith)) refl

-- ---- the first line: it is none, it asks for too many bits, or it is done

module _ (n : ℕ) (list : List Bool) (bytes : List ℕ) (lines : List (List ℕ)) where
  -- a line that says no command has no reply
  pub bad_replies : None ≡ line_of bytes → (words : List (List ℕ)) → replies_from list (bytes ∷ lines) words ≡ []
  bad_replies e words = rw (← e) refl

  -- a line that says no command ends the session with its number
  pub bad_ending : None ≡ line_of bytes → ending_from n list (bytes ∷ lines) ≡ BadCommand n
  bad_ending e = rw (← e) (ending_bad n (length lines))

  -- a command that would make the list too long has no reply
  pub long_replies : (l : Line) → Some l ≡ line_of bytes → MAX_BITS < length_wanted list l → (words : List (List ℕ)) → replies_from list (bytes ∷ lines) words ≡ []
  long_replies l e h words = rw (← e, lt-leb (length_wanted list l) MAX_BITS h) refl

  -- a command that would make the list too long ends the session
  pub long_ending : (l : Line) → Some l ≡ line_of bytes → MAX_BITS < length_wanted list l → ending_from n list (bytes ∷ lines) ≡ TooLong
  long_ending l e h = rw (← e, lt-leb (length_wanted list l) MAX_BITS h) (ending_long n (suc (length lines)) (length (leading_lines lines)))

  -- the replies from a good line on are its text and those of the later lines
  pub next_replies : (l : Line) → Some l ≡ line_of bytes → length_wanted list l ≤ MAX_BITS → (words : List (List ℕ))
      → replies_from list (bytes ∷ lines) words ≡ line_text list l (first_text words) ∷ replies_from (list_after_line list l) lines (later_texts words)
  next_replies l e h words = rw (← e, le-leb (length_wanted list l) MAX_BITS h) refl

  -- after a good line the ending is that of the later lines
  pub next_ending : (l : Line) → Some l ≡ line_of bytes → length_wanted list l ≤ MAX_BITS → ending_from n list (bytes ∷ lines) ≡ ending_from (n + 1) (list_after_line list l) lines
  next_ending l e h = rw (← e, le-leb (length_wanted list l) MAX_BITS h) (ending_next n (length lines) (length (leading_lines lines)) (length (fitting (list_after_line list l) (leading_lines lines))))

-- ---- a line of too many bytes

begins : (b : ℕ) (parts : List (List ℕ)) → (first : List ℕ) × (others : List (List ℕ)) × (onto_first b parts ≡ (b ∷ first) ∷ others)
begins b [] = ([], [], refl)
begins b (part ∷ parts) = (part, parts, refl)

head_line : (line rest first : List ℕ) (others : List (List ℕ)) → All (λ b. (b == 10) ≡ false) line → slice_split (λ b. b == 10) rest ≡ first ∷ others → slice_split (λ b. b == 10) (line ++ rest) ≡ (line ++ first) ∷ others
head_line [] rest first others clean e = e
head_line (x ∷ line) rest first others clean e =
    rw (All-head (λ b. (b == 10) ≡ false) x line clean) (ap (onto_first x) (head_line line rest first others (All-tail (λ b. (b == 10) ≡ false) x line clean) e))

drop_none : (b : ℕ) (line : List ℕ) (others : List (List ℕ)) → drop_empty_last ((b ∷ line) ∷ others) ≡ (b ∷ line) ∷ drop_empty_last others
drop_none b line [] = refl
drop_none b line (next ∷ more) = refl

drop_none_at : (line : List ℕ) (others : List (List ℕ)) → 0 < length line → drop_empty_last (line ∷ others) ≡ line ∷ drop_empty_last others
drop_none_at [] others h = absurd (omega arith)
drop_none_at (b ∷ line) others h = drop_none b line others

not_line : (line : List ℕ) → MAX_LINE < length line → None ≡ line_of line
not_line line h = rw (lt-leb (length line) MAX_LINE h) refl

module _ (n : ℕ) (list : List Bool) (line rest : List ℕ) (b : ℕ) (clean : All (λ b. (b == 10) ≡ false) line) (other : (b == 10) ≡ false) (full : MAX_LINE ≤ length line) where
  split_first : (first : List ℕ) × (others : List (List ℕ)) × (lines_of (line ++ b ∷ rest) ≡ (line ++ b ∷ first) ∷ others)
  split_first =
      let start = begins b (slice_split (λ b. b == 10) rest) in
      let here : slice_split (λ b. b == 10) (b ∷ rest) ≡ (b ∷ start.0) ∷ start.1 = rw other start.2 in (
        start.0,
        drop_empty_last start.1,
        ap drop_empty_last (head_line line (b ∷ rest) (b ∷ start.0) start.1 clean here)
            ∙ drop_none_at (line ++ b ∷ start.0) start.1 (omega (arith, length-append line (b ∷ start.0))),
      )

  too_long : MAX_LINE < length (line ++ b ∷ split_first.0)
  too_long = omega (arith, length-append line (b ∷ split_first.0))

  -- a line that is too long has no reply
  pub full_replies : (words : List (List ℕ)) → replies_from list (lines_of (line ++ b ∷ rest)) words ≡ []
  full_replies words = ap (λ ls. replies_from list ls words) split_first.2 ∙ bad_replies n list (line ++ b ∷ split_first.0) split_first.1 (not_line (line ++ b ∷ split_first.0) too_long) words

  -- a line that is too long ends the session with its number
  pub full_ending : ending_from n list (lines_of (line ++ b ∷ rest)) ≡ BadCommand n
  full_ending = ap (ending_from n list) split_first.2 ∙ bad_ending n list (line ++ b ∷ split_first.0) split_first.1 (not_line (line ++ b ∷ split_first.0) too_long)

-- ---- where no line shows the words

shown_alike : (list : List Bool) (l : Line) (a b : List ℕ) → l ≢ ShowWords → line_text list l a ≡ line_text list l b
shown_alike list (Run command) a b h = refl
shown_alike list ShowList a b h = refl
shown_alike list ShowWords a b h = absurd (h refl)

module _ (list : List Bool) (bytes : List ℕ) (lines : List (List ℕ)) (a b : List (List ℕ)) (other : line_of bytes ≢ Some ShowWords)
    (more : (after : List Bool) (x y : List (List ℕ)) → replies_from after lines x ≡ replies_from after lines y) where
  alike_by : (o : Option Line) → o ≡ line_of bytes → replies_from list (bytes ∷ lines) a ≡ replies_from list (bytes ∷ lines) b
  alike_by None e = bad_replies 0 list bytes lines e a ∙ sym (bad_replies 0 list bytes lines e b)
  alike_by (Some l) e =
      elim (cases_lt MAX_BITS (length_wanted list l)) [
        | inl h ↦ long_replies 0 list bytes lines l e h a ∙ sym (long_replies 0 list bytes lines l e h b)
        | inr h ↦ next_replies 0 list bytes lines l e h a
            ∙ ap (λ t. t ∷ replies_from (list_after_line list l) lines (later_texts a)) (shown_alike list l (first_text a) (first_text b) (λ is. other (sym e ∙ ap Some is)))
            ∙ ap (λ ts. line_text list l (first_text b) ∷ ts) (more (list_after_line list l) (later_texts a) (later_texts b))
            ∙ sym (next_replies 0 list bytes lines l e h b)
      ]

-- where no line shows the words, the texts that would show them don't matter
pub replies_alike : (list : List Bool) (lines : List (List ℕ)) (a b : List (List ℕ)) → All (λ bytes. line_of bytes ≢ Some ShowWords) lines → replies_from list lines a ≡ replies_from list lines b
replies_alike list [] a b h = refl
replies_alike list (bytes ∷ lines) a b h =
    alike_by list bytes lines a b (All-head (λ bs. line_of bs ≢ Some ShowWords) bytes lines h)
    (λ after x y. replies_alike after lines x y (All-tail (λ bs. line_of bs ≢ Some ShowWords) bytes lines h)) (line_of bytes) refl
