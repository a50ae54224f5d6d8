-- What a text of bits says.
use Rattle.std.specs.Prelude.{◌≡◌, ℕ, ◌<◌, ◌≤◌, if◌then◌else◌, Bool, true, false, List, [], ◌∷◌, ◌++◌, Some, None, fold, length, map, take}
use Rattle.std.specs.Prelude.{eqb, Option}
use Rattle.std.proofs.Common.{subst, length-append, get_or, refl, sym, ◌∙◌, ap, inl, inr, append_assoc, arith}
use Rattle.std.proofs.lemmas.List.{map-append, append-nil, take_all}
use Rattle.std.proofs.lemmas.List.Sums.{fold_more}
use Rattle.std.proofs.lemmas.List.Folds.{fold_stuck}
use Rattle.bit_addressing.specs.Text.{digit_of, joined, list_text}
use Rattle.bit_containers.specs.declared.vec.text.Part.{Part}
use Rattle.bit_containers.specs.declared.vec.text.Part.TheVariants.{Start, Digits, Opened, Digit, Comma, Space, Closed}
use Rattle.std.proofs.lemmas.Bool.Decides.{eqb_tells}
use Rattle.bit_containers.specs.Text.{after_digit, after_opening, after_comma, after_space, after_closing, IsTextOf, IsFirstWrong, bits_said, digits_in, may_end, part_after, part_of, said_at, then_after, with_digit}

-- ---- digits alone

alone_read : (bits : List Bool) → fold then_after (Some Digits) (map digit_of bits) ≡ Some Digits
alone_read [] = refl
alone_read (true ∷ bits) = alone_read bits
alone_read (false ∷ bits) = alone_read bits

alone_digits : (seen bits : List Bool) → fold with_digit seen (map digit_of bits) ≡ seen ++ bits
alone_digits seen [] = sym (append-nil seen)
alone_digits seen (true ∷ bits) = alone_digits (seen ++ true ∷ []) bits ∙ append_assoc seen (true ∷ []) bits
alone_digits seen (false ∷ bits) = alone_digits (seen ++ false ∷ []) bits ∙ append_assoc seen (false ∷ []) bits

alone_said : (bits : List Bool) → bits_said (map digit_of bits) ≡ Some bits
alone_said [] = refl
alone_said (true ∷ bits) = ap (λ p. said_at p (digits_in (map digit_of (true ∷ bits)))) (alone_read bits) ∙ ap Some (alone_digits [] (true ∷ bits))
alone_said (false ∷ bits) = ap (λ p. said_at p (digits_in (map digit_of (false ∷ bits)))) (alone_read bits) ∙ ap Some (alone_digits [] (false ∷ bits))

-- ---- a list between brackets

joined_read : (b : Bool) (bits : List Bool) → fold then_after (Some Space) (joined (b ∷ bits) ++ 93 ∷ []) ≡ Some Closed
joined_read true [] = refl
joined_read false [] = refl
joined_read true (c ∷ bits) = joined_read c bits
joined_read false (c ∷ bits) = joined_read c bits

list_read : (bits : List Bool) → part_of (list_text bits) ≡ Some Closed
list_read [] = refl
list_read (true ∷ []) = refl
list_read (false ∷ []) = refl
list_read (true ∷ c ∷ bits) = joined_read c bits
list_read (false ∷ c ∷ bits) = joined_read c bits

joined_digits : (seen : List Bool) (b : Bool) (bits : List Bool) → fold with_digit seen (joined (b ∷ bits) ++ 93 ∷ []) ≡ seen ++ b ∷ bits
joined_digits seen true [] = refl
joined_digits seen false [] = refl
joined_digits seen true (c ∷ bits) = joined_digits (seen ++ true ∷ []) c bits ∙ append_assoc seen (true ∷ []) (c ∷ bits)
joined_digits seen false (c ∷ bits) = joined_digits (seen ++ false ∷ []) c bits ∙ append_assoc seen (false ∷ []) (c ∷ bits)

list_digits : (bits : List Bool) → digits_in (list_text bits) ≡ bits
list_digits [] = refl
list_digits (b ∷ bits) = joined_digits [] b bits

-- ---- both

-- a text of bits says them
pub text_said : (text : List ℕ) (bits : List Bool) → IsTextOf text bits → bits_said text ≡ Some bits
text_said text bits (inl alone) = ap bits_said alone ∙ alone_said bits
text_said text bits (inr list) = ap bits_said list ∙ ap (λ p. said_at p (digits_in (list_text bits))) (list_read bits) ∙ ap Some (list_digits bits)

one_said : (bits more : List Bool) → Some bits ≡ Some more → bits ≡ more
one_said bits more e = cc

-- a text says one list of bits at most
pub only_said : (text : List ℕ) (bits more : List Bool) → bits_said text ≡ Some bits → IsTextOf text more → bits ≡ more
only_said text bits more said is = one_said bits more (sym said ∙ text_said text more is)

none_said : (text : List ℕ) (bits : List Bool) → bits_said text ≡ None → IsTextOf text bits → ⊥
none_said text bits none is = let said = text_said text bits is in cc

-- a text that was read whole
pub whole_said : (text : List ℕ) (part : Part) (bits : List Bool) (read : ℕ) → length text ≤ read → part_of (take read text) ≡ Some part → bits ≡ digits_in (take read text) → may_end part ≡ true → bits_said text ≡ Some bits
whole_said text part bits read h is digits ended =
    let all : take read text ≡ text = take_all read text h in
    ap (λ t. said_at (part_of t) (digits_in t)) (sym all) ∙ ap (λ p. said_at p (digits_in (take read text))) is
    ∙ ap (λ b. if b then Some (digits_in (take read text)) else None) ended ∙ ap Some (sym digits)

not_ended : (part : Part) (bits : List Bool) → may_end part ≡ false → said_at (Some part) bits ≡ None
not_ended part bits e = ap (λ b. if b then Some bits else None) e

-- a text that ends too early
pub wrong_end : (text : List ℕ) (part : Part) (read : ℕ) → length text ≤ read → part_of (take read text) ≡ Some part → may_end part ≡ false → IsFirstWrong text (length text)
wrong_end text part read h is unended =
    let whole : part_of text ≡ Some part = sym (ap part_of (take_all read text h)) ∙ is in
    let none : bits_said text ≡ None = ap (λ p. said_at p (digits_in text)) whole ∙ not_ended part (digits_in text) unended in
    record {
      within = omega arith;
      before = λ e. let both = sym e ∙ ap part_of (take_all (length text) text (omega arith)) ∙ whole in cc;
      here = λ h. absurd (omega arith);
      none = none;
      no_text = λ bits is. none_said text bits none is;
    }

-- a text with a wrong character
pub wrong_here : (text : List ℕ) (part : Part) (at : ℕ) → at < length text → part_of (take at text) ≡ Some part → part_after part (get_or text at 0) ≡ None → IsFirstWrong text at
wrong_here text part at h read wrong =
    let here : then_after (part_of (take at text)) (get_or text at 0) ≡ None = ap (λ p. then_after p (get_or text at 0)) read ∙ wrong in
    let none : bits_said text ≡ None = ap (λ p. said_at p (digits_in text)) (sym (fold_stuck then_after None (λ c. refl) (Some Start) text at 0 h here)) in
    record {
      within = omega arith;
      before = λ e. let both = sym e ∙ read in cc;
      here = λ _. fold_more then_after (Some Start) text at 0 h ∙ here;
      none = none;
      no_text = λ bits is. none_said text bits none is;
    }

-- ---- what is read is the text of what was read

-- the characters before an index, by what was read there
abbrev IsRead : Part → List ℕ → List Bool → Type 0
IsRead Start text bits = (text ≡ []) × (bits ≡ [])
IsRead Digits text bits = text ≡ map digit_of bits
IsRead Opened text bits = (text ≡ 91 ∷ []) × (bits ≡ [])
IsRead Digit text bits = (0 < length bits) × (text ≡ 91 ∷ joined bits)
IsRead Comma text bits = (0 < length bits) × (text ≡ 91 ∷ joined bits ++ 44 ∷ [])
IsRead Space text bits = (0 < length bits) × (text ≡ 91 ∷ joined bits ++ 44 ∷ 32 ∷ [])
IsRead Closed text bits = text ≡ list_text bits

-- the same, where nothing may have been wrong
abbrev IsRight : Option Part → List ℕ → List Bool → Type 0
IsRight None text bits = Unit {0}
IsRight (Some part) text bits = IsRead part text bits

joined_more : (bits : List Bool) (b : Bool) → 0 < length bits → joined (bits ++ b ∷ []) ≡ joined bits ++ 44 ∷ 32 ∷ digit_of b ∷ []
joined_more [] b h = absurd (omega arith)
joined_more (c ∷ []) b h = refl
joined_more (c ∷ d ∷ bits) b h = ap (λ l. digit_of c ∷ 44 ∷ 32 ∷ l) (joined_more (d ∷ bits) b (omega arith))

digit_read : (b : Bool) (part : Part) (text : List ℕ) (bits : List Bool) → IsRead part text bits → IsRight (after_digit part) (text ++ digit_of b ∷ []) (bits ++ b ∷ [])
digit_read b Start text bits r = rw (r.0, r.1) refl
digit_read b Digits text bits r = ap (λ t. t ++ digit_of b ∷ []) r ∙ sym (map-append digit_of bits (b ∷ []))
digit_read b Opened text bits r = rw (r.0, r.1) (omega arith, refl)
digit_read b Digit text bits r = tt
digit_read b Comma text bits r = tt
digit_read b Space text bits r =
    let size = length-append bits (b ∷ []) in (
      omega arith,
      ap (λ t. t ++ digit_of b ∷ []) r.1 ∙ ap (λ t. 91 ∷ t) (append_assoc (joined bits) (44 ∷ 32 ∷ []) (digit_of b ∷ []) ∙ sym (joined_more bits b r.0)),
    )
digit_read b Closed text bits r = tt

opening_read : (part : Part) (text : List ℕ) (bits : List Bool) → IsRead part text bits → IsRight (after_opening part) (text ++ 91 ∷ []) bits
opening_read Start text bits r = (ap (λ t. t ++ 91 ∷ []) r.0, r.1)
opening_read Digits text bits r = tt
opening_read Opened text bits r = tt
opening_read Digit text bits r = tt
opening_read Comma text bits r = tt
opening_read Space text bits r = tt
opening_read Closed text bits r = tt

comma_read : (part : Part) (text : List ℕ) (bits : List Bool) → IsRead part text bits → IsRight (after_comma part) (text ++ 44 ∷ []) bits
comma_read Start text bits r = tt
comma_read Digits text bits r = tt
comma_read Opened text bits r = tt
comma_read Digit text bits r = (r.0, ap (λ t. t ++ 44 ∷ []) r.1)
comma_read Comma text bits r = tt
comma_read Space text bits r = tt
comma_read Closed text bits r = tt

space_read : (part : Part) (text : List ℕ) (bits : List Bool) → IsRead part text bits → IsRight (after_space part) (text ++ 32 ∷ []) bits
space_read Start text bits r = tt
space_read Digits text bits r = tt
space_read Opened text bits r = tt
space_read Digit text bits r = tt
space_read Comma text bits r = (r.0, ap (λ t. t ++ 32 ∷ []) r.1 ∙ ap (λ t. 91 ∷ t) (append_assoc (joined bits) (44 ∷ []) (32 ∷ [])))
space_read Space text bits r = tt
space_read Closed text bits r = tt

closing_read : (part : Part) (text : List ℕ) (bits : List Bool) → IsRead part text bits → IsRight (after_closing part) (text ++ 93 ∷ []) bits
closing_read Start text bits r = tt
closing_read Digits text bits r = tt
closing_read Opened text bits r = rw (r.0, r.1) refl
closing_read Digit text bits r = ap (λ t. t ++ 93 ∷ []) r.1
closing_read Comma text bits r = tt
closing_read Space text bits r = tt
closing_read Closed text bits r = tt

-- one character more
abbrev IsStep : Part → List ℕ → List Bool → ℕ → Type 0
IsStep part text bits c = IsRight (part_after part c) (text ++ c ∷ []) (with_digit bits c)

other_read : (part : Part) (text : List ℕ) (bits : List Bool) (c : ℕ) → eqb c 48 ≡ false → eqb c 49 ≡ false → eqb c 91 ≡ false → eqb c 44 ≡ false → eqb c 32 ≡ false → eqb c 93 ≡ false → IsStep part text bits c
other_read part text bits c a b d e f h = rw (a, b, d, e, f, h) tt

step_read : (part : Part) (text : List ℕ) (bits : List Bool) (c : ℕ) → IsRead part text bits → IsStep part text bits c
step_read part text bits c r =
    elim (eqb_tells c 48) [
      | inl e ↦ subst (IsStep part text bits) (sym e.1) (digit_read false part text bits r)
      | inr a ↦
          elim (eqb_tells c 49) [
            | inl e ↦ subst (IsStep part text bits) (sym e.1) (digit_read true part text bits r)
            | inr b ↦
                elim (eqb_tells c 91) [
                  | inl e ↦ subst (IsStep part text bits) (sym e.1) (opening_read part text bits r)
                  | inr d ↦
                      elim (eqb_tells c 44) [
                        | inl e ↦ subst (IsStep part text bits) (sym e.1) (comma_read part text bits r)
                        | inr f ↦
                            elim (eqb_tells c 32) [
                              | inl e ↦ subst (IsStep part text bits) (sym e.1) (space_read part text bits r)
                              | inr h ↦
                                  elim (eqb_tells c 93) [
                                    | inl e ↦ subst (IsStep part text bits) (sym e.1) (closing_read part text bits r)
                                    | inr k ↦
                                        other_read part text bits c a.0 b.0 d.0 f.0 h.0 k.0
                                  ]
                            ]
                      ]
                ]
          ]
    ]

-- all characters that follow
all_read : (rest : List ℕ) (part : Option Part) (text : List ℕ) (bits : List Bool) → IsRight part text bits → IsRight (fold then_after part rest) (text ++ rest) (fold with_digit bits rest)
all_read [] part text bits r = subst (λ t. IsRight part t bits) (sym (append-nil text)) r
all_read (c ∷ rest) None text bits r = subst (λ t. IsRight (fold then_after None rest) t (fold with_digit (with_digit bits c) rest)) (append_assoc text (c ∷ []) rest) (all_read rest None (text ++ c ∷ []) (with_digit bits c) tt)
all_read (c ∷ rest) (Some part) text bits r =
    subst (λ t. IsRight (fold then_after (part_after part c) rest) t (fold with_digit (with_digit bits c) rest)) (append_assoc text (c ∷ []) rest)
    (all_read rest (part_after part c) (text ++ c ∷ []) (with_digit bits c) (step_read part text bits c r))

ended_read : (part : Part) (text : List ℕ) (bits : List Bool) → may_end part ≡ true → IsRead part text bits → IsTextOf text bits
ended_read Start text bits e r = inl (r.0 ∙ ap (map digit_of) (sym r.1))
ended_read Digits text bits e r = inl r
ended_read Closed text bits e r = inr r
ended_read Opened text bits e r = cc
ended_read Digit text bits e r = cc
ended_read Comma text bits e r = cc
ended_read Space text bits e r = cc

-- a text that is read whole is the text of what it says
pub said_text : (text : List ℕ) (part : Part) → part_of text ≡ Some part → may_end part ≡ true → IsTextOf text (digits_in text)
said_text text part is ended = ended_read part text (digits_in text) ended (subst (λ p. IsRight p text (digits_in text)) is (all_read text (Some Start) [] [] (refl, refl)))
