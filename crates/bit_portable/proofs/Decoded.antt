-- Bytes as numbers, and numbers as bytes.
use Rattle.std.proofs.Common.{◌≡◌, ℕ, ◌+◌, ◌<◌, ◌≤◌, Bool, List, [], ◌∷◌, ◌++◌, length, get_or, take, drop, refl, sym, ◌∙◌, ap, arith, append_assoc}
use Rattle.std.specs.Prelude.{Result, Ok, Err}
use Rattle.std.specs.Int.{w16, w64, from_le_bytes}
use Rattle.bit_portable.specs.declared.fault.Fault.{Fault}
use Rattle.bit_portable.specs.declared.fault.ReadError.{ReadError}
use Rattle.bit_portable.specs.declared.fault.ReadError.TheVariants as errors
use Rattle.bit_portable.specs.Stored.{Piece}
use Rattle.bit_portable.specs.Form.{flag_at}
use Rattle.std.proofs.lemmas.List.{append-nil}
use Rattle.bit_portable.specs.Reading.{◌>>=◌, Fails, eights, one_run, runs_in, one_head, heads_in}

-- the first word of eight bytes, and the others
pub eights_step : (bytes : List ℕ) → 8 ≤ length bytes → eights bytes ≡ from_le_bytes w64 (take 8 bytes) ∷ eights (drop 8 bytes)
eights_step (a ∷ b ∷ c ∷ d ∷ e ∷ f ∷ g ∷ h ∷ rest) long = refl
eights_step _ long = absurd (omega arith)

pub eights_end : (bytes : List ℕ) → length bytes < 8 → eights bytes ≡ []
eights_end (a ∷ b ∷ c ∷ d ∷ e ∷ f ∷ g ∷ h ∷ rest) short = absurd (omega arith)
eights_end _ short = refl

-- items that were read before those that are left
abbrev pub after_items : {X : Type 0} → List X → Result (List X) Fault → Result (List X) Fault
after_items front read = read >>= λ xs. Ok (front ++ xs)

-- an item, and those after it
abbrev pub item_first : {X : Type 0} → Result X Fault → (X → Result (List X) Fault) → Result (List X) Fault
item_first step next = step >>= λ x. next x >>= λ xs. Ok (x ∷ xs)

one_more : {X : Type 0} (front : List X) (x : X) (read : Result (List X) Fault) → after_items front (read >>= λ xs. Ok (x ∷ xs)) ≡ after_items (front ++ x ∷ []) read
one_more front x (Ok xs) = ap (λ ys. Ok ys) (sym (append_assoc front (x ∷ []) xs))
one_more front x (Err f) = refl

pub goes_on : {X : Type 0} (front : List X) (x : X) (step : Result X Fault) (next : X → Result (List X) Fault) (total : Result (List X) Fault)
    → step ≡ Ok x → after_items front (item_first step next) ≡ total → after_items (front ++ x ∷ []) (next x) ≡ total
goes_on front x step next total is so_far = sym (one_more front x (next x)) ∙ ap (λ s. after_items front (item_first s next)) (sym is) ∙ so_far

pub stops : {X : Type 0} (e : ReadError) (front : List X) (step : Result X Fault) (next : X → Result (List X) Fault) (total : Result (List X) Fault)
    → Fails e step → after_items front (item_first step next) ≡ total → Fails e total
stops errors.Memory front step next total fails so_far = tt
stops (errors.Fault f) front step next total fails so_far = sym so_far ∙ ap (λ s. after_items front (item_first s next)) fails

pub is_done : {X : Type 0} (front : List X) (read total : Result (List X) Fault) → read ≡ Ok [] → after_items front read ≡ total → total ≡ Ok front
is_done front read total is so_far = sym so_far ∙ ap (λ r. after_items front r) is ∙ ap (λ xs. Ok xs) (append-nil front)

-- the first run of four bytes, and the others
abbrev low_two : List ℕ → ℕ
low_two front = from_le_bytes w16 (get_or front 0 0 ∷ get_or front 1 0 ∷ [])

abbrev high_two : List ℕ → ℕ
high_two front = from_le_bytes w16 (get_or front 2 0 ∷ get_or front 3 0 ∷ [])

runs_step : (from : ℕ) (bytes : List ℕ) → 4 ≤ length bytes → runs_in from bytes ≡ item_first (one_run from (low_two (take 4 bytes)) (high_two (take 4 bytes))) (λ r. runs_in (r.last + 2) (drop 4 bytes))
runs_step from (a ∷ b ∷ c ∷ d ∷ rest) long = refl
runs_step from _ long = absurd (omega arith)

pub next_run : (from : ℕ) (bytes front after : List ℕ) (first more : ℕ) → 4 ≤ length bytes → front ≡ take 4 bytes → after ≡ drop 4 bytes → first ≡ low_two front → more ≡ high_two front
    → runs_in from bytes ≡ item_first (one_run from first more) (λ r. runs_in (r.last + 2) after)
next_run from bytes front after first more long f a l h = rw (h, l, a, f) (runs_step from bytes long)

pub runs_end : (from : ℕ) (bytes : List ℕ) → length bytes < 4 → runs_in from bytes ≡ Ok []
runs_end from (a ∷ b ∷ c ∷ d ∷ rest) short = absurd (omega arith)
runs_end from _ short = refl

-- what the header says of the first block, and of the others
heads_step : (flags : List ℕ) (k from : ℕ) (bytes : List ℕ) → 4 ≤ length bytes → heads_in flags k from bytes
    ≡ item_first (one_head from (low_two (take 4 bytes)) (high_two (take 4 bytes)) (flag_at flags k)) (λ h. heads_in flags (k + 1) (h.key + 1) (drop 4 bytes))
heads_step flags k from (a ∷ b ∷ c ∷ d ∷ rest) long = refl
heads_step flags k from _ long = absurd (omega arith)

pub next_head : (flags : List ℕ) (k from : ℕ) (bytes front after : List ℕ) (key others : ℕ) (flag : Bool) → 4 ≤ length bytes → front ≡ take 4 bytes → after ≡ drop 4 bytes → key ≡ low_two front → others ≡ high_two front → flag ≡ flag_at flags k
    → heads_in flags k from bytes ≡ item_first (one_head from key others flag) (λ h. heads_in flags (k + 1) (h.key + 1) after)
next_head flags k from bytes front after key others flag long f a l h g = rw (g, h, l, a, f) (heads_step flags k from bytes long)

pub heads_end : (flags : List ℕ) (k from : ℕ) (bytes : List ℕ) → length bytes < 4 → heads_in flags k from bytes ≡ Ok []
heads_end flags k from (a ∷ b ∷ c ∷ d ∷ rest) short = absurd (omega arith)
heads_end flags k from _ short = refl

-- blocks that were read before those that are left
abbrev pub after_pieces : List Piece → Result (List Piece × List ℕ) Fault → Result (List Piece × List ℕ) Fault
after_pieces front read = read >>= λ x. Ok (front ++ x.0, x.1)

one_piece_more : (front : List Piece) (p : Piece) (read : Result (List Piece × List ℕ) Fault) → after_pieces front (read >>= λ ps. Ok (p ∷ ps.0, ps.1)) ≡ after_pieces (front ++ p ∷ []) read
one_piece_more front p (Ok x) = ap (λ (ps : List Piece). Ok (ps, x.1)) (sym (append_assoc front (p ∷ []) x.0))
one_piece_more front p (Err f) = refl
