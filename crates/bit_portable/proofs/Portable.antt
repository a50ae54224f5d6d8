-- The bytes of a set are a form of it, and blocks that are read are those of a set.
use Rattle.std.proofs.Common.{◌≡◌, ℕ, zero, suc, ◌+◌, ◌*◌, ◌^◌, ◌<◌, ◌≤◌, Bool, true, false, ◌&&◌, cond, nat_eq, nat_le, nat_lt, List, [], ◌∷◌, length, map, All, Ok, refl, sym, ◌∙◌, ap, subst, arith, length-append}
use Rattle.std.specs.List.{flat_map, AllByRecursion}
use Rattle.std.proofs.lemmas.Bool.{leb-true, leb-false}
use Rattle.std.proofs.lemmas.List.Elements.{All-from_recursion, recursion_from_All}
use Rattle.bit_blocks.specs.declared.ranged.Run.{Run}
use Rattle.bit_blocks.specs.Numbers.{AscendsIn, Ascends, those}
use Rattle.bit_blocks.specs.Runs.{joined, runs_of, runs_pay}
use Rattle.bit_blocks.proofs.Runs.{ascends_runs}
use Rattle.bit_blocks.proofs.Those.{ascends_those}
use Rattle.bit_portable.specs.declared.stored.Head.{Head}
use Rattle.bit_portable.specs.declared.stored.Stored.{Stored}
use Rattle.bit_portable.specs.declared.fault.ReadError.{ReadError}
use Rattle.bit_portable.specs.declared.fault.ReadError.TheVariants as errors
use Rattle.bit_portable.specs.Reading.{Fails}
use Rattle.bit_portable.proofs.Fields.{done, ok_is}
use Rattle.bit_portable.specs.Stored.{Content, content_of, pieces_of, Numbers, Words, Runs, Holds, Piece, IsPiece, content_bytes, run_bytes, two, word_total}
use Rattle.bit_portable.specs.Form.{AreWritable, IsForm, IsWritten, KeysFrom, OffsetsFit, data_bytes, data_start, flag_count, flags_for, form, heads_of}
use Rattle.bit_portable.specs.Portable.{IsGood, AreBlocks, AreBlocksFrom, IsFormOf, Numbered, any_runs, content_for, head_for, numbered_of, numbers_of, pieces_for, portable, stored_as_runs, word_bit, words_of}
use Rattle.bit_portable.proofs.Bytes.{numbers_length, words_length, runs_length}
use Rattle.bit_portable.proofs.Coded.{Wholes}
use Rattle.bit_portable.proofs.Flags.{flags_for_are, flags_for_length}
use Rattle.bit_blocks.proofs.Joined.{runs_good, runs_numbers}
use Rattle.bit_portable.proofs.Pieces.{total_numbers}
use Rattle.bit_portable.proofs.Mapping.{words_again, words_count, words_fit, words_numbers, words_total}

-- ---- one block

ascending_few : (from upto : ℕ) (xs : List ℕ) → from ≤ upto → AscendsIn from upto xs → from + length xs ≤ upto
ascending_few from upto [] low h = omega arith
ascending_few from upto (x ∷ xs) low h = let first = h.0 in let below = h.1 in let rest = ascending_few (x + 1) upto xs (omega arith) h.2 in omega arith

either_some : (b : Bool) (x y : List Run) → 0 < length x → 0 < length y → 0 < length (cond b x y)
either_some true x y p q = p
either_some false x y p q = q

joined_some : (x : ℕ) (rs : List Run) → 0 < length (joined x rs)
joined_some x [] = omega arith
joined_some x (r ∷ rs) = either_some (nat_eq r.first (x + 1)) (record { first = x; last = r.last } ∷ rs) (record { first = x; last = x } ∷ r ∷ rs) (omega arith) (omega arith)

some_runs : (xs : List ℕ) → 0 < length xs → 0 < length (runs_of xs)
some_runs [] some = absurd (omega arith)
some_runs (x ∷ xs) some = joined_some x (runs_of xs)

plain_holds : (h : Head) (xs : List ℕ) (b : Bool) → nat_le (length xs) 4096 ≡ b → Ascends xs → h.count ≡ length xs → h.as_runs ≡ false → Holds h (cond b (Numbers xs) (Words (words_of xs)))
plain_holds h xs true few ascends count plain = let most = leb-true _ _ few in (plain, omega arith, sym count, ascends)
plain_holds h xs false many ascends count plain =
    let least = leb-false _ _ many in
    (plain, omega arith, words_count xs, words_total xs ascends ∙ sym count, All-from_recursion (λ w. w < 2 ^ 64) (words_of xs) (words_fit xs))

content_holds : (h : Head) (as_runs : Bool) (xs : List ℕ) → Ascends xs → 0 < length xs → h.count ≡ length xs → h.as_runs ≡ as_runs → Holds h (content_for as_runs xs)
content_holds h true xs ascends some count is = (is, some_runs xs some, runs_good 0 xs ascends, total_numbers (runs_of xs) ∙ ap length (runs_numbers 0 xs ascends) ∙ sym count)
content_holds h false xs ascends some count is = plain_holds h xs (nat_le (length xs) 4096) refl ascends count is

plain_numbers : (xs : List ℕ) (b : Bool) → Ascends xs → numbers_of (cond b (Numbers xs) (Words (words_of xs))) ≡ xs
plain_numbers xs true ascends = refl
plain_numbers xs false ascends = words_numbers xs ascends

-- the numbers that are stored are the numbers
pub content_numbers : (as_runs : Bool) (xs : List ℕ) → Ascends xs → numbers_of (content_for as_runs xs) ≡ xs
content_numbers true xs ascends = runs_numbers 0 xs ascends
content_numbers false xs ascends = plain_numbers xs (nat_le (length xs) 4096) ascends

plain_size : (xs : List ℕ) (b : Bool) → nat_le (length xs) 4096 ≡ b → length (content_bytes (cond b (Numbers xs) (Words (words_of xs)))) ≤ 8192
plain_size xs true few = let most = leb-true _ _ few in omega (arith, numbers_length xs)
plain_size xs false many = omega (arith, words_length (words_of xs), words_count xs)

runs_size : (b : Bool) (count runs : ℕ) → nat_le count 4096 ≡ b → cond b (nat_lt (4 * runs + 2) (2 * count + 2)) (nat_lt (4 * runs + 2) 8192) ≡ true → 4 * runs + 2 ≤ 8192
runs_size true count runs few pay = let most = leb-true _ _ few in let less = leb-true _ _ pay in omega arith
runs_size false count runs many pay = let less = leb-true _ _ pay in omega arith

content_size : (as_runs : Bool) (xs : List ℕ) → (as_runs ≡ true → runs_pay (length xs) (length (runs_of xs)) ≡ true) → length (content_bytes (content_for as_runs xs)) ≤ 8192
content_size true xs pay = let small = runs_size (nat_le (length xs) 4096) (length xs) (length (runs_of xs)) refl (pay refl) in omega (arith, length-append (two (length (runs_of xs))) (flat_map run_bytes (runs_of xs)), runs_length (runs_of xs))
content_size false xs pay = plain_size xs (nat_le (length xs) 4096) refl

second : (a b : Bool) → (a && b) ≡ true → b ≡ true
second true b e = e
second false b e = absurd cc

piece_size : (with_runs : Bool) (b : Numbered) → length (content_bytes (content_for (stored_as_runs with_runs b) b.numbers)) ≤ 8192
piece_size with_runs b = content_size (stored_as_runs with_runs b) b.numbers (λ e. second with_runs (runs_pay (length b.numbers) (length (runs_of b.numbers))) e)

-- ---- all blocks

pieces_are : (with_runs : Bool) (from : ℕ) (bs : List Numbered) → AreBlocksFrom from bs → AllByRecursion IsPiece (pieces_for with_runs bs)
pieces_are with_runs from [] h = tt
pieces_are with_runs from (b ∷ bs) h = (
  record { key = h.1; some = h.2; most = omega (arith, ascending_few 0 65536 b.numbers (omega arith) h.3); holds = content_holds (head_for with_runs b) (stored_as_runs with_runs b) b.numbers h.3 h.2 refl refl },
  pieces_are with_runs (b.key + 1) bs h.4,
)

keys_are : (with_runs : Bool) (from : ℕ) (bs : List Numbered) → AreBlocksFrom from bs → KeysFrom from (heads_of (pieces_for with_runs bs))
keys_are with_runs from [] h = tt
keys_are with_runs from (b ∷ bs) h = (h.0, keys_are with_runs (b.key + 1) bs h.4)

blocks_few : (from : ℕ) (bs : List Numbered) → from ≤ 65536 → AreBlocksFrom from bs → from + length bs ≤ 65536
blocks_few from [] low h = omega arith
blocks_few from (b ∷ bs) low h = let first = h.0 in let below = h.1 in let rest = blocks_few (b.key + 1) bs (omega arith) h.4 in omega arith

pieces_count : (with_runs : Bool) (bs : List Numbered) → length (pieces_for with_runs bs) ≡ length bs
pieces_count with_runs [] = refl
pieces_count with_runs (b ∷ bs) = ap suc (pieces_count with_runs bs)

heads_count : (ps : List Piece) → length (heads_of ps) ≡ length ps
heads_count [] = refl
heads_count (p ∷ ps) = ap suc (heads_count ps)

data_size : (with_runs : Bool) (bs : List Numbered) → length (data_bytes (pieces_for with_runs bs)) ≤ 8192 * length bs
data_size with_runs [] = omega arith
data_size with_runs (b ∷ bs) =
    let here = piece_size with_runs b in
    let rest = data_size with_runs bs in
    omega (arith, length-append (content_bytes (content_for (stored_as_runs with_runs b) b.numbers)) (data_bytes (pieces_for with_runs bs)))

offsets_fit : (at : ℕ) (ps : List Piece) → at + length (data_bytes ps) < 2 ^ 32 → OffsetsFit at ps
offsets_fit at [] small = tt
offsets_fit at (p ∷ ps) small =
    let whole = length-append (content_bytes p.content) (data_bytes ps) in
    (omega arith, offsets_fit (at + length (content_bytes p.content)) ps (omega arith))

at_most : (b : Bool) (n : ℕ) → cond b n 0 ≤ n
at_most true n = omega arith
at_most false n = omega arith

start_small : (flagged : Bool) (n : ℕ) → data_start flagged n ≤ 16 + 10 * n
start_small true n = let offsets = at_most (nat_le 4 n) (4 * n) in omega arith
start_small false n = omega arith

any_some : (ps : List Piece) → any_runs ps ≡ true → 0 < length ps
any_some [] e = absurd cc
any_some (p ∷ ps) e = omega arith

all_small : (with_runs : Bool) (bs : List Numbered) → AreBlocks bs → let ps = pieces_for with_runs bs in data_start (any_runs ps) (length ps) + length (data_bytes ps) < 2 ^ 32
all_small with_runs bs h =
    let few = blocks_few 0 bs (omega arith) h in
    let count = pieces_count with_runs bs in
    let size = data_size with_runs bs in
    let begins = start_small (any_runs (pieces_for with_runs bs)) (length (pieces_for with_runs bs)) in
    omega arith

-- the blocks of a set can be written
pub are_writable : (with_runs : Bool) (bs : List Numbered) → AreBlocks bs → AreWritable (any_runs (pieces_for with_runs bs)) (pieces_for with_runs bs)
are_writable with_runs bs h = record {
  pieces = All-from_recursion IsPiece (pieces_for with_runs bs) (pieces_are with_runs 0 bs h);
  count = omega (arith, blocks_few 0 bs (omega arith) h, pieces_count with_runs bs);
  some = any_some (pieces_for with_runs bs);
  small = all_small with_runs bs h;
}

are_form : (with_runs : Bool) (bs : List Numbered) → AreBlocks bs → let ps = pieces_for with_runs bs in IsForm (any_runs ps) (flags_for (any_runs ps) (heads_of ps)) ps
are_form with_runs bs h =
    let ps : List Piece = pieces_for with_runs bs in
    let flagged : Bool = any_runs ps in
    record {
      pieces = pieces_are with_runs 0 bs h;
      keys = keys_are with_runs 0 bs h;
      count = omega (arith, blocks_few 0 bs (omega arith) h, pieces_count with_runs bs);
      some = any_some ps;
      flags_are = flags_for_are flagged ps refl;
      flags_len = flags_for_length flagged (heads_of ps) ∙ ap (flag_count flagged) (heads_count ps);
      offsets = λ is. offsets_fit (data_start flagged (length ps)) ps (all_small with_runs bs h);
    }

numbered_again : (with_runs : Bool) (from : ℕ) (bs : List Numbered) → AreBlocksFrom from bs → map numbered_of (pieces_for with_runs bs) ≡ bs
numbered_again with_runs from [] h = refl
numbered_again with_runs from (b ∷ bs) h =
    ap (λ (ns : List ℕ). record { key = b.key; numbers = ns } ∷ map numbered_of (pieces_for with_runs bs)) (content_numbers (stored_as_runs with_runs b) b.numbers h.3)
    ∙ ap (λ (t : List Numbered). b ∷ t) (numbered_again with_runs (b.key + 1) bs h.4)

-- the bytes of a set are a form of it
pub portable_form : (with_runs : Bool) (bs : List Numbered) → AreBlocks bs → IsFormOf (portable with_runs bs) bs
unfolding portable
portable_form with_runs bs h =
    let ps : List Piece = pieces_for with_runs bs in
    (ps, (any_runs ps, flags_for (any_runs ps) (heads_of ps), are_form with_runs bs h, refl), numbered_again with_runs 0 bs h)

pub writable_as : (flagged : Bool) (ps : List Piece) (with_runs : Bool) (bs : List Numbered) → flagged ≡ any_runs ps → ps ≡ pieces_for with_runs bs → AreBlocks bs → AreWritable flagged ps
writable_as flagged ps with_runs bs f e h =
    let here : AreWritable (any_runs ps) ps = subst (λ (qs : List Piece). AreWritable (any_runs qs) qs) (sym e) (are_writable with_runs bs h) in
    subst (λ (b : Bool). AreWritable b ps) (sym f) here

pub written_as : (flagged : Bool) (ps : List Piece) (with_runs : Bool) (bs : List Numbered) (out : List ℕ) → flagged ≡ any_runs ps → ps ≡ pieces_for with_runs bs → out ≡ form flagged (flags_for flagged (heads_of ps)) ps → out ≡ portable with_runs bs
unfolding portable
written_as flagged ps with_runs bs out f e is =
    is ∙ ap (λ (b : Bool). form b (flags_for b (heads_of ps)) ps) f ∙ ap (λ (qs : List Piece). form (any_runs qs) (flags_for (any_runs qs) (heads_of qs)) qs) e

pub content_of_words : (xs ws : List ℕ) → length ws ≡ 1024 → Wholes ws → those (word_bit ws) 0 65536 ≡ xs → ws ≡ words_of xs
content_of_words xs ws len fits is = sym (words_again ws len fits) ∙ ap words_of is

-- ---- what is read

content_ascends : (h : Head) (c : Content) → Holds h c → Ascends (numbers_of c)
content_ascends h (Numbers xs) holds = holds.3
content_ascends h (Words ws) holds = ascends_those (word_bit ws) 0 65536 65536 (omega arith)
content_ascends h (Runs rs) holds = ascends_runs 0 rs holds.2

-- as many numbers as the header says
pub content_count : (h : Head) (c : Content) → Holds h c → length (numbers_of c) ≡ h.count
content_count h (Numbers xs) holds = holds.2
content_count h (Words ws) holds =
    let same = words_again ws holds.2 (recursion_from_All (λ w. w < 2 ^ 64) ws holds.4) in
    let xs : List ℕ = those (word_bit ws) 0 65536 in
    let total = words_total xs (ascends_those (word_bit ws) 0 65536 65536 (omega arith)) in
    sym total ∙ ap word_total same ∙ holds.3
content_count h (Runs rs) holds = sym (total_numbers rs) ∙ holds.3

blocks_are : (from : ℕ) (ps : List Piece) → AllByRecursion IsPiece ps → KeysFrom from (heads_of ps) → AreBlocksFrom from (map numbered_of ps)
blocks_are from [] pieces keys = tt
blocks_are from (p ∷ ps) pieces keys = (
  keys.0,
  pieces.0.key,
  omega (arith, pieces.0.some, content_count p.head p.content pieces.0.holds),
  content_ascends p.head p.content pieces.0.holds,
  blocks_are (p.head.key + 1) ps pieces.1 keys.1,
)

-- blocks whose form the bytes are, are those of a set
pub are_blocks : (bytes : List ℕ) (bs : List Numbered) → IsFormOf bytes bs → AreBlocks bs
are_blocks bytes bs written = subst AreBlocks written.2 (blocks_are 0 written.0 written.1.2.pieces written.1.2.keys)

content_good : (h : Head) (c : Content) → Holds h c → IsGood c
content_good h (Numbers xs) holds = holds.3
content_good h (Words ws) holds = holds.2
content_good h (Runs rs) holds = holds.2

stored_good : (ss : List Stored) → AllByRecursion IsPiece (pieces_of ss) → All (λ s. IsGood (content_of s.content)) ss
stored_good [] pieces k d inside = absurd (omega arith)
stored_good (s ∷ ss) pieces zero d inside = content_good s.head (content_of s.content) pieces.0.holds
stored_good (s ∷ ss) pieces (suc k) d inside = stored_good ss pieces.1 k d (omega arith)

pub written_good : (bytes : List ℕ) (ss : List Stored) → IsWritten bytes (pieces_of ss) → All (λ s. IsGood (content_of s.content)) ss
written_good bytes ss written = stored_good ss written.2.pieces

pub still_fails : {X Y : Type 0} (e : ReadError) (x : X) (y : Y) → Fails e (Ok x) → Fails e (Ok y)
still_fails errors.Memory x y fails = tt
still_fails (errors.Fault f) x y fails = absurd cc

pub all_read : (ps qs : List Piece) (bs : List Numbered) (view : List Numbered) → done ps ≡ done qs → map numbered_of ps ≡ bs → view ≡ map numbered_of qs → done bs ≡ done view
all_read ps qs bs view same is read = ap (λ (t : List Numbered). done t) (sym is ∙ ap (λ (t : List Piece). map numbered_of t) (ok_is ps qs same) ∙ sym read)

pub back_of : (bytes : List ℕ) (with_runs : Bool) (bs : List Numbered) → AreBlocks bs → bytes ≡ portable with_runs bs → IsFormOf bytes bs
back_of bytes with_runs bs h e = subst (λ (t : List ℕ). IsFormOf t bs) (sym e) (portable_form with_runs bs h)
