-- All of the bytes: what is read was written there, and what was written is read again.
use Rattle.std.proofs.Common.{◌≡◌, ℕ, zero, suc, ◌+◌, ◌-◌, ◌*◌, ◌^◌, ◌<◌, ◌≤◌, Bool, true, false, not, ◌&&◌, cond, nat_lt, nat_eq, List, [], ◌∷◌, ◌++◌, length, take, drop, Result, Ok, Err, refl, sym, ap, subst, ◌∙◌, append_assoc, arith, inl, inr, eq-eqb, length-append, length-drop}
use Rattle.std.specs.List.{flat_map, AllByRecursion}
use Rattle.std.specs.Int.{w16, w32, from_le_bytes}
use Rattle.std.proofs.lemmas.Bool.{eqb-true, ne_eqb, ltb-false, le-ltb}
use Rattle.std.proofs.lemmas.Bool.Decides.{nat_tests}
use Rattle.std.proofs.lemmas.List.{append-nil, drop-drop, take-append-drop, nil_from_length}
use Rattle.std.proofs.lemmas.Nat.{le_bytes_2, le_bytes_4, from_le_bytes-to_le_bytes_2, from_le_bytes-to_le_bytes_4}
use Rattle.bit_portable.specs.declared.fault.Fault.{Fault}
use Rattle.bit_portable.specs.declared.fault.Fault.TheVariants as faults
use Rattle.bit_portable.specs.declared.stored.Head.{Head}
use Rattle.bit_portable.specs.declared.stored.Stored.{Stored}
use Rattle.bit_portable.specs.declared.fault.ReadError.{ReadError}
use Rattle.std.specs.Prelude.{IfOk}
use Rattle.std.specs.Global.{Vec}
use Rattle.bit_portable.specs.declared.reading.Start.{Start}
use Rattle.bit_portable.specs.Stored.{Piece, pieces_of, IsPiece, Holds, two, head_bytes, content_bytes}
use Rattle.bit_portable.specs.Form.{IsForm, IsWritten, KeysFrom, FlagsFrom, OffsetsFit, data_bytes, data_start, flag_at, flag_count, form, four, has_offsets, heads_of, offset_bytes, offsets_for, start_bytes}
use Rattle.bit_portable.specs.Reading.{◌>>=◌, Gives, bytes_at, number_at, one_head, heads_in, offset_at, content_at, piece_at, pieces_in, plain_start_at, start_at, flags_len, offsets_len, all_of}
use Rattle.bit_portable.proofs.Bytes.{even_lengths}
use Rattle.bit_portable.proofs.Fields.{IsBytes, IsBytes-take, IsBytes-drop, Takes, takes_both, bind_ok, guard_ok, guarded_ok, chosen, ok_is, bytes_take, bytes_again, number_takes, number_again, wide16, wide32}
use Rattle.bit_portable.proofs.Contents.{content_takes, content_again}

-- a step that has a value
pub goes : {A B : Type 0} (r : Result A Fault) (x : A) (f : A → Result B Fault) → r ≡ Ok x → (r >>= f) ≡ f x
goes r x f e = ap (λ q. q >>= f) e

-- ---- the header of each block

-- what a header can say
pub record HeadFits (h : Head) : Type 0 where
  pub key : h.key < 65536
  pub some : 0 < h.count
  pub most : h.count ≤ 65536

pub record HeadsRead (n k from : ℕ) (flags bytes : List ℕ) (hs : List Head) : Type 0 where
  pub text : flat_map head_bytes hs ≡ bytes
  pub count : length hs ≡ n
  pub keys : KeysFrom from hs
  pub flags_are : FlagsFrom flags k hs
  pub fit : AllByRecursion HeadFits hs

head_takes : (from key others : ℕ) (flag : Bool) (h : Head) → one_head from key others flag ≡ Ok h → (from ≤ key) × (h.key ≡ key) × (h.count ≡ others + 1) × (h.as_runs ≡ flag)
head_takes from key others flag h e =
    let g = guard_ok (nat_lt key from) faults.Keys (Ok (record { key = key; count = others + 1; as_runs = flag })) h e in
    let same = ok_is (record { key = key; count = others + 1; as_runs = flag }) h g.1 in
    (ltb-false _ _ g.0, sym (ap (λ (q : Head). q.key) same), sym (ap (λ (q : Head). q.count) same), sym (ap (λ (q : Head). q.as_runs) same))

pub heads_take : (n k from : ℕ) (flags bytes : List ℕ) (hs : List Head) → IsBytes bytes → length bytes ≡ 4 * n → heads_in flags k from bytes ≡ Ok hs → HeadsRead n k from flags bytes hs
heads_take zero k from flags [] hs fits len e = subst (HeadsRead 0 k from flags []) (ok_is [] hs e) (record { text = refl; count = refl; keys = tt; flags_are = tt; fit = tt })
heads_take zero k from flags (a ∷ bs) hs fits len e = absurd (omega arith)
heads_take (suc n) k from flags (a ∷ b ∷ c ∷ d ∷ rest) hs fits len e =
    let all : List ℕ = a ∷ b ∷ c ∷ d ∷ rest in
    let key = from_le_bytes w16 (a ∷ b ∷ []) in
    let others = from_le_bytes w16 (c ∷ d ∷ []) in
    let p = bind_ok (one_head from key others (flag_at flags k)) (λ h. heads_in flags (k + 1) (h.key + 1) rest >>= λ qs. Ok (h ∷ qs)) hs e in
    let h : Head = p.0 in
    let q = bind_ok (heads_in flags (k + 1) (h.key + 1) rest) (λ qs. Ok (h ∷ qs)) hs p.2 in
    let one = head_takes from key others (flag_at flags k) h p.1 in
    let more = heads_take n (k + 1) (h.key + 1) flags rest q.0 (IsBytes-drop 4 all fits) (omega arith) q.1 in
    let low_fits = IsBytes-take 2 all fits in
    let high_fits = IsBytes-take 2 (c ∷ d ∷ rest) (IsBytes-drop 2 all fits) in
    let low : two key ≡ a ∷ b ∷ [] = le_bytes_2 (a ∷ b ∷ []) _ refl low_fits refl in
    let high : two others ≡ c ∷ d ∷ [] = le_bytes_2 (c ∷ d ∷ []) _ refl high_fits refl in
    let low_below : key < 65536 = wide16.below (a ∷ b ∷ []) low_fits in
    let high_below : others < 65536 = wide16.below (c ∷ d ∷ []) high_fits in
    let keys : two h.key ≡ a ∷ b ∷ [] = ap two one.1 ∙ low in
    let counts : two (h.count - 1) ≡ c ∷ d ∷ [] = ap two (omega (arith, one.2)) ∙ high in
    let text : flat_map head_bytes (h ∷ q.0) ≡ all = ap (λ (t : List ℕ). (t ++ two (h.count - 1)) ++ flat_map head_bytes q.0) keys ∙ ap (λ (t : List ℕ). ((a ∷ b ∷ []) ++ t) ++ flat_map head_bytes q.0) counts ∙ ap (λ (t : List ℕ). a ∷ (b ∷ (c ∷ (d ∷ t)))) more.text in
    subst (HeadsRead (suc n) k from flags all) (ok_is (h ∷ q.0) hs q.2) (record {
      text = text;
      count = ap suc more.count;
      keys = (omega (arith, one.0, one.1), more.keys);
      flags_are = (sym one.3, more.flags_are);
      fit = (record { key = omega (arith, one.1); some = omega (arith, one.2); most = omega (arith, one.2) }, more.fit);
    })
heads_take (suc n) k from flags _ hs fits len e = absurd (omega arith)

pub heads_again : (k from : ℕ) (flags : List ℕ) (hs : List Head) → KeysFrom from hs → FlagsFrom flags k hs → AllByRecursion HeadFits hs → heads_in flags k from (flat_map head_bytes hs) ≡ Ok hs
heads_again k from flags [] keys flags_are fit = refl
heads_again k from flags (h ∷ hs) keys flags_are fit =
    let some : 0 < h.count = fit.0.some in
    let most : h.count ≤ 65536 = fit.0.most in
    let above : from ≤ h.key = keys.0 in
    let next = λ (q : Head). heads_in flags (k + 1) (q.key + 1) (flat_map head_bytes hs) >>= λ qs. Ok (q ∷ qs) in
    let low : from_le_bytes w16 (two h.key) ≡ h.key = from_le_bytes-to_le_bytes_2 h.key fit.0.key in
    let high : from_le_bytes w16 (two (h.count - 1)) ≡ h.count - 1 = from_le_bytes-to_le_bytes_2 (h.count - 1) (omega arith) in
    let whole : h.count - 1 + 1 ≡ h.count = omega arith in
    let test : nat_lt h.key from ≡ false = le-ltb h.key from above in
    let one : one_head from h.key (h.count - 1) (flag_at flags k) ≡ Ok h =
    ap (λ (b : Bool). cond b (Err faults.Keys) (Ok (record { key = h.key; count = h.count - 1 + 1; as_runs = flag_at flags k }))) test
    ∙ ap (λ (m : ℕ). Ok (record { key = h.key; count = m; as_runs = flag_at flags k })) whole
    ∙ ap (λ (b : Bool). Ok (record { key = h.key; count = h.count; as_runs = b })) flags_are.0 in
    ap (λ (m : ℕ). one_head from m (from_le_bytes w16 (two (h.count - 1))) (flag_at flags k) >>= next) low
    ∙ ap (λ (m : ℕ). one_head from h.key m (flag_at flags k) >>= next) high
    ∙ goes (one_head from h.key (h.count - 1) (flag_at flags k)) h next one
    ∙ ap (λ x. x >>= λ qs. Ok (h ∷ qs)) (heads_again (k + 1) (h.key + 1) flags hs keys.1 flags_are.1 fit.1)

-- ---- the blocks

four_taken : (bytes : List ℕ) → 4 ≤ length bytes → IsBytes bytes → four (from_le_bytes w32 bytes) ≡ take 4 bytes
four_taken (a ∷ b ∷ c ∷ d ∷ rest) long fits = le_bytes_4 (a ∷ b ∷ c ∷ d ∷ []) _ refl (IsBytes-take 4 (a ∷ b ∷ c ∷ d ∷ rest) fits) refl
four_taken _ long fits = absurd (omega arith)

four_again : (n : ℕ) (rest : List ℕ) → n < 2 ^ 32 → from_le_bytes w32 (four n ++ rest) ≡ n
four_again n rest lt = from_le_bytes-to_le_bytes_4 n lt

checked_is : (checked : Bool) (a b : ℕ) → (checked && not (nat_eq a b)) ≡ false → checked ≡ true → a ≡ b
checked_is true a b e is = grind (arith, nat_tests)
checked_is false a b e is = absurd cc

passes : (checked : Bool) (a b : ℕ) → (checked ≡ true → a ≡ b) → (checked && not (nat_eq a b)) ≡ false
passes true a b same = ap not (eq-eqb a b (same refl))
passes false a b same = refl

pub record PieceRead (checked : Bool) (total : ℕ) (offsets : List ℕ) (k : ℕ) (h : Head) (bytes : List ℕ) (x : Piece × List ℕ) : Type 0 where
  pub takes : Takes bytes (content_bytes x.0.content) x.1
  pub head : x.0.head ≡ h
  pub holds : Holds x.0.head x.0.content
  pub offset : checked ≡ true → offset_at offsets k ≡ total - length bytes

piece_takes : (checked : Bool) (total : ℕ) (offsets : List ℕ) (k : ℕ) (h : Head) (bytes : List ℕ) (x : Piece × List ℕ) → IsBytes bytes → piece_at checked total offsets k h bytes ≡ Ok x → PieceRead checked total offsets k h bytes x
unfolding piece_at
piece_takes checked total offsets k h bytes x fits e =
    let g = guard_ok (checked && not (nat_eq (offset_at offsets k) (total - length bytes))) faults.Offset (content_at h bytes >>= λ y. Ok (record { head = h; content = y.0 }, y.1)) x e in
    let c = bind_ok (content_at h bytes) (λ y. Ok (record { head = h; content = y.0 }, y.1)) x g.1 in
    let t = content_takes h bytes c.0 fits c.1 in
    subst (PieceRead checked total offsets k h bytes) (ok_is (record { head = h; content = c.0.0 }, c.0.1) x c.2) (record {
      takes = t.0;
      head = refl;
      holds = t.1;
      offset = checked_is checked (offset_at offsets k) (total - length bytes) g.0;
    })

piece_again : (checked : Bool) (total : ℕ) (offsets : List ℕ) (k : ℕ) (p : Piece) (rest : List ℕ) → Holds p.head p.content → (checked ≡ true → offset_at offsets k ≡ total - length (content_bytes p.content ++ rest)) → piece_at checked total offsets k p.head (content_bytes p.content ++ rest) ≡ Ok (p, rest)
unfolding piece_at
piece_again checked total offsets k p rest holds offset =
    rw (passes checked (offset_at offsets k) (total - length (content_bytes p.content ++ rest)) offset, content_again p.head p.content rest holds) refl

pub record PiecesRead (checked : Bool) (total : ℕ) (offsets : List ℕ) (k : ℕ) (hs : List Head) (bytes : List ℕ) (x : List Piece × List ℕ) : Type 0 where
  pub takes : Takes bytes (data_bytes x.0) x.1
  pub heads : heads_of x.0 ≡ hs
  pub pieces : AllByRecursion IsPiece x.0
  pub offsets_are : checked ≡ true → (drop (4 * k) offsets ≡ offset_bytes (total - length bytes) x.0) × OffsetsFit (total - length bytes) x.0

pub pieces_take : (checked : Bool) (total : ℕ) (offsets : List ℕ) (k : ℕ) (hs : List Head) (bytes : List ℕ) (x : List Piece × List ℕ) → IsBytes bytes → IsBytes offsets → length bytes ≤ total → AllByRecursion HeadFits hs
    → (checked ≡ true → length (drop (4 * k) offsets) ≡ 4 * length hs) → pieces_in checked total offsets k hs bytes ≡ Ok x → PiecesRead checked total offsets k hs bytes x
pieces_take checked total offsets k [] bytes x fits offsets_fit within fit room e =
    subst (PiecesRead checked total offsets k [] bytes) (ok_is ([], bytes) x e) (record {
      takes = record { parts = refl; rest_fits = fits };
      heads = refl;
      pieces = tt;
      offsets_are = λ is. (nil_from_length (drop (4 * k) offsets) (room is), tt);
    })
pieces_take checked total offsets k (h ∷ hs) bytes x fits offsets_fit within fit room e =
    let p = bind_ok (piece_at checked total offsets k h bytes) (λ p. pieces_in checked total offsets (k + 1) hs p.1 >>= λ ps. Ok (p.0 ∷ ps.0, ps.1)) x e in
    let q = bind_ok (pieces_in checked total offsets (k + 1) hs p.0.1) (λ ps. Ok (p.0.0 ∷ ps.0, ps.1)) x p.2 in
    let one = piece_takes checked total offsets k h bytes p.0 fits p.1 in
    let parts : length bytes ≡ length (content_bytes p.0.0.content) + length p.0.1 = ap length one.takes.parts ∙ length-append (content_bytes p.0.0.content) p.0.1 in
    let later : drop (4 * (k + 1)) offsets ≡ drop 4 (drop (4 * k) offsets) = ap (λ (n : ℕ). drop n offsets) (omega arith) ∙ sym (drop-drop 4 (4 * k) offsets) in
    let room_left : checked ≡ true → length (drop (4 * (k + 1)) offsets) ≡ 4 * length hs = λ is. ap length later ∙ length-drop 4 (drop (4 * k) offsets) ∙ omega (arith, room is) in
    let more = pieces_take checked total offsets (k + 1) hs p.0.1 q.0 one.takes.rest_fits offsets_fit (omega arith) fit.1 room_left q.1 in
    let fine = subst HeadFits (sym one.head) fit.0 in
    let piece : IsPiece p.0.0 = record { key = fine.key; some = fine.some; most = fine.most; holds = one.holds } in
    let ps : List Piece = q.0.0 in
    let at : ℕ = total - length bytes in
    let left : List ℕ = drop (4 * k) offsets in
    let size : ℕ = length (content_bytes p.0.0.content) in
    let next : total - length p.0.1 ≡ at + size = omega arith in
    let left_fits : IsBytes left = IsBytes-drop (4 * k) offsets offsets_fit in
    subst (PiecesRead checked total offsets k (h ∷ hs) bytes) (ok_is (p.0.0 ∷ ps, q.0.1) x q.2) (record {
      takes = takes_both bytes (content_bytes p.0.0.content) p.0.1 (data_bytes ps) q.0.1 one.takes more.takes;
      heads = ap (λ (t : Head). t ∷ heads_of ps) one.head ∙ ap (λ (t : List Head). h ∷ t) more.heads;
      pieces = (piece, more.pieces);
      offsets_are = λ is.
          let here : four at ≡ take 4 left = ap four (sym (one.offset is)) ∙ four_taken left (omega (arith, room is)) left_fits in
          let below : at < 2 ^ 32 = omega (arith, one.offset is, wide32.below left left_fits) in (
            sym (take-append-drop 4 left) ∙ ap (λ (t : List ℕ). t ++ drop 4 left) (sym here) ∙ ap (λ (t : List ℕ). four at ++ t) (sym later ∙ (more.offsets_are is).0 ∙ ap (λ (n : ℕ). offset_bytes n ps) next),
            (below, subst (λ (n : ℕ). OffsetsFit n ps) next (more.offsets_are is).1),
          );
    })

pub pieces_again : (checked : Bool) (total : ℕ) (offsets : List ℕ) (k : ℕ) (ps : List Piece) (rest : List ℕ) → AllByRecursion IsPiece ps → length (data_bytes ps ++ rest) ≤ total
    → (checked ≡ true → (drop (4 * k) offsets ≡ offset_bytes (total - length (data_bytes ps ++ rest)) ps) × OffsetsFit (total - length (data_bytes ps ++ rest)) ps)
    → pieces_in checked total offsets k (heads_of ps) (data_bytes ps ++ rest) ≡ Ok (ps, rest)
pieces_again checked total offsets k [] rest pieces within given = refl
pieces_again checked total offsets k (p ∷ ps) rest pieces within given =
    let others : List ℕ = data_bytes ps ++ rest in
    let text : List ℕ = content_bytes p.content in
    let regrouped : data_bytes (p ∷ ps) ++ rest ≡ text ++ others = append_assoc text (data_bytes ps) rest in
    let at : ℕ = total - length (data_bytes (p ∷ ps) ++ rest) in
    let whole : length (data_bytes (p ∷ ps) ++ rest) ≡ length text + length others = ap length regrouped ∙ length-append text others in
    let left : List ℕ = drop (4 * k) offsets in
    let after : List ℕ = offset_bytes (at + length text) ps in
    let offset : checked ≡ true → offset_at offsets k ≡ total - length (text ++ others) = λ is. ap (λ (t : List ℕ). from_le_bytes w32 t) (given is).0 ∙ four_again at after (given is).1.0 ∙ ap (λ (t : List ℕ). total - length t) regrouped in
    let later : drop (4 * (k + 1)) offsets ≡ drop 4 left = ap (λ (n : ℕ). drop n offsets) (omega arith) ∙ sym (drop-drop 4 (4 * k) offsets) in
    let next : at + length text ≡ total - length others = omega arith in
    let given_later : checked ≡ true → (drop (4 * (k + 1)) offsets ≡ offset_bytes (total - length others) ps) × OffsetsFit (total - length others) ps =
    λ is. (later ∙ ap (λ (t : List ℕ). drop 4 t) (given is).0 ∙ ap (λ (n : ℕ). offset_bytes n ps) next, subst (λ (n : ℕ). OffsetsFit n ps) next (given is).1.1) in
    ap (pieces_in checked total offsets k (heads_of (p ∷ ps))) regrouped
    ∙ goes (piece_at checked total offsets k p.head (text ++ others)) (p, others) (λ q. pieces_in checked total offsets (k + 1) (heads_of ps) q.1 >>= λ qs. Ok (q.0 ∷ qs.0, qs.1)) (piece_again checked total offsets k p others pieces.0.holds offset)
    ∙ ap (λ x. x >>= λ qs. Ok (p ∷ qs.0, qs.1)) (pieces_again checked total offsets (k + 1) ps rest pieces.1 (omega arith) given_later)

-- ---- the beginning

pub record StartRead (bytes : List ℕ) (x : Start × List ℕ) : Type 0 where
  pub takes : Takes bytes (start_bytes x.0.flagged x.0.count) x.1
  pub most : x.0.count ≤ 65536
  pub some : x.0.flagged ≡ true → 0 < x.0.count

plain_takes : (bytes : List ℕ) (x : Start × List ℕ) → IsBytes bytes → plain_start_at bytes ≡ Ok x → (x.0.flagged ≡ false) × Takes bytes (four x.0.count) x.1 × (x.0.count ≤ 65536)
unfolding plain_start_at
plain_takes bytes x fits e =
    let n = bind_ok (number_at w32 bytes) (λ n. cond (nat_lt 65536 n.0) (Err faults.TooMany) (Ok (record { flagged = false; count = n.0 }, n.1))) x e in
    let t = number_takes w32 (2 ^ 32) wide32 bytes n.0 fits n.1 in
    let g = guard_ok (nat_lt 65536 n.0.0) faults.TooMany (Ok (record { flagged = false; count = n.0.0 }, n.0.1)) x n.2 in
    subst (λ (y : Start × List ℕ). (y.0.flagged ≡ false) × Takes bytes (four y.0.count) y.1 × (y.0.count ≤ 65536)) (ok_is (record { flagged = false; count = n.0.0 }, n.0.1) x g.1) (refl, t.0, ltb-false _ _ g.0)

both_true : (a b : Bool) → (a && b) ≡ true → (a ≡ true) × (b ≡ true)
both_true true b e = (refl, e)
both_true false b e = absurd cc

plain_start : (flagged : Bool) (n : ℕ) → flagged ≡ false → start_bytes flagged n ≡ four 12346 ++ four n
plain_start true n is = absurd cc
plain_start false n is = refl

pub start_takes : (bytes : List ℕ) (x : Start × List ℕ) → IsBytes bytes → start_at bytes ≡ Ok x → StartRead bytes x
unfolding start_at
start_takes bytes x fits e =
    let choice = λ (a b : ℕ × List ℕ). cond (nat_eq a.0 12347) (Ok (record { flagged = true; count = b.0 + 1 }, b.1)) (cond (nat_eq a.0 12346 && nat_eq b.0 0) (plain_start_at b.1) (Err faults.Cookie)) in
    let p = bind_ok (number_at w16 bytes) (λ a. number_at w16 a.1 >>= λ b. choice a b) x e in
    let q = bind_ok (number_at w16 p.0.1) (λ b. choice p.0 b) x p.2 in
    let s = number_takes w16 65536 wide16 bytes p.0 fits p.1 in
    let t = number_takes w16 65536 wide16 p.0.1 q.0 s.0.rest_fits q.1 in
    let front : Takes bytes (two p.0.0 ++ two q.0.0) q.0.1 = takes_both bytes (two p.0.0) p.0.1 (two q.0.0) q.0.1 s.0 t.0 in
    elim (chosen (nat_eq p.0.0 12347) (Ok (record { flagged = true; count = q.0.0 + 1 }, q.0.1)) (cond (nat_eq p.0.0 12346 && nat_eq q.0.0 0) (plain_start_at q.0.1) (Err faults.Cookie)) (Ok x) q.2) [
      | inl f ↦ (
          let number : q.0.0 ≡ q.0.0 + 1 - 1 = omega arith in
          let text : two p.0.0 ++ two q.0.0 ≡ two 12347 ++ two (q.0.0 + 1 - 1) = ap (λ (n : ℕ). two n ++ two q.0.0) (eqb-true _ _ f.0) ∙ ap (λ (n : ℕ). two 12347 ++ two n) number in
          subst (StartRead bytes) (ok_is (record { flagged = true; count = q.0.0 + 1 }, q.0.1) x f.1) (record { takes = subst (λ (u : List ℕ). Takes bytes u q.0.1) text front; most = omega (arith, t.1); some = λ is. omega arith }))
      | inr f ↦ (
          let g = guarded_ok (nat_eq p.0.0 12346 && nat_eq q.0.0 0) faults.Cookie (plain_start_at q.0.1) x f.1 in
          let tests = both_true (nat_eq p.0.0 12346) (nat_eq q.0.0 0) g.0 in
          let r = plain_takes q.0.1 x t.0.rest_fits g.1 in
          let text : (two p.0.0 ++ two q.0.0) ++ four x.0.count ≡ start_bytes x.0.flagged x.0.count =
          ap (λ (n : ℕ). (two n ++ two q.0.0) ++ four x.0.count) (eqb-true _ _ tests.0) ∙ ap (λ (n : ℕ). (two 12346 ++ two n) ++ four x.0.count) (eqb-true _ _ tests.1) ∙ sym (plain_start x.0.flagged x.0.count r.0) in
          record {
            takes = subst (λ (u : List ℕ). Takes bytes u x.1) text (takes_both bytes (two p.0.0 ++ two q.0.0) q.0.1 (four x.0.count) x.1 front r.1);
            most = r.2;
            some = λ is. let no : true ≡ false = sym is ∙ r.0 in cc;
          })
    ]

abbrev pub flagged_or_plain : ℕ × List ℕ → ℕ × List ℕ → Result (Start × List ℕ) Fault
flagged_or_plain a b = cond (nat_eq a.0 12347) (Ok (record { flagged = true; count = b.0 + 1 }, b.1)) (cond (nat_eq a.0 12346 && nat_eq b.0 0) (plain_start_at b.1) (Err faults.Cookie))

two_numbers : (a b : ℕ) (rest : List ℕ) → a < 65536 → b < 65536 → start_at (two a ++ (two b ++ rest)) ≡ flagged_or_plain (a, two b ++ rest) (b, rest)
unfolding start_at
two_numbers a b rest low high =
    goes (number_at w16 (two a ++ (two b ++ rest))) (a, two b ++ rest) (λ x. number_at w16 x.1 >>= λ y. flagged_or_plain x y) (number_again w16 65536 wide16 a (two b ++ rest) low)
    ∙ goes (number_at w16 (two b ++ rest)) (b, rest) (λ y. flagged_or_plain (a, two b ++ rest) y) (number_again w16 65536 wide16 b rest high)

plain_again : (n : ℕ) (rest : List ℕ) → n ≤ 65536 → plain_start_at (four n ++ rest) ≡ Ok (record { flagged = false; count = n }, rest)
unfolding plain_start_at
plain_again n rest most =
    let test : nat_lt 65536 n ≡ false = le-ltb 65536 n most in
    goes (number_at w32 (four n ++ rest)) (n, rest) (λ m. cond (nat_lt 65536 m.0) (Err faults.TooMany) (Ok (record { flagged = false; count = m.0 }, m.1))) (number_again w32 (2 ^ 32) wide32 n rest (omega arith))
    ∙ ap (λ (b : Bool). cond b (Err faults.TooMany) (Ok (record { flagged = false; count = n }, rest))) test

pub start_again : (flagged : Bool) (n : ℕ) (rest : List ℕ) → n ≤ 65536 → (flagged ≡ true → 0 < n) → start_at (start_bytes flagged n ++ rest) ≡ Ok (record { flagged = flagged; count = n }, rest)
start_again true n rest most some =
    let positive : 0 < n = some refl in
    let whole : n - 1 + 1 ≡ n = omega arith in
    ap start_at (append_assoc (two 12347) (two (n - 1)) rest) ∙ two_numbers 12347 (n - 1) rest (omega arith) (omega arith) ∙ ap (λ (m : ℕ). Ok (record { flagged = true; count = m }, rest)) whole
start_again false n rest most some = two_numbers 12346 0 (four n ++ rest) (omega arith) (omega arith) ∙ plain_again n rest most

-- ---- all of the bytes

pub parts_length : (flagged : Bool) (n : ℕ) → length (start_bytes flagged n) + flag_count flagged n + 4 * n + cond (has_offsets flagged n) (4 * n) 0 ≡ data_start flagged n
parts_length true n = refl
parts_length false n = omega arith

heads_length : (hs : List Head) → length (flat_map head_bytes hs) ≡ 4 * length hs
heads_length hs = even_lengths head_bytes 4 (λ h. refl) hs

heads_count : (ps : List Piece) → length (heads_of ps) ≡ length ps
heads_count [] = refl
heads_count (p ∷ ps) = ap suc (heads_count ps)

pieces_fit : (ps : List Piece) → AllByRecursion IsPiece ps → AllByRecursion HeadFits (heads_of ps)
pieces_fit [] h = tt
pieces_fit (p ∷ ps) h = (record { key = h.0.key; some = h.0.some; most = h.0.most }, pieces_fit ps h.1)

-- what follows each part
abbrev pub ends : List Piece × List ℕ → Result (List Piece) Fault
ends ps = cond (nat_eq (length ps.1) 0) (Ok ps.0) (Err faults.Trailing)

abbrev pub after_offsets : List ℕ → Start → List Head → List ℕ × List ℕ → Result (List Piece) Fault
after_offsets bytes s hs o = pieces_in (has_offsets s.flagged s.count) (length bytes) o.0 0 hs o.1 >>= ends

abbrev pub after_heads : List ℕ → Start → List ℕ × List ℕ → List Head → Result (List Piece) Fault
after_heads bytes s d hs = bytes_at (offsets_len s) d.1 >>= λ o. after_offsets bytes s hs o

abbrev pub after_described : List ℕ → Start → List ℕ × List ℕ → List ℕ × List ℕ → Result (List Piece) Fault
after_described bytes s f d = heads_in f.0 0 0 d.0 >>= λ hs. after_heads bytes s d hs

abbrev pub after_flags : List ℕ → Start → List ℕ × List ℕ → Result (List Piece) Fault
after_flags bytes s f = bytes_at (4 * s.count) f.1 >>= λ d. after_described bytes s f d

abbrev pub after_start : List ℕ → Start × List ℕ → Result (List Piece) Fault
after_start bytes s = bytes_at (flags_len s.0) s.1 >>= λ f. after_flags bytes s.0 f

offsets_are_for : (c : Bool) (o x : List ℕ) (n : ℕ) → length o ≡ cond c (4 * n) 0 → (c ≡ true → o ≡ x) → o ≡ cond c x []
offsets_are_for true o x n len is = is refl
offsets_are_for false o x n len is = nil_from_length o len

offset_bytes_length : (at : ℕ) (ps : List Piece) → length (offset_bytes at ps) ≡ 4 * length ps
offset_bytes_length at [] = omega arith
offset_bytes_length at (p ∷ ps) = let others = offset_bytes_length (at + length (content_bytes p.content)) ps in omega (arith, length-append (four at) (offset_bytes (at + length (content_bytes p.content)) ps))

offsets_length : (c : Bool) (at : ℕ) (ps : List Piece) → length (cond c (offset_bytes at ps) []) ≡ cond c (4 * length ps) 0
offsets_length true at ps = offset_bytes_length at ps
offsets_length false at ps = refl

-- the bytes before some others are a form
abbrev pub FormBefore : List ℕ → List Piece → List ℕ → Type 0
FormBefore bytes qs rest = (flagged : Bool) × (flags : List ℕ) × IsForm flagged flags qs × (bytes ≡ form flagged flags qs ++ rest)

-- what is read was written there
pub front_takes : (bytes : List ℕ) (s : Start × List ℕ) (f d : List ℕ × List ℕ) (hs : List Head) (o : List ℕ × List ℕ) (p : List Piece × List ℕ) → IsBytes bytes
    → start_at bytes ≡ Ok s → bytes_at (flags_len s.0) s.1 ≡ Ok f → bytes_at (4 * s.0.count) f.1 ≡ Ok d → heads_in f.0 0 0 d.0 ≡ Ok hs → bytes_at (offsets_len s.0) d.1 ≡ Ok o
    → pieces_in (has_offsets s.0.flagged s.0.count) (length bytes) o.0 0 hs o.1 ≡ Ok p → FormBefore bytes p.0 p.1
front_takes bytes s f d hs o p fits s_is f_is d_is h_is o_is p_is =
    let st = start_takes bytes s fits s_is in
    let start : Start = s.0 in
    let flagged : Bool = start.flagged in
    let n : ℕ = start.count in
    let ft = bytes_take (flags_len start) s.1 f st.takes.rest_fits f_is in
    let flags : List ℕ = f.0 in
    let dt = bytes_take (4 * n) f.1 d ft.0.rest_fits d_is in
    let described : List ℕ = d.0 in
    let ht = heads_take n 0 0 flags described hs dt.2 dt.1 h_is in
    let ot = bytes_take (offsets_len start) d.1 o dt.0.rest_fits o_is in
    let offsets : List ℕ = o.0 in
    let rest : List ℕ = o.1 in
    let c : Bool = has_offsets flagged n in
    let qs : List Piece = p.0 in
    let front1 = takes_both bytes (start_bytes flagged n) s.1 flags f.1 st.takes ft.0 in
    let front2 = takes_both bytes (start_bytes flagged n ++ flags) f.1 described d.1 front1 dt.0 in
    let front3 = takes_both bytes ((start_bytes flagged n ++ flags) ++ described) d.1 offsets rest front2 ot.0 in
    let before : length (((start_bytes flagged n ++ flags) ++ described) ++ offsets) ≡ data_start flagged n =
    length-append ((start_bytes flagged n ++ flags) ++ described) offsets
    ∙ omega (arith, length-append (start_bytes flagged n ++ flags) described, length-append (start_bytes flagged n) flags, parts_length flagged n, ft.1, dt.1, ot.1) in
    let whole : length bytes ≡ data_start flagged n + length rest = ap length front3.parts ∙ length-append (((start_bytes flagged n ++ flags) ++ described) ++ offsets) rest ∙ ap (λ (k : ℕ). k + length rest) before in
    let place : length bytes - length rest ≡ data_start flagged n = omega arith in
    let room : c ≡ true → length (drop (4 * 0) offsets) ≡ 4 * length hs = λ is. ot.1 ∙ ap (λ (b : Bool). cond b (4 * n) 0) is ∙ ap (λ (k : ℕ). 4 * k) (sym ht.count) in
    let pt = pieces_take c (length bytes) offsets 0 hs rest p ot.0.rest_fits ot.2 (omega arith) ht.fit room p_is in
    let all = takes_both bytes (((start_bytes flagged n ++ flags) ++ described) ++ offsets) rest (data_bytes qs) p.1 front3 pt.takes in
    let m : ℕ = length qs in
    let n_is : n ≡ m = sym ht.count ∙ ap length (sym pt.heads) ∙ heads_count qs in
    let at_is : length bytes - length rest ≡ data_start flagged m = place ∙ ap (data_start flagged) n_is in
    let offsets_is : offsets ≡ offsets_for flagged qs =
    offsets_are_for (has_offsets flagged m) offsets (offset_bytes (data_start flagged m) qs) m (subst (λ (k : ℕ). length offsets ≡ cond (has_offsets flagged k) (4 * k) 0) n_is ot.1)
    (λ is. (pt.offsets_are (ap (has_offsets flagged) n_is ∙ is)).0 ∙ ap (λ (k : ℕ). offset_bytes k qs) at_is) in
    let described_is : described ≡ flat_map head_bytes (heads_of qs) = sym ht.text ∙ ap (λ (xs : List Head). flat_map head_bytes xs) (sym pt.heads) in
    let written : bytes ≡ form flagged flags qs ++ p.1 =
    all.parts
    ∙ ap (λ (k : ℕ). ((((start_bytes flagged k ++ flags) ++ described) ++ offsets) ++ data_bytes qs) ++ p.1) n_is
    ∙ ap (λ (t : List ℕ). ((((start_bytes flagged m ++ flags) ++ t) ++ offsets) ++ data_bytes qs) ++ p.1) described_is
    ∙ ap (λ (t : List ℕ). ((((start_bytes flagged m ++ flags) ++ flat_map head_bytes (heads_of qs)) ++ t) ++ data_bytes qs) ++ p.1) offsets_is in
    let is_form : IsForm flagged flags qs = record {
      pieces = pt.pieces;
      keys = subst (KeysFrom 0) (sym pt.heads) ht.keys;
      count = omega (arith, n_is, st.most);
      some = λ is. omega (arith, n_is, st.some is);
      flags_are = subst (FlagsFrom flags 0) (sym pt.heads) ht.flags_are;
      flags_len = ft.1 ∙ ap (flag_count flagged) n_is;
      offsets = λ is. subst (λ (k : ℕ). OffsetsFit k qs) at_is (pt.offsets_are (ap (has_offsets flagged) n_is ∙ is)).1;
    } in
    (flagged, flags, is_form, written)

pub all_takes : (bytes : List ℕ) (ps : List Piece) → IsBytes bytes → all_of bytes ≡ Ok ps → IsWritten bytes ps
unfolding all_of
all_takes bytes ps fits e =
    let s = bind_ok (start_at bytes) (after_start bytes) ps e in
    let f = bind_ok (bytes_at (flags_len s.0.0) s.0.1) (after_flags bytes s.0.0) ps s.2 in
    let d = bind_ok (bytes_at (4 * s.0.0.count) f.0.1) (after_described bytes s.0.0 f.0) ps f.2 in
    let h = bind_ok (heads_in f.0.0 0 0 d.0.0) (after_heads bytes s.0.0 d.0) ps d.2 in
    let o = bind_ok (bytes_at (offsets_len s.0.0) d.0.1) (after_offsets bytes s.0.0 h.0) ps h.2 in
    let p = bind_ok (pieces_in (has_offsets s.0.0.flagged s.0.0.count) (length bytes) o.0.0 0 h.0 o.0.1) ends ps o.2 in
    let before = front_takes bytes s.0 f.0 d.0 h.0 o.0 p.0 fits s.1 f.1 d.1 h.1 o.1 p.1 in
    let g = guarded_ok (nat_eq (length p.0.1) 0) faults.Trailing (Ok p.0.0) ps p.2 in
    let nothing : p.0.1 ≡ [] = nil_from_length p.0.1 (eqb-true _ _ g.0) in
    let text : List ℕ = form before.0 before.1 p.0.0 in
    let written : bytes ≡ text = before.3 ∙ ap (λ (t : List ℕ). text ++ t) nothing ∙ append-nil text in
    subst (IsWritten bytes) (ok_is p.0.0 ps g.1) (before.0, before.1, before.2, written)

-- what was written is read again, up to bytes that follow
all_again_before : (flagged : Bool) (flags : List ℕ) (ps : List Piece) (more : List ℕ) → IsForm flagged flags ps → all_of (form flagged flags ps ++ more) ≡ ends (ps, more)
unfolding all_of
all_again_before flagged flags ps more is_form =
    let n : ℕ = length ps in
    let bytes : List ℕ = form flagged flags ps ++ more in
    let beginning : List ℕ = start_bytes flagged n in
    let described : List ℕ = flat_map head_bytes (heads_of ps) in
    let offsets : List ℕ = offsets_for flagged ps in
    let c : Bool = has_offsets flagged n in
    let rest4 : List ℕ = data_bytes ps ++ more in
    let rest3 : List ℕ = offsets ++ rest4 in
    let rest2 : List ℕ = described ++ rest3 in
    let rest1 : List ℕ = flags ++ rest2 in
    let start : Start = record { flagged = flagged; count = n } in
    let regrouped : bytes ≡ beginning ++ rest1 =
    append_assoc (((beginning ++ flags) ++ described) ++ offsets) (data_bytes ps) more
    ∙ append_assoc ((beginning ++ flags) ++ described) offsets rest4
    ∙ append_assoc (beginning ++ flags) described rest3
    ∙ append_assoc beginning flags rest2 in
    let described_len : length described ≡ 4 * n = heads_length (heads_of ps) ∙ ap (λ (k : ℕ). 4 * k) (heads_count ps) in
    let offsets_are_long : length offsets ≡ cond c (4 * n) 0 = offsets_length c (data_start flagged n) ps in
    let whole : length bytes ≡ data_start flagged n + length rest4 =
    ap length regrouped ∙ length-append beginning rest1
    ∙ omega (arith, length-append flags rest2, length-append described rest3, length-append offsets rest4, parts_length flagged n, is_form.flags_len) in
    let place : length bytes - length rest4 ≡ data_start flagged n = omega arith in
    let step1 : start_at bytes ≡ Ok (start, rest1) = ap start_at regrouped ∙ start_again flagged n rest1 is_form.count is_form.some in
    let step2 : bytes_at (flags_len start) rest1 ≡ Ok (flags, rest2) = bytes_again (flags_len start) flags rest2 is_form.flags_len in
    let step3 : bytes_at (4 * n) rest2 ≡ Ok (described, rest3) = bytes_again (4 * n) described rest3 described_len in
    let step4 : heads_in flags 0 0 described ≡ Ok (heads_of ps) = heads_again 0 0 flags (heads_of ps) is_form.keys is_form.flags_are (pieces_fit ps is_form.pieces) in
    let step5 : bytes_at (offsets_len start) rest3 ≡ Ok (offsets, rest4) = bytes_again (offsets_len start) offsets rest4 offsets_are_long in
    let given : c ≡ true → (drop (4 * 0) offsets ≡ offset_bytes (length bytes - length rest4) ps) × OffsetsFit (length bytes - length rest4) ps =
    λ is. (ap (λ (b : Bool). cond b (offset_bytes (data_start flagged n) ps) []) is ∙ ap (λ (k : ℕ). offset_bytes k ps) (sym place), subst (λ (k : ℕ). OffsetsFit k ps) (sym place) (is_form.offsets is)) in
    let step6 : pieces_in c (length bytes) offsets 0 (heads_of ps) rest4 ≡ Ok (ps, more) = pieces_again c (length bytes) offsets 0 ps more is_form.pieces (omega arith) given in
    goes (start_at bytes) (start, rest1) (after_start bytes) step1
    ∙ goes (bytes_at (flags_len start) rest1) (flags, rest2) (after_flags bytes start) step2
    ∙ goes (bytes_at (4 * n) rest2) (described, rest3) (after_described bytes start (flags, rest2)) step3
    ∙ goes (heads_in flags 0 0 described) (heads_of ps) (after_heads bytes start (described, rest3)) step4
    ∙ goes (bytes_at (offsets_len start) rest3) (offsets, rest4) (after_offsets bytes start (heads_of ps)) step5
    ∙ goes (pieces_in c (length bytes) offsets 0 (heads_of ps) rest4) (ps, more) ends step6

pub all_again : (flagged : Bool) (flags : List ℕ) (ps : List Piece) → IsForm flagged flags ps → all_of (form flagged flags ps) ≡ Ok ps
all_again flagged flags ps is_form = ap all_of (sym (append-nil (form flagged flags ps))) ∙ all_again_before flagged flags ps [] is_form

-- bytes after a form are told
pub all_trailing : (bytes : List ℕ) (n : ℕ) (ps : List Piece) → n < length bytes → IsWritten (take n bytes) ps → all_of bytes ≡ Err faults.Trailing
all_trailing bytes n ps inside written =
    let more : List ℕ = drop n bytes in
    let some : nat_eq (length more) 0 ≡ false = ne_eqb (length more) 0 (λ e. omega (arith, length-drop n bytes)) in
    sym (ap all_of (take-append-drop n bytes))
    ∙ ap (λ (t : List ℕ). all_of (t ++ more)) written.3
    ∙ all_again_before written.0 written.1 ps more written.2
    ∙ ap (λ (b : Bool). cond b (Ok ps) (Err faults.Trailing)) some

pub is_found : (bytes : List ℕ) (r : Result (Vec Stored) ReadError) → IsBytes bytes → Gives (λ v. pieces_of v.items) r (all_of bytes) → IfOk r (λ v. IsWritten bytes (pieces_of v.items))
is_found bytes (Ok v) fits given = all_takes bytes (pieces_of v.items) fits given
is_found bytes (Err e) fits given = tt

pub is_read : (bytes : List ℕ) (ps : List Piece) → IsWritten bytes ps → all_of bytes ≡ Ok ps
is_read bytes ps written = ap all_of written.3 ∙ all_again written.0 written.1 ps written.2
