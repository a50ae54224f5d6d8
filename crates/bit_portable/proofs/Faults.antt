-- Which faults come from where.
use Rattle.std.proofs.Common.{◌≡◌, ◌⊎◌, ℕ, ◌+◌, ◌-◌, ◌*◌, Bool, true, false, ◌&&◌, ◌||◌, not, cond, nat_eq, nat_le, nat_lt, List, [], ◌∷◌, length, take, drop, Result, Ok, Err, refl, ap, subst, inl, inr}
use Rattle.std.specs.Int.{Width, w16, byte_len, from_le_bytes}
use Rattle.bit_portable.specs.declared.fault.Fault.{Fault}
use Rattle.bit_portable.specs.declared.fault.Fault.TheVariants as faults
use Rattle.bit_portable.specs.declared.stored.Head.{Head}
use Rattle.bit_portable.specs.Stored.{Numbers, Words, Runs, run_total, word_total}
use Rattle.bit_portable.specs.Form.{flag_at}
use Rattle.bit_portable.specs.Reading.{◌>>=◌, ascends, bytes_at, content_at, counted_runs_at, eights, heads_in, number_at, numbers_at, offset_at, one_head, one_run, piece_at, pieces_in, runs_at, runs_in, twos, words_at}

-- faults that come after the beginning and before the end
abbrev pub IsInner : Fault → Type 0
IsInner faults.Cookie = ⊥
IsInner faults.TooMany = ⊥
IsInner faults.Trailing = ⊥
IsInner _ = Unit {0}

abbrev pub Inner : {A : Type 0} → Result A Fault → Type 0
Inner r = (f : Fault) → r ≡ Err f → IsInner f

abbrev pub failed : {A : Type 0} → Fault → Result A Fault
failed f = Err f

inner_ok : {A : Type 0} (x : A) (f : Fault) → Ok x ≡ failed f → IsInner f
inner_ok x f e = absurd cc

inner_err : {A : Type 0} (g : Fault) → IsInner g → (f : Fault) → failed {A = A} g ≡ failed f → IsInner f
inner_err {A = A} g h f e = let same : g ≡ f = cc in subst IsInner same h

inner_bind : {A B : Type 0} (r : Result A Fault) (k : A → Result B Fault) → ((f : Fault) → r ≡ Err f → IsInner f) → ((x : A) (f : Fault) → k x ≡ Err f → IsInner f) → (f : Fault) → (r >>= k) ≡ Err f → IsInner f
inner_bind (Ok x) k p q f e = q x f e
inner_bind (Err g) k p q f e = inner_err g (p g refl) f e

inner_cond : {A : Type 0} (b : Bool) (x y : Result A Fault) → ((f : Fault) → x ≡ Err f → IsInner f) → ((f : Fault) → y ≡ Err f → IsInner f) → (f : Fault) → cond b x y ≡ Err f → IsInner f
inner_cond true x y p q f e = p f e
inner_cond false x y p q f e = q f e

pub bytes_inner : (n : ℕ) (bytes : List ℕ) (f : Fault) → bytes_at n bytes ≡ Err f → IsInner f
bytes_inner n bytes f e = inner_cond (nat_lt (length bytes) n) (Err faults.Short) (Ok (take n bytes, drop n bytes)) (inner_err faults.Short tt) (inner_ok (take n bytes, drop n bytes)) f e

number_inner : (w : Width) (bytes : List ℕ) (f : Fault) → number_at w bytes ≡ Err f → IsInner f
number_inner w bytes f e = inner_cond (nat_lt (length bytes) (byte_len w)) (Err faults.Short) (Ok (from_le_bytes w (take (byte_len w) bytes), drop (byte_len w) bytes)) (inner_err faults.Short tt) (inner_ok (from_le_bytes w (take (byte_len w) bytes), drop (byte_len w) bytes)) f e

numbers_inner : (n : ℕ) (bytes : List ℕ) (f : Fault) → numbers_at n bytes ≡ Err f → IsInner f
unfolding numbers_at
numbers_inner n bytes f e = inner_bind (bytes_at (2 * n) bytes) (λ b. cond (ascends 0 (twos b.0)) (Ok (Numbers (twos b.0), b.1)) (Err faults.Unsorted)) (bytes_inner (2 * n) bytes)
    (λ b. inner_cond (ascends 0 (twos b.0)) (Ok (Numbers (twos b.0), b.1)) (Err faults.Unsorted) (inner_ok (Numbers (twos b.0), b.1)) (inner_err faults.Unsorted tt)) f e

words_inner : (n : ℕ) (bytes : List ℕ) (f : Fault) → words_at n bytes ≡ Err f → IsInner f
unfolding words_at
words_inner n bytes f e = inner_bind (bytes_at 8192 bytes) (λ b. cond (nat_eq (word_total (eights b.0)) n) (Ok (Words (eights b.0), b.1)) (Err faults.Cardinality)) (bytes_inner 8192 bytes)
    (λ b. inner_cond (nat_eq (word_total (eights b.0)) n) (Ok (Words (eights b.0), b.1)) (Err faults.Cardinality) (inner_ok (Words (eights b.0), b.1)) (inner_err faults.Cardinality tt)) f e

run_inner : (from first more : ℕ) (f : Fault) → one_run from first more ≡ Err f → IsInner f
run_inner from first more f e = inner_cond (nat_lt first from || nat_lt 65535 (first + more)) (Err faults.Runs) (Ok (record { first = first; last = first + more })) (inner_err faults.Runs tt) (inner_ok (record { first = first; last = first + more })) f e

all_runs_inner : (from : ℕ) (bytes : List ℕ) (f : Fault) → runs_in from bytes ≡ Err f → IsInner f
all_runs_inner from (a ∷ b ∷ c ∷ d ∷ rest) f e =
    let first = from_le_bytes w16 (a ∷ b ∷ []) in
    let more = from_le_bytes w16 (c ∷ d ∷ []) in
    inner_bind (one_run from first more) (λ r. runs_in (r.last + 2) rest >>= λ rs. Ok (r ∷ rs)) (run_inner from first more)
    (λ r. inner_bind (runs_in (r.last + 2) rest) (λ rs. Ok (r ∷ rs)) (all_runs_inner (r.last + 2) rest) (λ rs. inner_ok (r ∷ rs))) f e
all_runs_inner from _ f e = absurd cc

counted_inner : (n count : ℕ) (bytes : List ℕ) (f : Fault) → counted_runs_at n count bytes ≡ Err f → IsInner f
unfolding counted_runs_at
counted_inner n count bytes f e =
    let read = bytes_at (4 * count) bytes >>= λ b. runs_in 0 b.0 >>= λ rs. cond (nat_eq (run_total rs) n) (Ok (Runs rs, b.1)) (Err faults.Cardinality) in
    inner_cond (nat_eq count 0) (Err faults.NoRun) read (inner_err faults.NoRun tt)
    (inner_bind (bytes_at (4 * count) bytes) (λ b. runs_in 0 b.0 >>= λ rs. cond (nat_eq (run_total rs) n) (Ok (Runs rs, b.1)) (Err faults.Cardinality)) (bytes_inner (4 * count) bytes)
    (λ b. inner_bind (runs_in 0 b.0) (λ rs. cond (nat_eq (run_total rs) n) (Ok (Runs rs, b.1)) (Err faults.Cardinality)) (all_runs_inner 0 b.0)
    (λ rs. inner_cond (nat_eq (run_total rs) n) (Ok (Runs rs, b.1)) (Err faults.Cardinality) (inner_ok (Runs rs, b.1)) (inner_err faults.Cardinality tt)))) f e

runs_inner : (n : ℕ) (bytes : List ℕ) (f : Fault) → runs_at n bytes ≡ Err f → IsInner f
unfolding runs_at
runs_inner n bytes f e = inner_bind (number_at w16 bytes) (λ count. counted_runs_at n count.0 count.1) (number_inner w16 bytes) (λ count. counted_inner n count.0 count.1) f e

content_inner : (h : Head) (bytes : List ℕ) (f : Fault) → content_at h bytes ≡ Err f → IsInner f
unfolding content_at
content_inner h bytes f e =
    inner_cond h.as_runs (runs_at h.count bytes) (cond (nat_le h.count 4096) (numbers_at h.count bytes) (words_at h.count bytes)) (runs_inner h.count bytes)
    (inner_cond (nat_le h.count 4096) (numbers_at h.count bytes) (words_at h.count bytes) (numbers_inner h.count bytes) (words_inner h.count bytes)) f e

head_inner : (from key others : ℕ) (flag : Bool) (f : Fault) → one_head from key others flag ≡ Err f → IsInner f
head_inner from key others flag f e = inner_cond (nat_lt key from) (Err faults.Keys) (Ok (record { key = key; count = others + 1; as_runs = flag })) (inner_err faults.Keys tt) (inner_ok (record { key = key; count = others + 1; as_runs = flag })) f e

pub heads_inner : (flags : List ℕ) (k from : ℕ) (bytes : List ℕ) (f : Fault) → heads_in flags k from bytes ≡ Err f → IsInner f
heads_inner flags k from (a ∷ b ∷ c ∷ d ∷ rest) f e =
    let key = from_le_bytes w16 (a ∷ b ∷ []) in
    let others = from_le_bytes w16 (c ∷ d ∷ []) in
    inner_bind (one_head from key others (flag_at flags k)) (λ h. heads_in flags (k + 1) (h.key + 1) rest >>= λ hs. Ok (h ∷ hs)) (head_inner from key others (flag_at flags k))
    (λ h. inner_bind (heads_in flags (k + 1) (h.key + 1) rest) (λ hs. Ok (h ∷ hs)) (heads_inner flags (k + 1) (h.key + 1) rest) (λ hs. inner_ok (h ∷ hs))) f e
heads_inner flags k from _ f e = absurd cc

piece_inner : (checked : Bool) (total : ℕ) (offsets : List ℕ) (k : ℕ) (h : Head) (bytes : List ℕ) (f : Fault) → piece_at checked total offsets k h bytes ≡ Err f → IsInner f
unfolding piece_at
piece_inner checked total offsets k h bytes f e =
    let read = content_at h bytes >>= λ x. Ok (record { head = h; content = x.0 }, x.1) in
    inner_cond (checked && not (nat_eq (offset_at offsets k) (total - length bytes))) (Err faults.Offset) read (inner_err faults.Offset tt)
    (inner_bind (content_at h bytes) (λ x. Ok (record { head = h; content = x.0 }, x.1)) (content_inner h bytes) (λ x. inner_ok (record { head = h; content = x.0 }, x.1))) f e

pub pieces_inner : (checked : Bool) (total : ℕ) (offsets : List ℕ) (k : ℕ) (hs : List Head) (bytes : List ℕ) (f : Fault) → pieces_in checked total offsets k hs bytes ≡ Err f → IsInner f
pieces_inner checked total offsets k [] bytes f e = absurd cc
pieces_inner checked total offsets k (h ∷ hs) bytes f e =
    inner_bind (piece_at checked total offsets k h bytes) (λ p. pieces_in checked total offsets (k + 1) hs p.1 >>= λ ps. Ok (p.0 ∷ ps.0, ps.1)) (piece_inner checked total offsets k h bytes)
    (λ p. inner_bind (pieces_in checked total offsets (k + 1) hs p.1) (λ ps. Ok (p.0 ∷ ps.0, ps.1)) (pieces_inner checked total offsets (k + 1) hs p.1) (λ ps. inner_ok (p.0 ∷ ps.0, ps.1))) f e

-- a step that failed, or one after it
pub bind_err : {A B : Type 0} (r : Result A Fault) (k : A → Result B Fault) (f : Fault) → (r >>= k) ≡ Err f → (r ≡ Err f) ⊎ ((x : A) × (r ≡ Ok x) × (k x ≡ Err f))
bind_err (Ok x) k f e = inr (x, refl, e)
bind_err (Err g) k f e = inl (let same : g ≡ f = cc in ap (λ h. Err h) same)
