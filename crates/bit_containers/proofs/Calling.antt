-- One more call of a function that keeps a state.
use Rattle.std.proofs.Common.{◌≡◌, ℕ, zero, suc, ◌+◌, ◌-◌, ◌*◌, ◌<◌, ◌≤◌, refl, sym, ap, ◌∙◌, Bool, true, false, cond, List, [], ◌∷◌, ◌++◌, length, get_or, take, drop, ◌%◌, append-nil, arith}
use Rattle.std.proofs.lemmas.List.{take_more, drop_more, drop-drop, take_all, length-take-le}
use Rattle.std.specs.Borrow.{Bor}
use Rattle.std.specs.List.{filter}
use Rattle.bit_addressing.specs.Row.{words_for, number_bits}
use Rattle.bit_containers.specs.BitVec.{Held, Grew, IsKept}
use Rattle.bit_slice.specs.Closures.{ResultsAtEach, kept, keep_where}
use Rattle.bit_rows.proofs.Binary.{number_bits_none}
use Rattle.bit_containers.proofs.Growing.{grew_none}

-- a vector that was kept has grown by nothing
pub grew_kept : {X : Type 0} (w : ℕ) (old new : Held X) → length old.row ≡ w * words_for w (old.head + length old.list) → IsKept old new → Grew w old new []
grew_kept w old new size same =
    let none = grew_none w old size in
    record { head = same.head; len = ap length same.list ∙ none.len; row = same.row ∙ none.row }

-- ---- the bits that stay

kept_cond : (b x : Bool) (bits results : List Bool) → kept (x ∷ bits) (b ∷ results) ≡ cond b (x ∷ kept bits results) (kept bits results)
kept_cond true x bits results = refl
kept_cond false x bits results = refl

-- a test of the bit alone keeps the bits that pass it
kept_by_bit : (test : Bool → Bool) (i : ℕ) (bits : List Bool) → keep_where (λ _ bit. test bit) i bits ≡ filter test bits
kept_by_bit test i [] = refl
kept_by_bit test i (x ∷ bits) = ap (λ l. cond (test x) (x ∷ l) l) (kept_by_bit test (i + 1) bits)

module _ {F : Type 0} (step : F → ℕ → Bor Bool → Bool → F → Type 0) where
  -- one call more adds its result for the next bit
  pub results_at_each_more : (f : F) (i : ℕ) (bits results : List Bool) (g : F) (j : ℕ) (bit : Bool) (shown : Bor Bool) (b : Bool) (h : F) → ResultsAtEach step f i bits results g → step g j shown b h → shown.now ≡ bit → j ≡ i + length bits → ResultsAtEach step f i (bits ++ bit ∷ []) (results ++ b ∷ []) h
  results_at_each_more f i [] results g j bit shown b h run called shows at =
      let same : j ≡ i = omega arith in
      (b, [], h, shown, rw run.0 refl, shows, rw (run.1, ← same) called, (refl, refl))
  results_at_each_more f i (x ∷ bits) results g j bit shown b h run called shows at =
      (run.0, run.1 ++ b ∷ [], run.2, run.3, rw run.4 refl, run.5, run.6, results_at_each_more run.2 (i + 1) bits run.1 g j bit shown b h run.7 called shows (omega arith))

  length-results : (f : F) (i : ℕ) (bits results : List Bool) (g : F) → ResultsAtEach step f i bits results g → length results ≡ length bits
  length-results f i [] results g run = rw run.0 refl
  length-results f i (x ∷ bits) results g run = rw run.4 (ap suc (length-results run.2 (i + 1) bits run.1 g run.7))

  -- where each result is that of a test of the index and the bit, the bits that pass it are kept
  pub kept_where : (test : ℕ → Bool → Bool) → ((f : F) (i : ℕ) (shown : Bor Bool) (given : Bool) (next : F) → step f i shown given next → given ≡ test i shown.now)
      → (f : F) (i : ℕ) (bits results : List Bool) (last : F) → ResultsAtEach step f i bits results last → kept bits results ≡ keep_where test i bits
  kept_where test says f i [] results last run = rw run.0 refl
  kept_where test says f i (x ∷ bits) results last run =
      let same : run.0 ≡ test i x = says f i run.3 run.0 run.2 run.6 ∙ ap (test i) run.5 in
      let rest = kept_where test says run.2 (i + 1) bits run.1 last run.7 in
      rw (run.4, same) (kept_cond (test i x) x bits run.1 ∙ ap (λ l. cond (test i x) (x ∷ l) l) rest)

  -- where each result is that of a test of the bit alone, the bits that pass it are kept
  pub kept_filter : (test : Bool → Bool) → ((f : F) (i : ℕ) (shown : Bor Bool) (given : Bool) (next : F) → step f i shown given next → given ≡ test shown.now)
      → (f : F) (i : ℕ) (bits results : List Bool) (last : F) → ResultsAtEach step f i bits results last → kept bits results ≡ filter test bits
  kept_filter test says f i bits results last run = kept_where (λ _. test) says f i bits results last run ∙ kept_by_bit test i bits

kept_more : (bits results : List Bool) (x b : Bool) → length results ≡ length bits → kept (bits ++ x ∷ []) (results ++ b ∷ []) ≡ kept bits results ++ cond b (x ∷ []) []
kept_more [] [] x true e = refl
kept_more [] [] x false e = refl
kept_more [] (a ∷ results) x b e = absurd (omega arith)
kept_more (y ∷ bits) [] x b e = absurd (omega arith)
kept_more (y ∷ bits) (true ∷ results) x b e = ap (λ l. y ∷ l) (kept_more bits results x b (omega arith))
kept_more (y ∷ bits) (false ∷ results) x b e = kept_more bits results x b (omega arith)

-- the bits that stay so far: those that were written, and those in a number, which are written 64 at a time
abbrev pub staying : List Bool → ℕ → ℕ → List Bool
staying now count number = take (count - count % 64) now ++ number_bits number (count % 64)

-- the bit at `index` was taken to those that stay, or was not
abbrev pub TakesIf : Bool → Bool → ℕ → List Bool → ℕ → ℕ → List Bool → ℕ → ℕ → Type 0
TakesIf b bit index now count number later more next =
    (length later ≡ length now) × (drop (index + 1) later ≡ drop (index + 1) now) × (more ≤ index + 1) × (staying later more next ≡ staying now count number ++ cond b (bit ∷ []) [])

-- a bit that the test refuses leaves what was kept
pub takes_not : (bit : Bool) (index : ℕ) (now : List Bool) (count number : ℕ) → count ≤ index → TakesIf false bit index now count number now count number
takes_not bit index now count number h = (refl, refl, omega arith, sym (append-nil (staying now count number)))

-- a bit that the test passes is kept after those kept before
pub takes_one : (bit : Bool) (index : ℕ) (now : List Bool) (count number : ℕ) (later : List Bool) (next : ℕ) → count ≤ index → length later ≡ length now → drop (count + 1) later ≡ drop (count + 1) now → staying later (count + 1) next ≡ staying now count number ++ bit ∷ [] → TakesIf true bit index now count number later (count + 1) next
takes_one bit index now count number later next h size rest front =
    let on : count + 1 + (index - count) ≡ index + 1 = omega arith in
    (size, ap (λ k. drop k later) (sym on) ∙ sym (drop-drop (index - count) (count + 1) later) ∙ ap (drop (index - count)) rest ∙ drop-drop (index - count) (count + 1) now ∙ ap (λ k. drop k now) on, omega arith, front)

module _ {F : Type 0} (step : F → ℕ → Bor Bool → Bool → F → Type 0) where
  -- the function was called at each bit below `index`
  pub record RetainsUpTo (first : F) (old : List Bool) (f : F) (now : List Bool) (count number index : ℕ) : Type 0 where
    pub beyond : count ≤ index
    pub size : length now ≡ length old
    pub rest : drop index now ≡ drop index old
    pub results : List Bool
    pub gave : ResultsAtEach step first 0 (take index old) results f
    pub front : staying now count number ≡ kept (take index old) results

  -- before the first call nothing is kept and nothing is passed over
  pub retains_nothing : (first : F) (old : List Bool) → RetainsUpTo first old first old 0 0 0
  retains_nothing first old = record { beyond = omega arith; size = refl; rest = refl; results = []; gave = (refl, refl); front = number_bits_none 0 }

  -- one call more
  pub retains_more : (first : F) (old : List Bool) (f : F) (now : List Bool) (count number index : ℕ) (bit : Bool) (shown : Bor Bool) (b : Bool) (h : F) (later : List Bool) (more next : ℕ) → index < length now → bit ≡ get_or now index false → shown.now ≡ bit → step f index shown b h → TakesIf b bit index now count number later more next → RetainsUpTo first old f now count number index → RetainsUpTo first old h later more next (index + 1)
  retains_more first old f now count number index bit shown b h later more next within is shows called takes was =
      let short : index < length old = omega (arith, was.size) in
      let head = drop_more now index false within in
      let other = drop_more old index false short in
      let both = sym head ∙ was.rest ∙ other in
      let tails : drop (index + 1) now ≡ drop (index + 1) old = cc in
      let same_bit : get_or old index false ≡ bit = cc in
      let grown : take (index + 1) old ≡ take index old ++ bit ∷ [] = rw (take_more old index false short, same_bit) refl in
      let reached : index ≡ 0 + length (take index old) = omega (arith, length-take-le index old (omega arith)) in
      let pushed = results_at_each_more step first 0 (take index old) was.results f index bit shown b h was.gave called shows reached in
      let longer = kept_more (take index old) was.results bit b (length-results step first 0 (take index old) was.results f was.gave) in
      record {
        beyond = takes.2;
        size = takes.0 ∙ was.size;
        rest = takes.1 ∙ tails;
        results = was.results ++ b ∷ [];
        gave = rw grown pushed;
        front = takes.3 ∙ ap (λ l. l ++ cond b (bit ∷ []) []) was.front ∙ sym longer ∙ ap (λ l. kept l (was.results ++ b ∷ [])) (sym grown);
      }

  -- after the last call
  pub retains_all : (first : F) (old : List Bool) (f : F) (now : List Bool) (count number index : ℕ) → length old ≤ index → RetainsUpTo first old f now count number index → (results : List Bool) × ResultsAtEach step first 0 old results f × (staying now count number ≡ kept old results)
  retains_all first old f now count number index past was =
      let whole = take_all index old past in
      (was.results, rw whole at was.gave, rw whole at was.front)

-- a list is its front, an item of it and the rest
pub parted_at : (xs : List Bool) (i : ℕ) → i < length xs → xs ≡ take i xs ++ get_or xs i false ∷ drop (i + 1) xs
parted_at (x ∷ xs) zero h = refl
parted_at (x ∷ xs) (suc i) h =
    let next : suc (i + 1) ≡ suc i + 1 = omega arith in
    ap (λ l. x ∷ l) (parted_at xs i (omega arith)) ∙ ap (λ k. x ∷ (take i xs ++ get_or xs i false ∷ drop k (x ∷ xs))) next
parted_at [] i h = absurd (omega arith)

-- where the rests of two lists are equal, the items there are
pub same_there : (xs ys : List Bool) (i : ℕ) {bit : Bool} → i < length xs → i < length ys → drop i ys ≡ drop i xs → bit ≡ get_or ys i false → bit ≡ get_or xs i false
same_there xs ys i short long rest is =
    let left = drop_more xs i false short in
    let right = drop_more ys i false long in
    let both = sym right ∙ rest ∙ left in
    is ∙ cc
