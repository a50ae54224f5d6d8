-- What is pulled out of an iterator, item by item.
use Rattle.std.proofs.Common.{◌≡◌, ℕ, ◌+◌, ◌-◌, ◌<◌, Bool, List, [], ◌∷◌, ◌++◌, length, slice_range, Option, Some, refl, subst, sym, ◌∙◌, ap, arith}
use Rattle.std.proofs.lemmas.List.{take_all}
use Rattle.std.specs.Iterator.{Yields}
use Rattle.bit_addressing.specs.Row.{put, sized}
use Rattle.bit_addressing.proofs.lists.Shown.{shows_sized, sized_joined}

-- one item more
pub yields_more : {S A : Type 0} (steps : S → Option A → S → Type 0) (s : S) (items : List A) (t : S) (x : A) (u : S) → Yields steps s items t → steps t (Some x) u → Yields steps s (items ++ x ∷ []) u
yields_more steps s [] t x u run step = (u, subst (λ j. steps j (Some x) u) (sym run) step, refl)
yields_more steps s (y ∷ items) t x u run step = (run.0, run.1, yields_more steps run.0 items t x u run.2 step)

-- a bit appended to bits and then false
pub one_more : (w : ℕ) (row bits : List Bool) (n : ℕ) (b : Bool) → 0 < w → length bits ≡ n → row ≡ sized w bits n → put (sized w row (n + 1)) n (b ∷ []) ≡ sized w (bits ++ b ∷ []) (n + 1)
one_more w row bits n b positive size is =
    let same : 0 + n ≡ n = omega arith in
    ap (λ r. put (sized w r (n + 1)) n (b ∷ [])) is ∙ ap (λ m. put (sized w (sized w bits n) (m + 1)) m (b ∷ [])) (sym same) ∙ sized_joined w bits n b positive size

-- the list of bits and then false
pub shows_all : (w : ℕ) (row bits : List Bool) (n : ℕ) → 0 < w → length bits ≡ n → row ≡ sized w bits n → slice_range row 0 (0 + n) ≡ bits
shows_all w row bits n positive size is =
    ap (λ r. slice_range r 0 (0 + n)) is ∙ shows_sized w bits n 0 (0 + n) positive (omega arith) (omega arith) (omega arith) ∙ take_all (0 + n - 0) bits (omega arith)
