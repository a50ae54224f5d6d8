-- Bounds of what iterators have left, kept by each step.
use Rattle.std.proofs.Common.{◌≡◌, ℕ, zero, suc, ◌+◌, ◌<◌, List, [], ◌∷◌, ◌++◌, get_or, length, length-append, sym, ◌∙◌, ap, refl, subst, arith}
use Rattle.std.specs.Prelude.{All, None, Option, Some}
use Rattle.std.specs.Iterator.{YieldsFirst, YieldsLast}

-- each number of a list is small with a base added
abbrev pub Small : ℕ → List ℕ → Type 0
Small base xs = All (λ i. base + i < 65536) xs

small_rest : (base x : ℕ) (xs ys : List ℕ) → xs ≡ x ∷ ys → Small base xs → Small base ys
small_rest base x xs ys is small k d inside =
    let size = ap length is in
    subst (λ n. base + n < 65536) (ap (λ l. get_or l (suc k) d) is) (small (suc k) d (omega arith))

item_before : (ys : List ℕ) (x k d : ℕ) → k < length ys → get_or (ys ++ x ∷ []) k d ≡ get_or ys k d
item_before [] x k d inside = absurd (omega arith)
item_before (y ∷ ys) x zero d inside = refl
item_before (y ∷ ys) x (suc k) d inside = item_before ys x k d (omega arith)

small_front : (base x : ℕ) (xs ys : List ℕ) → xs ≡ ys ++ x ∷ [] → Small base xs → Small base ys
small_front base x xs ys is small k d inside =
    let size = ap length is ∙ length-append ys (x ∷ []) in
    subst (λ n. base + n < 65536) (ap (λ l. get_or l k d) is ∙ item_before ys x k d inside) (small k d (omega arith))

pub small_stepped : {S : Type 0} (rest : S → List ℕ) (s t : S) (r : Option ℕ) (base : ℕ) → YieldsFirst rest s r t → Small base (rest s) → Small base (rest t)
small_stepped rest s t None base step small = subst (Small base) (sym step.1) (λ k d inside. absurd (omega arith))
small_stepped rest s t (Some x) base step small = small_rest base x (rest s) (rest t) step small

pub small_stepped_back : {S : Type 0} (rest : S → List ℕ) (s t : S) (r : Option ℕ) (base : ℕ) → YieldsLast rest s r t → Small base (rest s) → Small base (rest t)
small_stepped_back rest s t None base step small = subst (Small base) (sym step.1) (λ k d inside. absurd (omega arith))
small_stepped_back rest s t (Some x) base step small = small_front base x (rest s) (rest t) step small
